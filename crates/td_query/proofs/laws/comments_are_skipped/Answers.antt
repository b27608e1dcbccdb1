-- `comments_are_skipped`: what it answers.
use Rattle.td_query.proofs.TokenRules.{comments_are_skipped, last_comments_are_skipped}
use Rattle.td_query.proofs.TokenRules.{others_are_kept, spaces_are_skipped}
use Rattle.td_query.proofs.laws.comments_are_skipped.Goals as goal

pub returns : goal.returns
returns c =
    record {
      spaces = spaces_are_skipped;
      comments = comments_are_skipped;
      last = last_comments_are_skipped;
      others = others_are_kept;
    }
