-- `atoms_are_read_as_written`: what it answers.
use Rattle.td_query.proofs.AtomRules.{false_is_read, patterns_are_read, texts_are_read}
use Rattle.td_query.proofs.AtomRules.{true_is_read}
use Rattle.td_query.proofs.laws.atoms_are_read_as_written.Goals as goal

pub returns : goal.returns
returns c =
    record {
      yes = true_is_read;
      no = false_is_read;
      texts = texts_are_read;
      patterns = patterns_are_read;
    }
