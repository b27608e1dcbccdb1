-- What may be between tokens.
use Rattle.std.proofs.Common.{ℕ, List, ◌∷◌, ◌++◌, Option, option_map, refl, ap, ◌∙◌}
use Rattle.std.proofs.lemmas.Bool.{ne_eqb}
use Rattle.td_text.proofs.Cut.{cut-at, cut_none}
use Rattle.td_query.specs.TokenRules.{CommentsAreSkipped, LastCommentsAreSkipped, OthersAreKept}
use Rattle.td_query.specs.TokenRules.{SpacesAreSkipped}
use Rattle.td_query.specs.Tokens.{skipped_in}
use Rattle.td_query.proofs.Skips.{comment, skipped_all, skipped-space}

-- what is left after the newline that ends a comment, once it is skipped
line_of : Option (List ℕ × List ℕ) → List ℕ
line_of o = skipped_all (option_map (λ (p : List ℕ × List ℕ). p.1) o)

pub spaces_are_skipped : SpacesAreSkipped
spaces_are_skipped x t is = skipped-space x t is

pub comments_are_skipped : CommentsAreSkipped
unfolding skipped_in line_of
comments_are_skipped text t none =
    comment (text ++ 10 ∷ t) ∙ ap line_of (cut-at 10 text t none)

pub last_comments_are_skipped : LastCommentsAreSkipped
unfolding skipped_in line_of
last_comments_are_skipped text none = comment text ∙ ap line_of (cut_none 10 text none)

pub others_are_kept : OthersAreKept
unfolding skipped_in
others_are_kept x t space hash = rw (space, ne_eqb x 35 hash) refl
