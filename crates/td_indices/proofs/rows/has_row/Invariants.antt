-- What the loop of `has_row` keeps, and what gets less.
use Rattle.std.proofs.Common.{◌≡◌, ◌&&◌, ◌==◌, not, length}
use Rattle.std.specs.List.{list_any}
use Rattle.td_relation.specs.TableView.{table}
use Rattle.td_indices.specs.Rows.{has_row, matches_at}
use Rattle.td_indices.specs.Texts.{words_left, left_len}
use Rattle.td_indices.proofs.rows.has_row.Given as goal

abbrev pub decreases-loop-rest : goal.decreases-loop-rest
decreases-loop-rest l = left_len l.rest

-- what is left decides
abbrev pub invariant-loop-rest : goal.invariant-loop-rest
invariant-loop-rest l =
    list_any (λ w. not (length w == 0) && matches_at (table l.archs) l.place w) (words_left l.rest)
    ≡ has_row (table l.archs) l.fn.words l.place
