-- `has_row`: its loop.
use Rattle.std.proofs.Common.{ℕ, List, ◌==◌, not, length}
use Rattle.std.specs.List.{slice_split}
use Rattle.td_text.specs.Runs.{is_space}
use Rattle.td_relation.specs.TableView.{table}
use Rattle.td_indices.specs.Rows.{matches_at}
use Rattle.td_supply.proofs.Places.{any-filter}
use Rattle.td_indices.proofs.rows.has_row.Goals as goal

pub loop-rest-init : goal.loop-rest-init
loop-rest-init c =
    any-filter (λ (w : List ℕ). not (length w == 0))
    (matches_at (table c.args.archs.now) c.args.place) (slice_split is_space c.args.words.now)
