-- The rows of a state file: no builder has one.
use Rattle.std.proofs.Common.{◌≡◌, ℕ, true, false, List, [], ◌∷◌, Some, if◌then◌else◌, ap, sym, ◌∙◌}
use Rattle.std.specs.List.{AllByRecursion}
use Rattle.td_rows.specs.declared.key.Key.{Key}
use Rattle.td_rows.specs.declared.row.Row.{Row}
use Rattle.td_rows.specs.Keys.{same_key}
use Rattle.td_rows.specs.StateFile.{Opens, IsStateFile}
use Rattle.td_rows.specs.States.{is_building}
use Rattle.td_rows.specs.Table.{Table, row_of}
use Rattle.td_core.specs.Phases.{NoneBuilt}

opens-row_of : (t : Table) (k : Key) (row : Row) → AllByRecursion Opens t → row_of t k ≡ Some row
    → is_building row.state ≡ false
opens-row_of [] k row each h = cc
opens-row_of (p ∷ t) k row each h =
    elim (same_key k p.0) as (λ b.
    (if b then Some p.1 else row_of t k) ≡ Some row → is_building row.state ≡ false) [
      | true ↦
          λ g. let own : row ≡ p.1 = cc in ap (λ (r : Row). is_building r.state) own ∙ each.0.free
      | false ↦ λ g. opens-row_of t k row each.1 g
    ] h

pub NoneBuilt-state_file : {lines : List (List ℕ)} {t : Table} → IsStateFile lines t → NoneBuilt t
NoneBuilt-state_file file k row h =
    opens-row_of file.rows k row file.written.opening (sym (file.same k) ∙ h)
