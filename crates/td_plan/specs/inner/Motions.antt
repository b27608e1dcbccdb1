-- What a plan has to do with the rows of a source, as the code has it. This project's own.
use Rattle.std.specs.Prelude.{◌≡◌, ℕ, ◌<◌, false, Option, Some, length, slice_get}
use Rattle.std.specs.Prelude.{if◌then◌else◌}
use Rattle.std.specs.Option.{option_map_or}
use Rattle.td_rows.specs.declared.row.Row.{Row}
use Rattle.td_indices.specs.Sources.{KeptSource}
use Rattle.td_plan.specs.declared.due.Motion.{Motion}
use Rattle.td_plan.specs.declared.due.Motion.TheVariants.{Due, Pending, Still}
use Rattle.td_plan.specs.declared.due.Motions.{Motions}
use Rattle.td_plan.specs.Due.{arrival_number, has_number, is_due, is_pending, is_under_way}
use Rattle.td_plan.specs.Due.{number_of}
use Rattle.td_plan.specs.Premises.{Premises}

-- a row that asks for a rebuild and isn't due is pending if its build is under way, with the
-- row's number
abbrev pub row_motion : Option Row → Motion
row_motion row = if option_map_or (λ r. is_under_way r.state) row false
    then Pending (option_map_or (λ r. r.number) row 0) else Still

-- what a plan has to do with a source's row at a place: it is due; or pending, and arrives under
-- this number; or neither
abbrev pub motion_at : Premises → KeptSource → ℕ → Motion
motion_at p s place = if is_due p s place then Due
    else (if is_pending p s place then Pending (arrival_number p s place) else Still)

-- the number of a source's due rows, whether it has one left, and what a plan has to do with its
-- row at each place
pub record AreMotions (p : Premises) (s : KeptSource) (m : Motions) : Type 0 where
  pub number : m.number ≡ number_of p s
  pub numbered : m.is_numbered ≡ has_number p s
  pub len : length m.at.items ≡ length p.archive.table
  pub at : (place : ℕ) → place < length p.archive.table
      → slice_get m.at.items place ≡ Some (motion_at p s place)
