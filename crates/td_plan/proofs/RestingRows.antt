-- A row that is due isn't on its way.
use Rattle.std.proofs.Common.{◌≡◌, true, false, Option, None, Some, refl}
use Rattle.std.specs.Option.{option_map_or}
use Rattle.std.proofs.lemmas.Bool.{and_parts, and_right, false≢true}
use Rattle.td_rows.specs.declared.row.Row.{Row}
use Rattle.td_rows.specs.declared.state.State.{State}
use Rattle.td_rows.specs.declared.state.State.TheVariants.{NeedsBuild, Building, Built, Uploaded}
use Rattle.td_rows.specs.declared.state.State.TheVariants.{Installed, DepWait, BdUninstallable}
use Rattle.td_rows.specs.declared.state.State.TheVariants.{BuildAttempted, Failed, NotForUs}
use Rattle.td_rows.specs.States.{is_installed}
use Rattle.td_plan.specs.Due.{has_number, is_ready, is_under_way, is_wanted}
use Rattle.td_plan.specs.Premises.{has_row_that, row_at}
use Rattle.td_plan.specs.RowLaws.{DueRowsAreNotPending}

installed-rests : (state : State) → is_installed state ≡ true → is_under_way state ≡ false
installed-rests NeedsBuild h = absurd (false≢true h)
installed-rests (Building b) h = absurd (false≢true h)
installed-rests Built h = absurd (false≢true h)
installed-rests Uploaded h = absurd (false≢true h)
installed-rests DepWait h = absurd (false≢true h)
installed-rests Installed h = refl
installed-rests BdUninstallable h = refl
installed-rests BuildAttempted h = refl
installed-rests Failed h = refl
installed-rests NotForUs h = refl

row-rests : (o : Option Row) → option_map_or (λ r. is_installed r.state) o false ≡ true
    → option_map_or (λ r. is_under_way r.state) o false ≡ false
row-rests None h = refl
row-rests (Some row) h = installed-rests row.state h

pub due_rows_rest : DueRowsAreNotPending
due_rows_rest p s place due =
    let both = and_parts (has_number p s) (is_ready p s place) due in
    let ready = and_parts (is_wanted p s place) _ both.1 in
    let installed = and_parts (has_row_that (λ r. is_installed r.state) p s place) _ ready.1 in
    and_right (is_wanted p s place) (has_row_that (λ r. is_under_way r.state) p s place)
    (row-rests (row_at p s place) installed.0)
