-- What the desk's seat knows of each row at rest, in the words of the rows' states.
use Rattle.std.proofs.Common.{◌≡◌, ◌↔◌, ℕ, zero, suc, List, [], ◌∷◌, Some, slice_get, ap, refl, sym}
use Rattle.std.proofs.Common.{subst, ◌∙◌}
use Rattle.std.proofs.lemmas.Option.{same_Some}
use Rattle.td_board.specs.declared.views.RowView.{RowView}
use Rattle.td_board.specs.declared.views.RowView.TheVariants.{Out, Known}
use Rattle.td_rows.specs.declared.key.Key.{Key}
use Rattle.td_rows.specs.declared.row.Row.{Row}
use Rattle.td_rows.specs.declared.state.State.{State}
use Rattle.td_rows.specs.declared.state.State.TheVariants.{NeedsBuild, Building}
use Rattle.td_rows.specs.Table.{Table}
use Rattle.td_book.specs.AtRest.{AreServed}
use Rattle.td_book.specs.Seen.{known_as, seen_off}

-- offered exactly where it needs a build
known-offered : (s : State) → (Some (known_as s) ≡ Some Out) ↔ (s ≡ NeedsBuild)
known-offered NeedsBuild = (λ e. refl, λ e. refl)
known-offered s = (λ e. absurd (cc), λ e. absurd (cc))

-- known to be a builder's exactly where it is Building by it
known-built : (s : State) (b : ℕ) → (Some (known_as s) ≡ Some (Known b)) ↔ (s ≡ Building b)
known-built (Building a) b = (λ e. cc, λ e. cc)
known-built s b = (λ e. absurd (cc), λ e. absurd (cc))

-- what is known of the row with a number
view-at : (t : Table) (i : ℕ) (k : Key) (row : Row) → slice_get t i ≡ Some (k, row)
    → slice_get (seen_off [] t) i ≡ Some (known_as row.state)
view-at [] i k row at = absurd (cc)
view-at (p ∷ t) zero k row at =
    ap (λ (q : Key × Row). Some (known_as q.1.state)) (same_Some p (k, row) at)
view-at (p ∷ t) (suc i) k row at = view-at t i k row at

-- all rows of a view that follows from them
pub served : (view : List RowView) (t : Table) → view ≡ seen_off [] t → AreServed view t
served view t same i k row at =
    let is = ap (λ (v : List RowView). slice_get v i) same in
    let here = view-at t i k row at in
    subst (λ x. ((x ≡ Some Out) ↔ (row.state ≡ NeedsBuild))
    × ((b : ℕ) → (x ≡ Some (Known b)) ↔ (row.state ≡ Building b)))
    (sym (is ∙ here)) (known-offered row.state, λ b. known-built row.state b)
