-- What a look-up by key gives.
use Rattle.std.proofs.Common.{◌≡◌, ℕ, slice_get, true, false, cond, [], ◌∷◌, Some, ap, refl, sym}
use Rattle.std.proofs.Common.{subst, ◌∙◌}
use Rattle.std.specs.Map.{lookup, lookup_key}
use Rattle.td_rows.specs.declared.key.Key.{Key}
use Rattle.td_rows.specs.declared.row.Row.{Row}
use Rattle.td_rows.specs.Keys.{same_key}
use Rattle.td_rows.specs.Table.{Table, IsAt, row_of}
use Rattle.td_rows.proofs.Keys.{same_key-true}

pub lookup-row_of : (k : Key) (t : Table) → lookup (same_key k) t ≡ row_of t k
lookup-row_of k [] = refl
lookup-row_of k (p ∷ t) = ap (cond (same_key k p.0) (Some p.1)) (lookup-row_of k t)

-- the key that is found passes the test
pub lookup_key-passes : (k q : Key) (t : Table) → lookup_key (same_key k) t ≡ Some q
    → same_key k q ≡ true
lookup_key-passes k q [] h = cc
lookup_key-passes k q (p ∷ t) h =
    elim (same_key k p.0) as (λ b.
    same_key k p.0 ≡ b → cond b (Some p.0) (lookup_key (same_key k) t) ≡ Some q
    → same_key k q ≡ true) [
      | true ↦ λ e is. let at : p.0 ≡ q = cc in subst (λ (x : Key). same_key k x ≡ true) at e
      | false ↦ λ _ later. lookup_key-passes k q t later
    ] refl h

-- the entry that is found is the key's
pub IsAt-found : (t : Table) (k q : Key) (row : Row) (n : ℕ) → Some q ≡ lookup_key (same_key k) t
    → slice_get t n ≡ Some (q, row) → IsAt t k n
IsAt-found t k q row n found at =
    let same : k ≡ q = same_key-true k q (lookup_key-passes k q t (sym found)) in
    record { row = row; at = at ∙ ap (λ (x : Key). Some (x, row)) (sym same) }
