-- Rows that are inserted in the order of their keys.
use Rattle.std.proofs.Common.{◌≡◌, true, false, [], ◌∷◌, ◌++◌, Some, None, if◌then◌else◌, ap, refl}
use Rattle.std.proofs.Common.{sym, subst, ◌∙◌, append_assoc, append-nil}
use Rattle.std.specs.Ordering.{is_lt}
use Rattle.std.proofs.lemmas.Bool.{and_parts}
use Rattle.indexmap.specs.IndexMap.{insert_entry, insert_all}
use Rattle.td_rows.specs.declared.key.Key.{Key}
use Rattle.td_rows.specs.declared.row.Row.{Row}
use Rattle.td_rows.specs.Keys.{key_cmp, same_key, below_all, ascending}
use Rattle.td_rows.specs.Table.{Table, row_of, keys_of}
use Rattle.td_rows.proofs.Keys.{same_key-apart, below-apart}

-- a key that has no row goes last
pub insert_entry-absent : (t : Table) (k : Key) (row : Row) → row_of t k ≡ None
    → insert_entry same_key t k row ≡ t ++ (k, row) ∷ []
insert_entry-absent [] k row gone = refl
insert_entry-absent (p ∷ t) k row gone =
    elim (same_key k p.0) as (λ b.
    (if b then Some p.1 else row_of t k) ≡ None
    → ◌≡◌ {A = Table} (if b then (p.0, row) ∷ t else p ∷ insert_entry same_key t k row)
    (p ∷ t ++ (k, row) ∷ [])) [
      | true ↦ λ g. absurd cc
      | false ↦ λ g. ap (λ (u : Table). p ∷ u) (insert_entry-absent t k row g)
    ] gone

below-member : (x : Key) (t : Table) (k : Key) (row : Row) (rest : Table)
    → below_all x (keys_of (t ++ (k, row) ∷ rest)) ≡ true → is_lt (key_cmp x k) ≡ true
below-member x [] k row rest h = (and_parts (is_lt (key_cmp x k)) (below_all x (keys_of rest)) h).0
below-member x (p ∷ t) k row rest h =
    below-member x t k row rest
    (and_parts (is_lt (key_cmp x p.0)) (below_all x (keys_of (t ++ (k, row) ∷ rest))) h).1

-- a key has no row before its own
pub row_of-before : (t : Table) (k : Key) (row : Row) (rest : Table)
    → ascending (keys_of (t ++ (k, row) ∷ rest)) ≡ true → row_of t k ≡ None
row_of-before [] k row rest up = refl
row_of-before (p ∷ t) k row rest up =
    let both = and_parts (below_all p.0 (keys_of (t ++ (k, row) ∷ rest)))
    (ascending (keys_of (t ++ (k, row) ∷ rest))) up in
    let other : same_key k p.0 ≡ false =
    same_key-apart p.0 k (below-apart p.0 k (below-member p.0 t k row rest both.0)) in
    ap (λ b. if b then Some p.1 else row_of t k) other ∙ row_of-before t k row rest both.1

-- rows whose keys rise stay in their order
pub insert_all-ascending : (t more : Table) → ascending (keys_of (t ++ more)) ≡ true
    → insert_all same_key t more ≡ t ++ more
insert_all-ascending t [] up = sym (append-nil t)
insert_all-ascending t (p ∷ more) up =
    let put : insert_entry same_key t p.0 p.1 ≡ t ++ p ∷ [] =
    insert_entry-absent t p.0 p.1 (row_of-before t p.0 p.1 more up) in
    let joined : (t ++ p ∷ []) ++ more ≡ t ++ p ∷ more = append_assoc t (p ∷ []) more in
    ap (λ (u : Table). insert_all same_key u more) put
    ∙ insert_all-ascending (t ++ p ∷ []) more
    (subst (λ (u : Table). ascending (keys_of u) ≡ true) (sym joined) up) ∙ joined
