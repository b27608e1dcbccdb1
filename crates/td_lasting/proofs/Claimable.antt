-- Whether a builder may take a row.
use Rattle.std.proofs.Common.{◌≡◌, ℕ, Bool, true, false, Option, Some, None, is_some}
use Rattle.std.proofs.Common.{option_map}
use Rattle.std.proofs.Common.{sym, ap, ◌∙◌}
use Rattle.std.specs.Prelude.{slice_get}
use Rattle.std.specs.Borrow.{Bor}
use Rattle.td_rows.specs.declared.key.Key.{Key}
use Rattle.td_rows.specs.declared.row.Row.{Row}
use Rattle.td_rows.specs.Keys.{ascending}
use Rattle.td_rows.specs.Table.{IsAt, Table, keys_of, row_of}
use Rattle.td_rows.proofs.Tables.{row_of-at}
use Rattle.td_core.specs.History.{History, rows_of}
use Rattle.td_core.proofs.Phases.{keys_of-rows_of}

-- the keys of the rows rise, as those of the opening rows do
pub rows_rise : (h : History) → ascending (keys_of h.opening) ≡ true
    → ascending (keys_of (rows_of h)) ≡ true
rows_rise h up = ap ascending (keys_of-rows_of h) ∙ up

-- the key's row, with its number
pub record IsRowAt (t : Table) (k : Key) (number : ℕ) (row : Row) : Type 0 where
  pub at : slice_get t number ≡ Some (k, row)
  pub found : row_of t k ≡ Some row

-- what is read at the number of a key is its row
pub row_at : (t : Table) (k q : Key) (number : ℕ) (row : Row) → ascending (keys_of t) ≡ true
    → IsAt t k number → Some (q, row) ≡ slice_get t number → IsRowAt t k number row
row_at t k q number row up here read =
    let both : Some (q, row) ≡ Some (k, here.row) = read ∙ here.at in
    let pair : (q, row) ≡ (k, here.row) = cc in
    let same : row ≡ here.row = ap (λ (p : Key × Row). p.1) pair in
    let at : slice_get t number ≡ Some (k, row) =
    here.at ∙ ap (λ (r : Row). Some (k, r)) (sym same) in
    record { at = at; found = row_of-at t k number row up at }

-- whether a builder has a row
pub some_held : (found : Option (Bor Key)) (o : Option Key) (is : Bool)
    → option_map (λ k. k.now) found ≡ o → is ≡ is_some found → is ≡ true → is_some o ≡ true
some_held None o is same tells has = absurd (let bad : true ≡ false = sym has ∙ tells in cc)
some_held (Some k) o is same tells has = ap (λ (x : Option Key). is_some x) (sym same)

pub none_held : (found : Option (Bor Key)) (o : Option Key) (is : Bool)
    → option_map (λ k. k.now) found ≡ o → is ≡ is_some found → is ≡ false → o ≡ None
none_held None o is same tells has = sym same
none_held (Some k) o is same tells has =
    absurd (let bad : false ≡ true = sym has ∙ tells in cc)

-- what is read at a number is the row there
pub row_same : (t : Table) (number : ℕ) (q k : Key) (row r : Row)
    → Some (q, row) ≡ slice_get t number → slice_get t number ≡ Some (k, r) → row ≡ r
row_same t number q k row r read at =
    let both : Some (q, row) ≡ Some (k, r) = read ∙ at in
    let pair : (q, row) ≡ (k, r) = cc in
    ap (λ (p : Key × Row). p.1) pair

-- there is one
pub no_row_there : (t : Table) (number : ℕ) (k : Key) (r : Row) → None ≡ slice_get t number
    → slice_get t number ≡ Some (k, r) → ⊥
no_row_there t number k r read at = let both : None ≡ Some (k, r) = read ∙ at in cc
