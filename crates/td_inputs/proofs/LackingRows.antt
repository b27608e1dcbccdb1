-- Among the lines of a state file, the first of a row that other rows haven't.
use Rattle.std.proofs.Common.{◌≡◌, ◌⊎◌, ℕ, suc, zero, ◌+◌, Bool, true, false, cond, List, [], ◌∷◌}
use Rattle.std.proofs.Common.{◌++◌, length, map, Option, Some, None, is_none, is_some, not}
use Rattle.std.proofs.Common.{refl, sym, ap, subst, ◌∙◌, slice_get, arith, inl, inr}
use Rattle.std.specs.Prelude.{◌↔◌, IfNone, IfSome, IsTrue}
use Rattle.std.specs.List.{AllByRecursion, filter}
use Rattle.std.proofs.lemmas.Option.{some_pair_parts}
use Rattle.td_text.specs.Lines.{lines_of}
use Rattle.td_text.proofs.Chain.{some_is}
use Rattle.td_rows.specs.Keys.{same_key}
use Rattle.td_rows.specs.Overlay.{first_missing}
use Rattle.td_rows.specs.RowLine.{row_line}
use Rattle.td_rows.specs.RowReading.{row_line_at}
use Rattle.td_rows.specs.StateFile.{Opens, is_filled}
use Rattle.td_rows.specs.Table.{IsAt, Table, row_of}
use Rattle.td_rows.specs.declared.key.Key.{Key}
use Rattle.td_rows.specs.declared.row.Row.{Row}
use Rattle.td_rows.proofs.Keys.{same_key-refl, same_key-true}
use Rattle.td_rows.proofs.RowLines.{row_exact}
use Rattle.td_inputs.specs.Lacking.{IsFirstLacking, LacksRow}
use Rattle.td_inputs.specs.inner.StateOver.{LacksPlace}

-- ---- a line

-- a line that isn't read is no row's
pub unread_lacks : (t : Table) (line : List ℕ) → None ≡ row_line_at line → LacksRow t line → ⊥
unread_lacks t line none lacks =
    let read : row_line_at line ≡ Some lacks.row =
    ap row_line_at lacks.spelled ∙ row_exact.again lacks.row lacks.fits in
    let bad : None ≡ Some lacks.row = none ∙ read in cc

-- a line that is read lacks its row if no row has its key
pub read_lacks : (t : Table) (line : List ℕ) (p : Key × Row) → Some p ≡ row_line_at line
    → row_of t p.0 ≡ None → LacksRow t line
read_lacks t line p is missing =
    let found = row_exact.found line p (sym is) in
    record { row = p; spelled = found.0; fits = found.1; missing = missing }

-- a line that is read and lacks its row has a key that no row has
pub lacks_read : (t : Table) (line : List ℕ) (p : Key × Row) → Some p ≡ row_line_at line
    → LacksRow t line → row_of t p.0 ≡ None
lacks_read t line p is lacks =
    let read : row_line_at line ≡ Some lacks.row =
    ap row_line_at lacks.spelled ∙ row_exact.again lacks.row lacks.fits in
    subst (λ (q : Key × Row). row_of t q.0 ≡ None) (some_is lacks.row p (sym (is ∙ read)))
    lacks.missing

-- a row with a number is there
pub found_at : (t : Table) (k : Key) (n : ℕ) (row : Row) → slice_get t n ≡ Some (k, row)
    → row_of t k ≡ None → ⊥
found_at [] k zero row at none = cc
found_at [] k (suc n) row at none = cc
found_at (p ∷ t) k zero row at none =
    let parts = some_pair_parts p.0 k p.1 row at in
    let same : same_key k p.0 ≡ true =
    subst (λ (q : Key). same_key k q ≡ true) (sym parts.0) (same_key-refl k) in
    let bad : Some p.1 ≡ None =
    sym (ap (λ b. cond b (Some p.1) (row_of t k)) same) ∙ none in cc
found_at (p ∷ t) k (suc n) row at none =
    elim (same_key k p.0) as (λ b. cond b (Some p.1) (row_of t k) ≡ None → ⊥) [
      | true ↦ λ e. cc
      | false ↦ λ e. found_at t k n row at e
    ] none

-- whether a line that is read lacks its row, by the number of its key's row
pub found_lacks : (t : Table) (line : List ℕ) (p : Key × Row) (o : Option ℕ) (b : Bool)
    → Some p ≡ row_line_at line → IfSome o (IsAt t p.0) → IfNone o (row_of t p.0 ≡ None)
    → is_some o ≡ not b → IsTrue b ↔ LacksRow t line
found_lacks t line p None true is found absent some =
    (λ e. read_lacks t line p is absent, λ lacks. refl)
found_lacks t line p None false is found absent some = cc
found_lacks t line p (Some n) true is found absent some = cc
found_lacks t line p (Some n) false is found absent some = (
  λ e. absurd cc,
  λ lacks. absurd (found_at t p.0 n found.row found.at (lacks_read t line p is lacks)),
)

-- no empty line is a row's
pub empty_lacks : (t : Table) (line : List ℕ) → length line ≡ 0 → LacksRow t line → ⊥
empty_lacks t line empty lacks =
    let long : 0 ≡ length (row_line lacks.row) = sym empty ∙ ap length lacks.spelled in
    row_line_long lacks.row (sym long)
  where
    behind : (xs ys : List ℕ) (x : ℕ) → length (xs ++ x ∷ ys) ≡ 0 → ⊥
    behind [] ys x e = omega (arith, e)
    behind (y ∷ xs) ys x e = omega (arith, e)

    row_line_long : (p : Key × Row) → length (row_line p) ≡ 0 → ⊥
    row_line_long p e = behind _ _ 32 e

-- whether a line lacks its row
pub decided : (t : Table) (line : List ℕ) → LacksRow t line ⊎ (LacksRow t line → ⊥)
decided t line = by (row_line_at line) refl
  where
    by : (o : Option (Key × Row)) → o ≡ row_line_at line → LacksRow t line ⊎ (LacksRow t line → ⊥)
    by None is = inr (unread_lacks t line is)
    by (Some p) is = there (row_of t p.0) refl
      where
        there : (r : Option Row) → row_of t p.0 ≡ r → LacksRow t line ⊎ (LacksRow t line → ⊥)
        there None e = inl (read_lacks t line p is e)
        there (Some r) e =
            inr (λ lacks. let bad : Some r ≡ None = sym e ∙ lacks_read t line p is lacks in cc)

-- ---- lines

-- the first line that lacks its row, of lines that are counted from this number on
abbrev pub IsFirstFrom : Table → ℕ → List (List ℕ) → ℕ → Type 0
IsFirstFrom t start [] number = ⊥
IsFirstFrom t start (line ∷ lines) number =
    ((number ≡ start) × LacksRow t line)
    ⊎ ((LacksRow t line → ⊥) × IsFirstFrom t (start + 1) lines number)

-- the first line that lacks its row, counted from 1 on and in parts
record IsPart (t : Table) (start : ℕ) (lines : List (List ℕ)) (number : ℕ) : Type 0 where
  before : List (List ℕ)
  line : List ℕ
  after : List (List ℕ)
  parts : lines ≡ before ++ line ∷ after
  numbered : number ≡ start + length before
  lacks : LacksRow t line
  others : AllByRecursion (λ l. LacksRow t l → ⊥) before

in_parts : (t : Table) (start : ℕ) (lines : List (List ℕ)) (number : ℕ)
    → IsFirstFrom t start lines number → IsPart t start lines number
in_parts t start [] number first = absurd first
in_parts t start (line ∷ lines) number (inl here) = record {
  before = [];
  line = line;
  after = lines;
  parts = refl;
  numbered = let is = here.0 in omega (arith, is);
  lacks = here.1;
  others = tt;
}
in_parts t start (line ∷ lines) number (inr later) =
    let rest = in_parts t (start + 1) lines number later.1 in
    record {
      before = line ∷ rest.before;
      line = rest.line;
      after = rest.after;
      parts = ap (λ (l : List (List ℕ)). line ∷ l) rest.parts;
      numbered = let is = rest.numbered in omega (arith, is);
      lacks = rest.lacks;
      others = (later.0, rest.others);
    }

pub first_lacking_of : (t : Table) (lines : List (List ℕ)) (number : ℕ)
    → IsFirstFrom t 1 lines number → IsFirstLacking t lines number
first_lacking_of t lines number first =
    let p = in_parts t 1 lines number first in
    record {
      before = p.before;
      line = p.line;
      after = p.after;
      parts = p.parts;
      numbered = p.numbered;
      lacks = p.lacks;
      others = p.others;
    }

-- ---- a state file has such a line if one of its rows has no place

-- a key that is missing, and the row that it has
missing_row : (t others : Table) (k : Key) → first_missing t others ≡ Some k
    → (row_of t k ≡ None) × ((row : Row) × (row_of others k ≡ Some row))
missing_row t [] k e = cc
missing_row t (p ∷ others) k e = by (row_of t p.0) refl e (missing_row t others k)
  where
    later : (b : Bool) (row : Row) → row_of others k ≡ Some row
        → (r : Row) × (cond b (Some p.1) (row_of others k) ≡ Some r)
    later true row is = (p.1, refl)
    later false row is = (row, is)

    by : (o : Option Row) → row_of t p.0 ≡ o
        → cond (is_none o) (Some p.0) (first_missing t others) ≡ Some k
        → (first_missing t others ≡ Some k
        → (row_of t k ≡ None) × ((row : Row) × (row_of others k ≡ Some row)))
        → (row_of t k ≡ None) × ((row : Row) × (row_of (p ∷ others) k ≡ Some row))
    by None none h rest =
        let same : p.0 ≡ k = cc in (
          subst (λ (q : Key). row_of t q ≡ None) same none,
          (
            p.1,
            ap (λ b. cond b (Some p.1) (row_of others k))
                (subst (λ (q : Key). same_key k q ≡ true) (sym same) (same_key-refl k)),
          ),
        )
    by (Some r) is h rest =
        let found = rest h in (found.0, later (same_key k p.0) found.1.0 found.1.1)

first_in : (t rows : Table) (lines : List (List ℕ)) (start : ℕ) (k : Key) (row : Row)
    → filter is_filled lines ≡ map row_line rows → AllByRecursion Opens rows
    → row_of rows k ≡ Some row → row_of t k ≡ None
    → (number : ℕ) × IsFirstFrom t start lines number
first_in t [] [] start k row spelled opens there missing = cc
first_in t (r ∷ rows) [] start k row spelled opens there missing = absurd cc
first_in t [] (line ∷ lines) start k row spelled opens there missing = cc
first_in t (r ∷ rows) ([] ∷ lines) start k row spelled opens there missing =
    let rest = first_in t (r ∷ rows) lines (start + 1) k row spelled opens there missing in
    (rest.0, inr (empty_lacks t [] refl, rest.1))
first_in t (r ∷ rows) ((x ∷ line) ∷ lines) start k row spelled opens there missing =
    by (same_key k r.0) refl there (λ e.
    first_in t rows lines (start + 1) k row (let s = spelled in cc) opens.1 e missing)
  where
    is : x ∷ line ≡ row_line r
    is = let s = spelled in cc

    here : same_key k r.0 ≡ true → LacksRow t (x ∷ line)
    here same = record {
      row = r;
      spelled = is;
      fits = opens.0.fits;
      missing = subst (λ (q : Key). row_of t q ≡ None) (same_key-true k r.0 same) missing;
    }

    by : (b : Bool) → same_key k r.0 ≡ b → cond b (Some r.1) (row_of rows k) ≡ Some row
        → (row_of rows k ≡ Some row → (number : ℕ) × IsFirstFrom t (start + 1) lines number)
        → (number : ℕ) × IsFirstFrom t start ((x ∷ line) ∷ lines) number
    by true same e later = (start, inl (refl, here same))
    by false same e later =
        elim (decided t (x ∷ line)) [
          | inl lacks ↦ (start, inl (refl, lacks))
          | inr other ↦ let rest = later e in (rest.0, inr (other, rest.1))
        ]

pub first_there : (t : Table) (text : List ℕ) → LacksPlace t text
    → (number : ℕ) × IsFirstFrom t 1 (lines_of text) number
first_there t text lacks =
    let file = lacks.1 in
    let m = missing_row t lacks.0 lacks.2.0 lacks.2.1 in
    first_in t file.rows (lines_of text) 1 lacks.2.0 m.1.0 file.written.spelled
    file.written.opening (sym (file.same lacks.2.0) ∙ m.1.1) m.0

-- ---- the loop

-- some line has the number that is looked for, and it is the first of those that are left
pub record IsLeft (t : Table) (start : ℕ) (lines all : List (List ℕ)) : Type 0 where
  pub number : ℕ
  pub left : IsFirstFrom t start lines number
  pub first : IsFirstLacking t all number

pub IsLeft-all : (t : Table) (text : List ℕ) → LacksPlace t text
    → IsLeft t 1 (lines_of text) (lines_of text)
IsLeft-all t text lacks =
    let there = first_there t text lacks in
    record {
      number = there.0;
      left = there.1;
      first = first_lacking_of t (lines_of text) there.0 there.1;
    }
