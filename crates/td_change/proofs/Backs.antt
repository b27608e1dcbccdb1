-- Giving the kept cells back, row by row.
use Rattle.std.proofs.Common.{◌≡◌, ℕ, Bool, true, false, List, [], ◌∷◌, ◌++◌, map, is_some}
use Rattle.std.proofs.Common.{if◌then◌else◌, ap, refl, sym, ◌∙◌}
use Rattle.td_rows.specs.declared.cells.Cells.{Cells}
use Rattle.td_rows.specs.declared.key.Key.{Key}
use Rattle.td_rows.specs.declared.row.Row.{Row}
use Rattle.td_rows.specs.Blank.{blank}
use Rattle.td_rows.specs.Cells.{restore}
use Rattle.td_rows.specs.Kept.{only}
use Rattle.td_rows.specs.Keys.{same_key, names, ascending}
use Rattle.td_rows.specs.Table.{Table, row_of, keys_of, each_row, at_key, changed_at}
use Rattle.td_rows.proofs.Keys.{same_key-true, same_key-refl}
use Rattle.td_rows.proofs.Tables.{each_row-each_row, each_row-alike, each_row-itself}
use Rattle.td_rows.proofs.Tables.{keys_of-each_row}
use Rattle.td_rows.specs.GivenBack.{row_at, given_back}
use Rattle.td_change.specs.Saved.{place_of, number_of, kept_of, HaveRows}
use Rattle.td_change.specs.Inside.{put_back}
use Rattle.td_change.proofs.Numbers.{is_some-row_of, changed_at-number_of, HaveRows-rest}

pub put_back-push : (m : Cells) (kept : List (ℕ × Row)) (n : ℕ) (row : Row) (t : Table)
    → put_back m (kept ++ (n, row) ∷ []) t ≡ put_back m kept (changed_at n (restore m row) t)
put_back-push m [] n row t = refl
put_back-push m (s ∷ kept) n row t =
    ap (changed_at s.0 (restore m s.1)) (put_back-push m kept n row t)

-- the inner choice is the outer one
inner_then : {A : Type 0} (b : Bool) (x y z : A)
    → (if b then (if b then x else y) else z) ≡ (if b then x else z)
inner_then true x y z = refl
inner_then false x y z = refl

inner_else : {A : Type 0} (b : Bool) (x y z : A)
    → (if b then x else (if b then y else z)) ≡ (if b then x else z)
inner_else true x y z = refl
inner_else false x y z = refl

-- what was kept of these cells is enough for them
pub restore-only : (m : Cells) (was row : Row) → restore m (only m was) row ≡ restore m was row
restore-only m was row = λ j. record {
  state = inner_then m.state was.state blank.state row.state j;
  priority = inner_then m.priority was.priority blank.priority row.priority j;
  number = inner_then m.number was.number blank.number row.number j;
  dep_wait = inner_then m.dep_wait was.dep_wait blank.dep_wait row.dep_wait j;
  extra = inner_then m.extra was.extra blank.extra row.extra j;
}

-- the last values count
pub restore-restore : (m : Cells) (was first row : Row)
    → restore m was (restore m first row) ≡ restore m was row
restore-restore m was first row = λ j. record {
  state = inner_else m.state was.state first.state row.state j;
  priority = inner_else m.priority was.priority first.priority row.priority j;
  number = inner_else m.number was.number first.number row.number j;
  dep_wait = inner_else m.dep_wait was.dep_wait first.dep_wait row.dep_wait j;
  extra = inner_else m.extra was.extra first.extra row.extra j;
}

pub keys_of-given_back : (m : Cells) (keys : List Key) (was now : Table)
    → keys_of (given_back m keys was now) ≡ keys_of now
keys_of-given_back m keys was now =
    keys_of-each_row (λ k row. if names keys k then restore m (row_at was k) row else row) now

-- one key more
given_back-more : (m : Cells) (k : Key) (keys : List Key) (was now : Table)
    → each_row (at_key k (restore m (only m (row_at was k)))) (given_back m keys was now)
    ≡ given_back m (k ∷ keys) was now
given_back-more m k keys was now =
    each_row-each_row back (at_key k (restore m (only m (row_at was k)))) now
    ∙ each_row-alike _ _ now alike
  where
    back : Key → Row → Row
    back q row = if names keys q then restore m (row_at was q) row else row

    alike : (q : Key) (row : Row)
        → at_key k (restore m (only m (row_at was k))) q
        (if names keys q then restore m (row_at was q) row else row)
        ≡ (if names (k ∷ keys) q then restore m (row_at was q) row else row)
    alike q row =
        elim (same_key q k) as (λ b.
        same_key q k ≡ b → (if b
        then restore m (only m (row_at was k))
        (if names keys q then restore m (row_at was q) row else row)
        else (if names keys q then restore m (row_at was q) row else row))
        ≡ (if (if b then true else names keys q) then restore m (row_at was q) row else row)) [
          | true ↦ λ e.
              restore-only m (row_at was k)
              (if names keys q then restore m (row_at was q) row else row)
              ∙ elim (names keys q) as (λ b.
              restore m (row_at was k) (if b then restore m (row_at was q) row else row)
              ≡ restore m (row_at was k) row) [
                | true ↦
                    restore-restore m (row_at was k) (row_at was q) row
                | false ↦ refl
              ]
              ∙ ap (λ (x : Key). restore m (row_at was x) row) (sym (same_key-true q k e))
          | false ↦ λ _. refl
        ] refl

-- the kept rows, given back one by one
pub put_back-kept : (m : Cells) (keys : List Key) (was now : Table) → ascending (keys_of now) ≡ true
    → keys_of was ≡ keys_of now → HaveRows was keys →
    put_back m (map (kept_of m was) keys) now ≡ given_back m keys was now
put_back-kept m [] was now up same have = sym (each_row-itself now)
put_back-kept m (k ∷ keys) was now up same have =
    let rest = given_back m keys was now in
    let keys_are : keys_of rest ≡ keys_of was = keys_of-given_back m keys was now ∙ sym same in
    let rising : ascending (keys_of rest) ≡ true =
    ap ascending (keys_of-given_back m keys was now) ∙ up in
    let some : is_some (row_of rest k) ≡ true =
    is_some-row_of rest k ∙ ap (λ (ks : List Key). names ks k) keys_are ∙ sym (is_some-row_of was k)
    ∙ have k (ap (λ b. if b then true else names keys k) (same_key-refl k)) in
    let f : Row → Row = restore m (only m (row_at was k)) in
    ap (changed_at (number_of was k) f)
    (put_back-kept m keys was now up same (HaveRows-rest was k keys have))
    ∙ ap (λ (ks : List Key). changed_at (place_of ks k) f rest) (sym keys_are)
    ∙ changed_at-number_of rest k f rising some
    ∙ given_back-more m k keys was now
