-- Rows of a table of which those of some keys are kept.
use Rattle.std.proofs.Common.{◌≡◌, ◌≤◌, ◌∙◌, Bool, true, false, [], ◌∷◌, None, Option, Some}
use Rattle.std.proofs.Common.{filter, length, refl, sym, ap, inl, inr, arith, if◌then◌else◌}
use Rattle.std.specs.Ordering.{is_lt}
use Rattle.std.proofs.lemmas.Bool.{and_from, and_parts, cases_Bool}
use Rattle.std.proofs.lemmas.List.Sums.{count_by-le-length, length-filter}
use Rattle.td_rows.specs.Keys.{ascending, below_all, key_cmp, same_key}
use Rattle.td_rows.specs.Table.{Table, keys_of, row_of}
use Rattle.td_rows.specs.declared.key.Key.{Key}
use Rattle.td_rows.specs.declared.row.Row.{Row}
use Rattle.td_rows.proofs.Keys.{same_key-true}

module _ (keep : Key → Bool) where
  abbrev pub kept : Table → Table
  kept t = filter (λ e. keep e.0) t

  -- a row and the kept ones after it, by whether its key is kept
  abbrev with_first : Key × Row → Table → Bool → Table
  with_first e t b = if b then e ∷ kept t else kept t

  pub few-kept : (t : Table) → length (kept t) ≤ length t
  few-kept t =
      let test : Key × Row → Bool = λ e. keep e.0 in
      omega (arith, length-filter test t, count_by-le-length test t)

  -- ---- 1. kept rows rise

  below-kept : (x : Key) (t : Table) → below_all x (keys_of t) ≡ true
      → below_all x (keys_of (kept t)) ≡ true
  below-kept x [] below = refl
  below-kept x (e ∷ t) below =
      let both = and_parts (is_lt (key_cmp x e.0)) (below_all x (keys_of t)) below in
      let rest = below-kept x t both.1 in
      elim (cases_Bool (keep e.0)) [
        | inl is ↦
            ap (λ (b : Bool). below_all x (keys_of (with_first e t b))) is
            ∙ and_from (is_lt (key_cmp x e.0)) (below_all x (keys_of (kept t))) both.0 rest
        | inr other ↦ ap (λ (b : Bool). below_all x (keys_of (with_first e t b))) other ∙ rest
      ]

  pub rising-kept : (t : Table) → ascending (keys_of t) ≡ true
      → ascending (keys_of (kept t)) ≡ true
  rising-kept [] up = refl
  rising-kept (e ∷ t) up =
      let both = and_parts (below_all e.0 (keys_of t)) (ascending (keys_of t)) up in
      let rest = rising-kept t both.1 in
      elim (cases_Bool (keep e.0)) [
        | inl is ↦
            ap (λ (b : Bool). ascending (keys_of (with_first e t b))) is
            ∙ and_from (below_all e.0 (keys_of (kept t))) (ascending (keys_of (kept t)))
            (below-kept e.0 t both.0) rest
        | inr other ↦ ap (λ (b : Bool). ascending (keys_of (with_first e t b))) other ∙ rest
      ]

  -- ---- 2. the row of a key

  abbrev either : Option Row → Option Row → Bool → Option Row
  either first rest b = if b then first else rest

  none-kept : (b : Bool) → None ≡ either None None b
  none-kept true = refl
  none-kept false = refl

  -- the row of a key is kept if the key is
  pub row_of-kept : (t : Table) (k : Key) → row_of (kept t) k ≡ either (row_of t k) None (keep k)
  row_of-kept [] k = none-kept (keep k)
  row_of-kept (e ∷ t) k =
      let rest = row_of-kept t k in
      elim (cases_Bool (same_key k e.0)) [
        | inl same ↦
            let its : keep k ≡ keep e.0 = ap keep (same_key-true k e.0 same) in
            let first : row_of (e ∷ t) k ≡ Some e.1 = ap (either (Some e.1) (row_of t k)) same in
            elim (cases_Bool (keep e.0)) [
              | inl is ↦
                  ap (λ (b : Bool). row_of (with_first e t b) k) is
                  ∙ ap (either (Some e.1) (row_of (kept t) k)) same
                  ∙ sym (ap (either (row_of (e ∷ t) k) None) (its ∙ is) ∙ first)
              | inr other ↦
                  ap (λ (b : Bool). row_of (with_first e t b) k) other ∙ rest
                  ∙ ap (either (row_of t k) None) (its ∙ other)
                  ∙ sym (ap (either (row_of (e ∷ t) k) None) (its ∙ other))
            ]
        | inr apart ↦
            let past : either (row_of t k) None (keep k) ≡ either (row_of (e ∷ t) k) None (keep k) =
            ap (λ (o : Option Row). either o None (keep k))
            (sym (ap (either (Some e.1) (row_of t k)) apart)) in
            elim (cases_Bool (keep e.0)) [
              | inl is ↦
                  ap (λ (b : Bool). row_of (with_first e t b) k) is
                  ∙ ap (either (Some e.1) (row_of (kept t) k)) apart ∙ rest ∙ past
              | inr other ↦ ap (λ (b : Bool). row_of (with_first e t b) k) other ∙ rest ∙ past
            ]
      ]

  some-kept : (o : Option Row) (b : Bool) (row : Row) → either o None b ≡ Some row → o ≡ Some row
  some-kept o true row is = is
  some-kept o false row is = absurd (let bad : None ≡ Some row = is in cc)

  -- a kept row was there
  pub kept-is : (t : Table) (k : Key) (row : Row) → row_of (kept t) k ≡ Some row
      → row_of t k ≡ Some row
  kept-is t k row is =
      some-kept (row_of t k) (keep k) row (sym (row_of-kept t k) ∙ is)
