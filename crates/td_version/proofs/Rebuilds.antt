-- A rebuild suffix is split off where it was written.
use Rattle.std.proofs.Common.{◌≡◌, ◌≢◌, ℕ, suc, zero, ◌<◌, ◌≤◌, ◌||◌, eqb, List, ◌∷◌, ◌++◌, length}
use Rattle.std.proofs.Common.{Some, None, refl, sym, ap, subst, ◌∙◌, arith, lit<}
use Rattle.std.specs.Prelude.{Option, codes, unwrap_or}
use Rattle.std.specs.Fmt.{decimal}
use Rattle.std.proofs.lemmas.Bool.{eqb-false, ne_eqb, or_parts}
use Rattle.std.proofs.lemmas.List.{append-nil}
use Rattle.td_text.proofs.Chain.{chained, some_is, when_none}
use Rattle.td_text.proofs.Prefix.{strip_found, strip_again}
use Rattle.td_text.proofs.Numbers.{number_exact, Without-decimal}
use Rattle.td_version.specs.Base.{rebuilt_from, RebuildsHaveBases}
use Rattle.td_version.specs.Rebuild.{rebuild_suffix, rebuild_text, IsRebuild}
use Rattle.td_version.specs.Splitting.{rebuild_at}
use Rattle.td_version.proofs.Cuts.{IsLastCut, cut_last_is, cut_last-at}

-- a suffix that was found
record IsSplit (text base : List ℕ) (n : ℕ) : Type 0 where
  spelled : text ≡ rebuild_text base n
  number : 0 < n
  bounded : n ≤ 9999
  based : 0 < length base

suffix-digits : (n : ℕ) → 0 < n → rebuild_suffix n ≡ codes "+b" ++ decimal n
suffix-digits zero some = absurd (omega arith)
suffix-digits (suc n) some = refl

above_zero : (n : ℕ) → n ≢ 0 → 0 < n
above_zero n some = omega arith

rebuild_found : (text base : List ℕ) (n : ℕ) → rebuild_at text ≡ Some (base, n)
    → IsSplit text base n
unfolding rebuild_at
rebuild_found text base n e =
    let p = chained _ _ _ e in
    let digits = chained _ _ _ p.2 in
    let value = chained _ _ _ digits.2 in
    let tested = when_none ((eqb (length p.0.0) 0) || (eqb value.0 0)) (Some (p.0.0, value.0))
    (base, n) value.2 in
    let some = or_parts (eqb (length p.0.0) 0) (eqb value.0 0) tested.0 in
    let same = some_is (p.0.0, value.0) (base, n) tested.1 in
    let cut = subst (IsLastCut 43 text) p.1 (cut_last_is 43 text) in
    let read = (number_exact 9999 (lit< tt)).found digits.0 value.0 value.1 in
    let base_some : length p.0.0 ≢ 0 = eqb-false (length p.0.0) 0 some.0 in
    let number_some : value.0 ≢ 0 = eqb-false value.0 0 some.1 in
    let number : 0 < value.0 = above_zero value.0 number_some in
    let based : 0 < length p.0.0 = above_zero (length p.0.0) base_some in
    let suffix : 43 ∷ p.0.1 ≡ rebuild_suffix value.0 =
    ap (λ (l : List ℕ). 43 ∷ l)
    (strip_found (codes "b") p.0.1 digits.0 digits.1 ∙ ap (λ (l : List ℕ). codes "b" ++ l) read.0)
    ∙ sym (suffix-digits value.0 number) in
    subst (λ (x : List ℕ × ℕ). IsSplit text x.0 x.1) same (record {
      spelled = cut.0 ∙ ap (λ (l : List ℕ). p.0.0 ++ l) suffix;
      number = number;
      bounded = read.1;
      based = based;
    })

pub rebuild_again : (base : List ℕ) (n : ℕ) → 0 < length base → 0 < n → n ≤ 9999
    → rebuild_at (rebuild_text base n) ≡ Some (base, n)
unfolding rebuild_at
rebuild_again base n based some bounded =
    rw (
      suffix-digits n some,
      cut_last-at 43 base (codes "b" ++ decimal n)
          (λ e. omega arith, Without-decimal 43 n (lit< tt) (omega arith)),
      strip_again (codes "b") (decimal n),
      (number_exact 9999 (lit< tt)).again n bounded,
      ne_eqb (length base) 0 (λ e. omega arith),
      ne_eqb n 0 (λ e. omega arith),
    ) refl

-- a part with a suffix has the part before it as its base
pub part_again : RebuildsHaveBases
unfolding rebuilt_from
part_again part n some bounded =
    let found : rebuilt_from (rebuild_text part n) ≡ Some part =
    rw (
      suffix-digits n some,
      cut_last-at 43 part (codes "b" ++ decimal n)
          (λ e. omega arith, Without-decimal 43 n (lit< tt) (omega arith)),
      strip_again (codes "b") (decimal n),
      (number_exact 9999 (lit< tt)).again n bounded,
      ne_eqb n 0 (λ e. omega arith),
    ) refl in
    ap (λ (o : Option (List ℕ)). unwrap_or o (rebuild_text part n)) found

-- what was found before a suffix has it behind it in the part
pub rebuilt_found : (part base : List ℕ) → rebuilt_from part ≡ Some base
    → (n : ℕ) × (0 < n) × (n ≤ 9999) × (part ≡ rebuild_text base n)
unfolding rebuilt_from
rebuilt_found part base e =
    let p = chained _ _ _ e in
    let digits = chained _ _ _ p.2 in
    let value = chained _ _ _ digits.2 in
    let tested = when_none (eqb value.0 0) (Some p.0.0) base value.2 in
    let same = some_is p.0.0 base tested.1 in
    let cut = subst (IsLastCut 43 part) p.1 (cut_last_is 43 part) in
    let read = (number_exact 9999 (lit< tt)).found digits.0 value.0 value.1 in
    let number_some : value.0 ≢ 0 = eqb-false value.0 0 tested.0 in
    let number : 0 < value.0 = above_zero value.0 number_some in
    let suffix : 43 ∷ p.0.1 ≡ rebuild_suffix value.0 =
    ap (λ (l : List ℕ). 43 ∷ l)
    (strip_found (codes "b") p.0.1 digits.0 digits.1 ∙ ap (λ (l : List ℕ). codes "b" ++ l) read.0)
    ∙ sym (suffix-digits value.0 number) in (
      value.0,
      number,
      read.1,
      cut.0 ∙ ap (λ (l : List ℕ). p.0.0 ++ l) suffix
          ∙ ap (λ (l : List ℕ). l ++ rebuild_suffix value.0) same,
    )

-- ---- of what the call returned

pub found_some : (text base : List ℕ) (n : ℕ) → rebuild_at text ≡ Some (base, n)
    → IsRebuild text base n
found_some text base n e =
    let s = rebuild_found text base n e in
    let some = s.number in
    record {
      spelled = s.spelled;
      bounded = s.bounded;
      based = λ _. s.based;
      plain = λ none. absurd (omega arith);
    }

pub found_none : (text : List ℕ) → rebuild_at text ≡ None → IsRebuild text text 0
found_none text e = record {
  spelled = sym (append-nil text);
  bounded = omega arith;
  based = λ some. absurd (omega arith);
  plain = λ _ base n based some bounded is.
      (let f = sym e ∙ ap rebuild_at is ∙ rebuild_again base n based some bounded in cc);
}

-- a text is a rebuild in one way
pub same_rebuild : (text a b : List ℕ) (m n : ℕ) → IsRebuild text a m → IsRebuild text b n
    → (a ≡ b) × (m ≡ n)
same_rebuild text a b zero zero p q =
    (sym (append-nil a) ∙ sym p.spelled ∙ q.spelled ∙ append-nil b, refl)
same_rebuild text a b zero (suc n) p q =
    absurd (p.plain refl b (suc n) (q.based (omega arith)) (omega arith) q.bounded
    (sym (append-nil a) ∙ sym p.spelled ∙ q.spelled))
same_rebuild text a b (suc m) zero p q =
    absurd (q.plain refl a (suc m) (p.based (omega arith)) (omega arith) p.bounded
    (sym (append-nil b) ∙ sym q.spelled ∙ p.spelled))
same_rebuild text a b (suc m) (suc n) p q =
    let e = sym (rebuild_again a (suc m) (p.based (omega arith)) (omega arith) p.bounded)
    ∙ ap rebuild_at (sym p.spelled ∙ q.spelled)
    ∙ rebuild_again b (suc n) (q.based (omega arith)) (omega arith) q.bounded in
    let same = some_is (a, suc m) (b, suc n) e in
    (ap (λ (x : List ℕ × ℕ). x.0) same, ap (λ (x : List ℕ × ℕ). x.1) same)
