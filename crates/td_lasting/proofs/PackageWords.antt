-- Whether a source is named with its version.
use Rattle.std.proofs.Common.{◌≡◌, ◌≢◌, ℕ, ◌==◌, ◌||◌, eqb, Bool, true, false, List, [], ◌∷◌, ◌++◌}
use Rattle.std.proofs.Common.{length, Option, Some, None, Result, Ok, Err, refl, sym, ap}
use Rattle.std.proofs.Common.{◌∙◌}
use Rattle.std.proofs.Common.{append_assoc, eq-eqb, is_none, if◌then◌else◌}
use Rattle.std.specs.Prelude.{OnOk, codes}
use Rattle.std.specs.Result.{is_ok}
use Rattle.std.proofs.lemmas.Bool.{or_parts}
use Rattle.td_text.specs.Chain.{◌>>=◌}
use Rattle.td_text.specs.Cut.{strip}
use Rattle.td_text.specs.Limits.{max_rebuild}
use Rattle.td_text.specs.Numbers.{number_at}
use Rattle.td_text.proofs.Chain.{chained, some_is, when_none}
use Rattle.td_version.specs.Reading.{cut_last}
use Rattle.td_version.specs.Rebuild.{IsRebuild}
use Rattle.td_version.specs.Splitting.{rebuild_at}
use Rattle.td_version.proofs.Rebuilds.{found_none, found_some}
use Rattle.td_lasting.specs.Sending.{package_word}

-- a rebuild that a version ends in has a number above 0
rebuild_above : (text : List ℕ) (q : List ℕ × ℕ) → rebuild_at text ≡ Some q → (q.1 == 0) ≡ false
unfolding rebuild_at
rebuild_above text q e =
    let numbered : List ℕ → ℕ → Option (List ℕ × ℕ) =
    λ base n. if (length base == 0) || (n == 0) then None else Some (base, n) in
    let p = chained (cut_last 43 text)
    (λ x. strip (codes "b") x.1 >>= (λ d. number_at max_rebuild d >>= numbered x.0)) q e in
    let digits = chained (strip (codes "b") p.0.1)
    (λ d. number_at max_rebuild d >>= numbered p.0.0) q p.2 in
    let value = chained (number_at max_rebuild digits.0) (numbered p.0.0) q digits.2 in
    let tested = when_none ((eqb (length p.0.0) 0) || (eqb value.0 0)) (Some (p.0.0, value.0)) q
    value.2 in
    let some = or_parts (eqb (length p.0.0) 0) (eqb value.0 0) tested.0 in
    let same = some_is (p.0.0, value.0) q tested.1 in
    ap (λ (r : List ℕ × ℕ). r.1 == 0) (sym same) ∙ some.1

-- the number that a version ends in, which is the only one
abbrev pub IsOnly : List ℕ → ℕ → Type 0
IsOnly version n = (base : List ℕ) (m : ℕ) → IsRebuild version base m → n ≡ m

-- it ends in none
pub named : (version : List ℕ) (n : ℕ) → n ≡ 0 → IsOnly version n
    → is_none (rebuild_at version) ≡ true
named version n zero only = by (rebuild_at version) refl
  where
    by : (o : Option (List ℕ × ℕ)) → rebuild_at version ≡ o → is_none o ≡ true
    by None is = refl
    by (Some q) is =
        let number : q.1 ≡ 0 = sym (only q.0 q.1 (found_some version q.0 q.1 is)) ∙ zero in
        absurd (let bad : true ≡ false =
        sym (eq-eqb q.1 0 number) ∙ rebuild_above version q is in cc)

-- it ends in one
pub numbered : (version : List ℕ) (n : ℕ) → n ≢ 0 → IsOnly version n
    → is_none (rebuild_at version) ≡ false
numbered version n some only = by (rebuild_at version) refl
  where
    by : (o : Option (List ℕ × ℕ)) → rebuild_at version ≡ o → is_none o ≡ false
    by None is = absurd (some (only version 0 (found_none version is)))
    by (Some q) is = refl

word_by : (source version : List ℕ) (o : Option (List ℕ)) (b : Bool) → Some version ≡ o
    → is_none (rebuild_at version) ≡ b
    → package_word source o ≡ (if b then source ++ 95 ∷ version else source)
word_by source version o b is none =
    ap (package_word source) (sym is)
    ∙ ap (λ (x : Bool). if x then source ++ 95 ∷ version else source) none

-- the source is written without its version
pub put_unnamed : (before now source version : List ℕ) (o : Option (List ℕ))
    → now ≡ before ++ source → Some version ≡ o → is_none (rebuild_at version) ≡ false
    → now ≡ before ++ package_word source o
put_unnamed before now source version o put is none =
    put ∙ ap (λ (l : List ℕ). before ++ l) (sym (word_by source version o false is none))

-- the source is written with its version
pub put_named : {E : Type 0} (result : Result (Unit {0}) E)
    (before first second now source version : List ℕ) (o : Option (List ℕ))
    → first ≡ before ++ source → second ≡ first ++ 95 ∷ []
    → now ≡ (if is_ok result then second ++ version else second) → Some version ≡ o
    → is_none (rebuild_at version) ≡ true
    → OnOk result (now ≡ before ++ package_word source o)
put_named (Err e) before first second now source version o one two three is none = tt
put_named (Ok u) before first second now source version o one two three is none =
    three ∙ ap (λ (l : List ℕ). l ++ version) (two ∙ ap (λ (l : List ℕ). l ++ 95 ∷ []) one
    ∙ append_assoc before source (95 ∷ []))
    ∙ append_assoc before (source ++ 95 ∷ []) version
    ∙ ap (λ (l : List ℕ). before ++ l)
    (append_assoc source (95 ∷ []) version ∙ sym (word_by source version o true is none))
