-- A text that is shown, character by character.
use Rattle.std.proofs.Common.{◌≡◌, ℕ, zero, suc, ◌-◌, ◌<◌, List, [], ◌∷◌, ◌++◌, Result, Ok, Err}
use Rattle.std.proofs.Common.{OnOk, if◌then◌else◌, sym, ap, ◌∙◌, append_assoc, arith}
use Rattle.std.specs.Prelude.{chars, is_ok, length}
use Rattle.std.proofs.lemmas.List.{nil_from_length}
use Rattle.std.proofs.lemmas.Str.{chars-nil}
use Rattle.td_explain.specs.Shown.{shown_char, shown_from}

-- what a push that succeeds leaves
pub ok_bytes : {A E : Type 0} (r : Result A E) (old more new total : List ℕ)
    → new ≡ (if is_ok r then old ++ more else old) → old ++ more ≡ total → OnOk r (new ≡ total)
ok_bytes (Ok x) old more new total is same = is ∙ same
ok_bytes (Err e) old more new total is same = tt

-- no byte is left
pub empty_chars : (text : List ℕ) → length text ≡ 0 → chars text ≡ []
empty_chars text none = ap chars (nil_from_length text none) ∙ chars-nil

-- nothing is left
pub shown_done : (left : ℕ) (cs out total : List ℕ) → cs ≡ [] → out ++ shown_from left cs ≡ total
    → out ++ 34 ∷ [] ≡ total
unfolding shown_from
shown_done zero [] out total none h = h
shown_done (suc left) [] out total none h = h
shown_done left (c ∷ cs) out total none h = absurd cc

-- more follows, and none of it is shown
pub shown_cut : (left c : ℕ) (cs out total : List ℕ) → left ≡ 0
    → out ++ shown_from left (c ∷ cs) ≡ total → out ++ 34 ∷ 46 ∷ 46 ∷ 46 ∷ [] ≡ total
unfolding shown_from
shown_cut left c cs out total none h = sym (ap (λ (n : ℕ). out ++ shown_from n (c ∷ cs)) none) ∙ h

-- one character more
shown_from-cons : (left c : ℕ) (cs : List ℕ) → 0 < left
    → shown_from left (c ∷ cs) ≡ shown_char c ++ shown_from (left - 1) cs
unfolding shown_from
shown_from-cons zero c cs some = absurd (omega arith)
shown_from-cons (suc left) c cs some =
    let same : left ≡ suc left - 1 = omega arith in
    ap (λ (n : ℕ). shown_char c ++ shown_from n cs) same

pub shown_step : (left c : ℕ) (cs out total : List ℕ) → 0 < left
    → out ++ shown_from left (c ∷ cs) ≡ total
    → (out ++ shown_char c) ++ shown_from (left - 1) cs ≡ total
shown_step left c cs out total some h =
    append_assoc out (shown_char c) (shown_from (left - 1) cs)
    ∙ ap (λ (l : List ℕ). out ++ l) (sym (shown_from-cons left c cs some)) ∙ h
