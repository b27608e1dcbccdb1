-- Whitespace at the beginning of a text and at its end: where runs stop, and what is left after
-- them.
use Rattle.std.proofs.Common.{◌≡◌, ℕ, Bool, true, false, ◌&&◌, List, [], ◌∷◌, ◌++◌, sym, ap, ◌∙◌}
use Rattle.std.proofs.Common.{append-nil, inl, inr}
use Rattle.std.specs.List.{list_all}
use Rattle.std.proofs.lemmas.Bool.{cases_Bool, and_parts}
use Rattle.std.proofs.lemmas.List.Folds.{list_all-append}
use Rattle.td_text.specs.Runs.{is_space, trimmed, is_blank}
use Rattle.td_text.proofs.RunTexts.{Stops, NoSpace, not_space, behind_again}

-- whitespace doesn't pass a test that no whitespace passes
pub not_passed : (test : ℕ → Bool) (x : ℕ) → NoSpace test → is_space x ≡ true → test x ≡ false
not_passed test x lacks h =
    elim (cases_Bool (test x)) [
      | inl is ↦ absurd (let bad : true ≡ false = sym h ∙ not_space test x lacks is in cc)
      | inr other ↦ other
    ]

-- a run stops at whitespace, and where it would stop behind that
pub Stops-blank : (test : ℕ → Bool) (s t : List ℕ) → NoSpace test → is_blank s ≡ true → Stops test t
    → Stops test (s ++ t)
Stops-blank test [] t lacks h e = e
Stops-blank test (x ∷ s) t lacks h e =
    not_passed test x lacks (and_parts (is_space x) (list_all is_space s) h).0

-- and at whitespace alone
pub Stops-back : (test : ℕ → Bool) (s : List ℕ) → NoSpace test → is_blank s ≡ true → Stops test s
Stops-back test [] lacks h = tt
Stops-back test (x ∷ s) lacks h =
    not_passed test x lacks (and_parts (is_space x) (list_all is_space s) h).0

-- what follows whitespace
pub trimmed_behind : (s t : List ℕ) → is_blank s ≡ true → Stops is_space t → trimmed (s ++ t) ≡ t
trimmed_behind s t h stops = behind_again is_space s t h stops

-- nothing follows it
pub trimmed_all : (s : List ℕ) → is_blank s ≡ true → trimmed s ≡ []
trimmed_all s h = ap trimmed (sym (append-nil s)) ∙ behind_again is_space s [] h tt

-- whitespace in front doesn't change whether a text is whitespace
pub is_blank-behind : (s t : List ℕ) → is_blank s ≡ true → is_blank (s ++ t) ≡ is_blank t
is_blank-behind s t h = list_all-append is_space s t ∙ ap (λ (b : Bool). b && list_all is_space t) h
