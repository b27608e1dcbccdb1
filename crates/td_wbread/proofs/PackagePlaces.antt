-- Places of packages, one more at a time, and what they answer.
use Rattle.std.proofs.Common.{◌≡◌, ℕ, ◌+◌, ◌<◌, Bool, true, false, not, cond, eqb, ◌||◌, ◌&&◌, List}
use Rattle.std.proofs.Common.{[], ◌∷◌, ◌++◌, length, take, get_or, Option, Some, refl, sym, ap, ◌∙◌}
use Rattle.std.proofs.Common.{arith, string_bytes}
use Rattle.std.specs.List.{list_any, slice_get}
use Rattle.std.specs.Str.{bytes_eq}
use Rattle.std.proofs.lemmas.Bool.{ne_eqb}
use Rattle.std.proofs.lemmas.List.{take_more}
use Rattle.std.proofs.lemmas.List.Folds.{list_any-append}
use Rattle.std.proofs.Math.Bool.{or-false}
use Rattle.td_text.proofs.SameTexts.{bytes_eq-swap}
use Rattle.td_wbread.specs.declared.command.Package.{Package}
use Rattle.td_wbread.specs.declared.places.Places.{Places}
use Rattle.td_wbread.specs.inner.Places.{FindsPackages, places_of}

-- the places find the first packages of these
abbrev pub FindsFirst : ℕ → List Package → Places → Type 0
FindsFirst count packages places = (source : List ℕ) (test : Option Package → Bool) →
    list_any (λ place. test (slice_get packages place)) (places_of places source) ≡ list_any
    (λ p. bytes_eq (string_bytes p.source) source && test (Some p)) (take count packages)

either : (test : ℕ → Bool) (old : List ℕ) (place : ℕ) (same : Bool) → list_any test
    (cond same (old ++ place ∷ []) old) ≡ (list_any test old || ((same && test place) || false))
either test old place true = list_any-append test old (place ∷ [])
either test old place false = sym (or-false (list_any test old))

pub find_more : (packages : List Package) (old new : Places) (place : ℕ) (item : Package) → place
    < length packages → item ≡ get_or packages place item → slice_get packages place ≡ Some item
    → ((q : List ℕ) → places_of new q ≡ cond (bytes_eq q (string_bytes item.source))
    (places_of old q ++ place ∷ []) (places_of old q))
    → FindsFirst place packages old → FindsFirst (place + 1) packages new
find_more packages old new place item inside is here pushed found = λ source test.
    let at : ℕ → Bool = λ i. test (slice_get packages i) in
    let fits : Package → Bool = λ p. bytes_eq (string_bytes p.source) source && test (Some p) in
    let one : take (place + 1) packages ≡ take place packages ++ item ∷ [] =
    take_more packages place item inside ∙ ap (λ p. take place packages ++ p ∷ []) (sym is) in
    ap (list_any at) (pushed source)
    ∙ either at (places_of old source) place (bytes_eq source (string_bytes item.source))
    ∙ ap (λ b. b || ((bytes_eq source (string_bytes item.source) && at place) || false))
    (found source test)
    ∙ ap (λ b. list_any fits (take place packages) || ((b && at place) || false))
    (bytes_eq-swap source (string_bytes item.source))
    ∙ ap (λ o. list_any fits (take place packages) ||
    ((bytes_eq (string_bytes item.source) source && test o) || false)) here
    ∙ sym (list_any-append fits (take place packages) (item ∷ []))
    ∙ ap (list_any fits) (sym one)

-- ---- whether there is a place

all_fit : (test : Package → Bool) (packages : List Package)
    → list_any (λ p. test p && true) packages ≡ list_any test packages
all_fit test [] = refl
all_fit test (x ∷ packages) = by (test x) _ _ (all_fit test packages)
  where
    by : (here a b : Bool) → a ≡ b → ((here && true) || a) ≡ (here || b)
    by true a b e = refl
    by false a b e = e

any_place : (places : List ℕ) → list_any (λ place. true) places ≡ not (eqb (length places) 0)
any_place [] = refl
any_place (x ∷ places) = rw (ne_eqb (length (x ∷ places)) 0 (λ e. omega arith)) refl

-- a source has a place exactly where a package has the source
pub some_place : (packages : List Package) (places : Places) → FindsPackages packages places
    → (source : List ℕ) → not (eqb (length (places_of places source)) 0)
    ≡ list_any (λ p. bytes_eq (string_bytes p.source) source) packages
some_place packages places found source =
    sym (any_place (places_of places source)) ∙ found source (λ _. true)
    ∙ all_fit (λ p. bytes_eq (string_bytes p.source) source) packages

-- ---- an answer by places is one by packages

pub answered : (packages here : List Package) (at : List ℕ) (places : Places)
    → FindsPackages packages places → here ≡ packages → (source : List ℕ)
    → at ≡ places_of places source → (test : Option Package → Bool)
    → list_any (λ place. test (slice_get here place)) at ≡ list_any
    (λ p. bytes_eq (string_bytes p.source) source && test (Some p)) packages
answered packages here at places found same source is test =
    ap (λ ps. list_any (λ place. test (slice_get ps place)) at) same
    ∙ ap (list_any (λ place. test (slice_get packages place))) is ∙ found source test
