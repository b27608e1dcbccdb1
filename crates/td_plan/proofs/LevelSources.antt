-- The numbers of the sources at each level, with one source more.
use Rattle.std.proofs.Common.{◌≡◌, ℕ, ◌+◌, ◌++◌, ◌∷◌, ◌∙◌, [], Bool, true, false, List}
use Rattle.std.proofs.Common.{Option, Some, ap, append-nil, arith, get_or, refl}
use Rattle.std.proofs.Common.{slice_get, sym, take}
use Rattle.std.specs.Prelude.{if◌then◌else◌}
use Rattle.std.proofs.lemmas.List.Elements.{Contains-get_or}
use Rattle.std.proofs.lemmas.Option.{slice_get_within}
use Rattle.td_indices.specs.Archive.{places_from}
use Rattle.td_waves.specs.declared.level.Level.{Level}
use Rattle.td_plan.specs.declared.movers.Mover.{Mover}
use Rattle.td_plan.specs.declared.steps.Steps.{Steps}
use Rattle.td_plan.specs.inner.Stepping.{AreSources, at_level}
use Rattle.td_plan.proofs.DuePositions.{place-has}
use Rattle.td_plan.proofs.Positions.{places-next}

if-more : (b : Bool) (old : List ℕ) (n : ℕ)
    → old ++ (if b then n ∷ [] else []) ≡ (if b then old ++ n ∷ [] else old)
if-more true old n = refl
if-more false old n = append-nil old

-- the sources so far that pass a test, and the next one
pub placed-next : (test : Mover → Bool) (ms : List Mover) (i : ℕ) (m : Mover) (passes : Bool)
    (old new : List ℕ) → slice_get ms i ≡ Some m → passes ≡ test m
    → new ≡ old ++ (if passes then i ∷ [] else []) → old ≡ places_from test 0 (take i ms)
    → new ≡ places_from test 0 (take (i + 1) ms)
placed-next test ms i m passes old new at is more was =
    more ∙ ap (λ (b : Bool). old ++ (if b then i ∷ [] else [])) is
    ∙ if-more (test m) old i
    ∙ ap (λ (l : List ℕ). if test m then l ++ i ∷ [] else l) was
    ∙ sym (places-next test ms i m at)

-- those at a level are sources
pub level-low : (level : List ℕ → Option Level) (steps : Steps) (k : Level)
    → AreSources steps (at_level level steps k)
level-low level steps k = λ i d within.
    let n = get_or (at_level level steps k) i d in
    let place = place-has _ 0 steps.movers.items n
    (Contains-get_or (at_level level steps k) i d within) in
    let number = place.2 in
    omega (arith, number, slice_get_within steps.movers.items place.0 place.1 place.3)
