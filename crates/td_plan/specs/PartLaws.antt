-- Laws of parts, steps and reasons. This project's own.
use Rattle.std.specs.Prelude.{◌≡◌, ◌⊎◌, ◌↔◌, ◌<◌, ℕ, Bool, ◌&&◌, IsTrue, List, Some, false, length}
use Rattle.std.specs.Prelude.{count_by}
use Rattle.std.specs.List.{Contains}
use Rattle.td_indices.specs.Archive.{source_named}
use Rattle.td_indices.specs.Kept.{KeptBinary}
use Rattle.td_indices.specs.Sources.{KeptSource}
use Rattle.td_plan.specs.Due.{has_due, is_due, is_wanted}
use Rattle.td_plan.specs.InOrder.{first_where, is_before}
use Rattle.td_plan.specs.Lines.{Words}
use Rattle.td_waves.specs.Waves.{BuildsOn}
use Rattle.td_plan.specs.Parts.{IsOnePart, StandsOn}
use Rattle.td_plan.specs.Placing.{IsPlacing, Moves, Placing, are_of_one_part}
use Rattle.td_plan.specs.Plan.{IsPlan, due_sources, is_beside}
use Rattle.td_plan.specs.Premises.{Premises}
use Rattle.td_plan.specs.Reasons.{is_left}
use Rattle.td_plan.specs.Waits.{awaited}

-- ---- 1. parts and steps

-- two sources that move are of one part if and only if they are one, or each builds on the other,
-- directly or round about
abbrev pub PartsAreMutual : Type 0
PartsAreMutual = (p : Premises) (x : Placing) (a b : List ℕ) → IsPlacing p x → Moves p a
    → Moves p b → IsTrue (are_of_one_part x a b) ↔ IsOnePart (Moves p) (BuildsOn p.archive) a b

-- what a source builds on, directly or round about, is of its part or of a lower step
abbrev pub WaysLeadDown : Type 0
WaysLeadDown = (p : Premises) (x : Placing) (a b : List ℕ) → IsPlacing p x → Moves p a
    → Moves p b → StandsOn (Moves p) (BuildsOn p.archive) a b
    → IsTrue (are_of_one_part x a b) ⊎ (x.step b < x.step a)

-- there is one placing: a source that moves has the same first source and the same step in each
abbrev pub PlacingsAreOne : Type 0
PlacingsAreOne = (p : Premises) (x y : Placing) (name : List ℕ) → IsPlacing p x → IsPlacing p y
    → Moves p name → (x.first name ≡ y.first name) × (x.step name ≡ y.step name)

-- the plans of the same premises, message and suite are one text
abbrev pub PlansAreOneText : Type 0
PlansAreOneText = (words : Words) (p : Premises) (text other : List ℕ)
    → IsPlan words p text → IsPlan words p other → text ≡ other

-- ---- 2. rows

-- a row waits only for sources of lower steps, so no waits lead round in a circle
abbrev pub WaitsLeadDown : Type 0
WaitsLeadDown = (p : Premises) (x : Placing) (s t : KeptSource) (place : ℕ) → IsPlacing p x
    → source_named p.archive s.head.name ≡ Some s → place < length p.archive.table
    → IsTrue (is_due p s place) → Contains (awaited (is_beside x s) p s place) t
    → x.step t.head.name < x.step s.head.name

-- the first package that passes a test is one that passes, and none that passes is before it
abbrev pub FirstsAreLeast : Type 0
FirstsAreLeast = (name : KeptBinary → List ℕ) (test : KeptBinary → Bool) (bs : List KeptBinary)
    (b : KeptBinary) → first_where name test bs ≡ Some b
    → Contains bs b × IsTrue (test b)
    × ((c : KeptBinary) → Contains bs c → IsTrue (test c) → is_before (name c) (name b) ≡ false)

-- each wanted row of a source is due or left, and none is both
abbrev pub WantedRowsAreToldOnce : Type 0
WantedRowsAreToldOnce = (p : Premises) (s : KeptSource) (place : ℕ)
    → IsTrue (is_wanted p s place)
    → (IsTrue (is_due p s place) × (is_left p s place ≡ false))
    ⊎ (IsTrue (is_left p s place) × (is_due p s place ≡ false))

-- the sources with lines are those with a due row, each as often as the archive has it
abbrev pub DueSourcesAreAll : Type 0
DueSourcesAreAll = (p : Premises) (x : Placing) (test : KeptSource → Bool)
    → count_by test (due_sources x p) ≡ count_by (λ s. has_due p s && test s) p.archive.sources
