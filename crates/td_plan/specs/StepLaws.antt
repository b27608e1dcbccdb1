-- Laws of the steps of affected sources, and of what they build on. This project's own.
use Rattle.std.specs.Prelude.{◌≡◌, ◌≢◌, ◌↔◌, ℕ, IsTrue, List, Some}
use Rattle.td_indices.specs.Archive.{Contents, source_named}
use Rattle.td_indices.specs.Kept.{KeptBinary}
use Rattle.td_indices.specs.Sources.{KeptSource}
use Rattle.td_query.specs.Tracking.{Tracking}
use Rattle.td_waves.specs.BuildsOn.{builds_on}
use Rattle.td_plan.specs.Steps.{IsBySteps, IsWavesWhy}
use Rattle.td_plan.specs.Why.{base_package}

-- a source of the archive builds on another one if and only if there is a package by which it does
abbrev pub BasesHavePackages : Type 0
BasesHavePackages = (a : Contents) (s t : KeptSource) → source_named a s.head.name ≡ Some s
    → s.head.name ≢ t.head.name
    → IsTrue (builds_on a s.head.name t.head.name)
    ↔ ((b : KeptBinary) × (base_package a s t ≡ Some b))

-- the affected sources by steps are one text, whatever lines each part has
abbrev pub StepsAreOneText : Type 0
StepsAreOneText = (lines : List KeptSource → List (List ℕ)) (a : Contents) (t : Tracking)
    (text other : List ℕ) → IsBySteps lines a t text → IsBySteps lines a t other → text ≡ other

-- the affected sources by levels, each with what it builds on, are one text
abbrev pub WhysAreOneText : Type 0
WhysAreOneText = (a : Contents) (t : Tracking) (text other : List ℕ)
    → IsWavesWhy a t text → IsWavesWhy a t other → text ≡ other
