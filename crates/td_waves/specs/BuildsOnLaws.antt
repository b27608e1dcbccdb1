-- Which source builds on which, by what stands in their stanzas. This project's own.
use Rattle.std.specs.Prelude.{◌≡◌, ◌≢◌, ◌⊎◌, ◌↔◌, ℕ, IsTrue, List, Some, None, slice_get}
use Rattle.std.specs.List.{Contains}
use Rattle.td_relation.specs.Arch.{ArchWords}
use Rattle.td_relation.specs.Asked.{Asked}
use Rattle.td_relation.specs.Meeting.{active}
use Rattle.td_indices.specs.Archive.{Contents, has_row_at, number_named}
use Rattle.td_indices.specs.Kept.{KeptBinary}
use Rattle.td_indices.specs.OfferedNames.{offered_names}
use Rattle.td_waves.specs.BuildsOn.{asked_first, asked_for_arch, builds_on}

-- on the architecture at a place the source with a number has a row, the alternative is active, and
-- the package is there or of `all`
pub record MeetsAt (a : Contents) (source : ℕ) (x : Asked) (b : KeptBinary)
    (place : ℕ) : Type 0 where
  pub row : IsTrue (has_row_at a source place)
  pub arch : ArchWords
  pub at : slice_get a.table place ≡ Some arch
  pub is_active : IsTrue (active arch x)
  pub there : (b.head.home ≡ None) ⊎ (b.head.home ≡ Some place)

-- an alternative of Build-Depends or Build-Depends-Arch of the source with a number
pub record IsAsked (a : Contents) (source : ℕ) (x : Asked) : Type 0 where
  pub member : List Asked
  pub named : Contains member x
  pub field : Contains (asked_first a source) member ⊎ Contains (asked_for_arch a source) member

-- s asks for a package of t, which is another source, under a name that the package offers; on some
-- architecture they meet
pub record AsksFor (a : Contents) (s t : List ℕ) : Type 0 where
  pub apart : s ≢ t
  pub source : ℕ
  pub number : number_named a s ≡ Some source
  pub alternative : Asked
  pub asked : IsAsked a source alternative
  pub binary : KeptBinary
  pub kept : Contains a.binaries binary
  pub own : binary.head.source ≡ t
  pub offered : Contains (offered_names binary) alternative.name
  pub place : ℕ
  pub meets : MeetsAt a source alternative binary place

-- a source builds on another if and only if it asks for it
abbrev pub SourcesBuildOnWhatTheyAskFor : Type 0
SourcesBuildOnWhatTheyAskFor =
    (a : Contents) (s t : List ℕ) → IsTrue (builds_on a s t) ↔ AsksFor a s t
