-- What is wrong with a text that is no version: its first fault from the left.
-- That order of faults is this project's own.
use Rattle.std.specs.Prelude.{◌≡◌, ℕ, ◌+◌, not, ◌⊎◌, Bool, List, [], Some, is_some, length}
use Rattle.std.specs.Prelude.{position}
use Rattle.td_version.specs.declared.version.VersionFault.{VersionFault}
use Rattle.td_version.specs.declared.version.VersionFault.TheVariants.{Empty, BadEpoch}
use Rattle.td_version.specs.declared.version.VersionFault.TheVariants.{BadCharacter}
use Rattle.td_version.specs.Grammar.{Written, IsCut, epoch_front, is_upstream_byte}
use Rattle.td_version.specs.Grammar.{is_revision_byte, EpochFits, UpstreamFits}

-- The first byte that may not stand in a part is at this place of the text, in which the part
-- begins at `start`.
abbrev pub IsFirstBad : (ℕ → Bool) → ℕ → List ℕ → ℕ → Type 0
IsFirstBad may start part place = (i : ℕ) × (position (λ b. not (may b)) part ≡ Some i)
    × (place ≡ start + i)

-- where the upstream part begins, and where the revision does
abbrev pub upstream_start : Written → ℕ
upstream_start w = length (epoch_front w.epoch)

-- where the revision begins, after the hyphen
abbrev pub revision_start : Written → ℕ
revision_start w = upstream_start w + length w.upstream + 1

-- The first fault of a text in these pieces: what stands before it fits.
abbrev pub HasFault : Written → VersionFault → Type 0
HasFault w BadEpoch = ¬ EpochFits w.epoch
HasFault w Empty =
    EpochFits w.epoch
    × ((w.upstream ≡ []) ⊎ (UpstreamFits w × (w.revision ≡ Some [])))
HasFault w (BadCharacter place) =
    EpochFits w.epoch
    × (IsFirstBad (is_upstream_byte (is_some w.epoch)) (upstream_start w) w.upstream place
    ⊎ (UpstreamFits w
    × ((revision : List ℕ) × (w.revision ≡ Some revision)
    × IsFirstBad is_revision_byte (revision_start w) revision place)))

-- the first fault of a text (this project's order: from left to right)
abbrev pub IsFirstFault : List ℕ → VersionFault → Type 0
IsFirstFault text fault = (w : Written) × IsCut text w × HasFault w fault
