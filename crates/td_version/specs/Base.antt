-- A version without the suffix of a rebuild. This project's own.
use Rattle.std.specs.Prelude.{◌≡◌, ℕ, ◌==◌, ◌&&◌, ◌<◌, ◌≤◌, List, Option, Some, None, length}
use Rattle.std.specs.Prelude.{unwrap_or, codes, if◌then◌else◌}
use Rattle.td_text.specs.Limits.{max_rebuild}
use Rattle.td_text.specs.Chain.{◌>>=◌}
use Rattle.td_text.specs.Cut.{strip}
use Rattle.td_text.specs.Numbers.{number_at}
use Rattle.td_version.specs.Grammar.{IsVersion}
use Rattle.td_version.specs.Reading.{cut_last}
use Rattle.td_version.specs.Rebuild.{rebuild_text, IsRebuild}
use Rattle.td_version.specs.Version.{Parts}

-- what stands before `+bN` at the end of a part, with a number from 1 to 9999; it may be empty
unfoldable pub rebuilt_from : List ℕ → Option (List ℕ)
rebuilt_from part = do
  p ← cut_last 43 part
  digits ← strip (codes "b") p.1
  n ← number_at max_rebuild digits
  if n == 0 then None else Some p.0

-- a part without `+bN` at its end
abbrev pub base_part : List ℕ → List ℕ
base_part part = unwrap_or (rebuilt_from part) part

-- an upstream part after an epoch, without `+bN` at its end; it is its own base if nothing else
-- would be left of the version. An epoch of 0 counts as none
abbrev pub upstream_base : ℕ → List ℕ → List ℕ
upstream_base epoch upstream = if (length (base_part upstream) == 0) && (epoch == 0) then upstream
    else base_part upstream

-- the version without `+bN` at the end of its revision, or of its upstream part if no revision is
-- written
abbrev pub base_by : ℕ → List ℕ → Option (List ℕ) → Parts
base_by epoch upstream None = record {
  epoch = epoch;
  upstream = upstream_base epoch upstream;
  revision = None;
}
base_by epoch upstream (Some revision) = record {
  epoch = epoch;
  upstream = upstream;
  revision = Some (base_part revision);
}

-- a version without the suffix of a rebuild
abbrev pub base_of : Parts → Parts
base_of p = base_by p.epoch p.upstream p.revision

-- a part with the suffix of a rebuild has the part itself as its base
abbrev pub RebuildsHaveBases : Type 0
RebuildsHaveBases = (part : List ℕ) (n : ℕ) → 0 < n → n ≤ max_rebuild
    → base_part (rebuild_text part n) ≡ part

-- where a text splits into a base and a number, and the base is a version,
-- it is the base of the version that the text is
abbrev pub SplitsHaveBases : Type 0
SplitsHaveBases = (text base : List ℕ) (n : ℕ) (p q : Parts) → IsRebuild text base n
    → IsVersion text p → IsVersion base q → base_of p ≡ q
