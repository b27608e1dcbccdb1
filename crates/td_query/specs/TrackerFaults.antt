-- Why a text is refused as a tracker. This project's own.
use Rattle.std.specs.Prelude.{◌≡◌, ℕ, ◌-◌, List, ◌∷◌, ◌++◌, None, Result, Ok, Err, IsSome, codes}
use Rattle.std.specs.Prelude.{length}
use Rattle.td_query.specs.declared.tracker_fault.TrackerFault.{TrackerFault}
use Rattle.td_query.specs.declared.tracker_fault.TrackerFault.TheVariants.{Syntax, MissingKey}
use Rattle.td_query.specs.declared.tracker_fault.TrackerFault.TheVariants.{BadPattern, NoMemory}
use Rattle.td_query.specs.declared.tracker_fault.TrackerKey.{TrackerKey}
use Rattle.td_query.specs.declared.tracker_fault.TrackerKey.TheVariants.{IsAffected, IsGood, IsBad}
use Rattle.td_query.specs.QueryGrammar.{Raw, Log}
use Rattle.td_query.specs.Sources.{source_of, ArePatterns, IsRefusedForCause}
use Rattle.td_query.specs.TrackerGrammar.{Said, said_in}

-- the keys as a tracker has them
abbrev pub key_name : TrackerKey → List ℕ
key_name IsAffected = codes "is_affected"
key_name IsGood = codes "is_good"
key_name IsBad = codes "is_bad"

-- a fault's name, without its place or key
abbrev pub fault_name : TrackerFault → List ℕ
fault_name (Syntax place) = codes "Syntax"
fault_name (MissingKey key) = codes "MissingKey"
fault_name (BadPattern place) = codes "BadPattern"
fault_name NoMemory = codes "NoMemory"

-- the pattern whose opening `/` is at the place is refused, in a text of this many bytes; those
-- before it are read. A legal pattern may be refused too, as too large
pub record IsFirstRefused (size : ℕ) (log : Log) (place : ℕ) : Type 0 where
  pub before : Log
  pub at : Raw
  pub after : Log
  pub parts : log ≡ before ++ at ∷ after
  pub fine : ArePatterns before
  pub refused : IsRefusedForCause (source_of at)
  pub there : place ≡ size - at.left

-- the first key that is missing: `is_affected`, then `is_good`, then `is_bad`
abbrev pub IsMissing : Said → TrackerKey → Type 0
IsMissing s IsAffected = s.affected ≡ None
IsMissing s IsGood = IsSome s.affected × (s.good ≡ None)
IsMissing s IsBad = IsSome s.affected × IsSome s.good × (s.bad ≡ None)

-- the patterns before the end of a text, or before its first wrong byte
abbrev pub log_in : Result Said (ℕ × Log) → Log
log_in (Ok s) = s.log
log_in (Err e) = e.1

-- the fault of a text: its first wrong byte, if the patterns before it are read; or the first
-- pattern that is refused; or else what is missing. Memory may run out whatever the text is
abbrev pub FaultOf : List ℕ → TrackerFault → Type 0
FaultOf text (Syntax place) = (left : ℕ) × (log : Log) × (said_in text ≡ Err (left, log))
    × ArePatterns log × (place ≡ length text - left)
FaultOf text (BadPattern place) = IsFirstRefused (length text) (log_in (said_in text)) place
FaultOf text (MissingKey key) = (s : Said) × (said_in text ≡ Ok s) × ArePatterns s.log
    × IsMissing s key
FaultOf text NoMemory = Unit {0}

-- a fault of patterns only: the first pattern that is refused, unless memory runs out
abbrev pub IsPatternFault : ℕ → Log → TrackerFault → Type 0
IsPatternFault size log (Syntax place) = ⊥
IsPatternFault size log (BadPattern place) = IsFirstRefused size log place
IsPatternFault size log (MissingKey key) = ⊥
IsPatternFault size log NoMemory = Unit {0}
