-- Which texts are tables of architectures, and what is wrong with others. This project's own.
use Rattle.std.specs.Prelude.{◌≡◌, ◌≢◌, ◌⊎◌, ℕ, ◌+◌, ◌≤◌, not, Bool, true, false, List, [], ◌∷◌}
use Rattle.std.specs.Prelude.{◌++◌, length, map, Result, Ok, Err}
use Rattle.std.specs.List.{filter, AllByRecursion}
use Rattle.td_relation.specs.Limits.{max_archs}
use Rattle.td_relation.specs.declared.archs.ArchsFault.{ArchsFault}
use Rattle.td_relation.specs.declared.archs.ArchsFault.TheVariants.{BadLine, Twice, TooMany}
use Rattle.td_relation.specs.declared.archs.ArchsFault.TheVariants.{NoMemory}
use Rattle.td_relation.specs.Arch.{ArchWords, arch_line, ArchFits}
use Rattle.td_relation.specs.Table.{Fresh, is_named, is_skipped}

-- the lines that aren't skipped are those of these architectures, in this order, after the
-- architectures seen
pub record AreLinesOf (seen archs : List ArchWords) (lines : List (List ℕ)) : Type 0 where
  pub spelled : filter (λ line. not (is_skipped line)) lines ≡ map arch_line archs
  pub fits : AllByRecursion ArchFits archs
  pub fresh : Fresh seen archs
  pub limited : length (seen ++ archs) ≤ max_archs

-- the lines of a table, and the architectures in the order of their lines
abbrev pub IsTable : List (List ℕ) → List ArchWords → Type 0
IsTable lines archs = AreLinesOf [] archs lines

-- the line is that of an architecture whose name is among those seen, or isn't
pub record IsLineNamed (is : Bool) (seen : List ArchWords) (line : List ℕ) : Type 0 where
  pub arch : ArchWords
  pub spelled : line ≡ arch_line arch
  pub fits : ArchFits arch
  pub named : is_named seen arch.name ≡ is

-- what is wrong with a line that isn't skipped and has this number, after the architectures seen
abbrev pub IsFaulty : List ArchWords → ℕ → List ℕ → ArchsFault → Type 0
IsFaulty seen number line (BadLine n) = (n ≡ number)
    × ((a : ArchWords) → ArchFits a → line ≢ arch_line a)
IsFaulty seen number line (Twice n) = (n ≡ number) × IsLineNamed true seen line
IsFaulty seen number line TooMany = IsLineNamed false seen line × (length seen ≡ max_archs)
IsFaulty seen number line NoMemory = ⊥

-- the first line with a fault: those before it are lines of a table
pub record IsFirstFault (lines : List (List ℕ)) (e : ArchsFault) : Type 0 where
  pub before : List (List ℕ)
  pub line : List ℕ
  pub after : List (List ℕ)
  pub parts : lines ≡ before ++ line ∷ after
  pub seen : List ArchWords
  pub fine : AreLinesOf [] seen before
  pub kept : is_skipped line ≡ false
  pub faulty : IsFaulty seen (1 + length before) line e

-- a fault is that of the first faulty line; `NoMemory` may be the answer for any lines
abbrev pub FaultOf : List (List ℕ) → ArchsFault → Type 0
FaultOf lines NoMemory = Unit {0}
FaultOf lines e = IsFirstFault lines e

-- what was returned, unless memory ran out: this fault
abbrev pub IsRefusedFor : {A : Type 0} → ArchsFault → Result A ArchsFault → Type 0
IsRefusedFor fault (Ok found) = ⊥
IsRefusedFor fault (Err e) = (e ≡ NoMemory) ⊎ (e ≡ fault)
