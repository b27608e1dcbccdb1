-- Which sources and rows stand in a plan's lines: all that are to, and nothing else. This project's
-- own.
use Rattle.std.specs.Prelude.{◌≡◌, ◌⊎◌, ℕ, Bool, true, false, IsSome, IsTrue, Some, filter}
use Rattle.std.specs.Prelude.{map}
use Rattle.std.specs.List.{Contains}
use Rattle.std.specs.List.Sorted.{IsPermutation}
use Rattle.td_relation.specs.Table.{place_of}
use Rattle.td_rows.specs.declared.key.Key.{Key}
use Rattle.td_rows.specs.declared.row.Row.{Row}
use Rattle.td_rows.specs.Table.{row_of}
use Rattle.td_indices.specs.Archive.{source_named}
use Rattle.td_indices.specs.Sources.{KeptSource}
use Rattle.td_wbread.specs.Command.{CommandParts}
use Rattle.td_wbread.specs.declared.command.Verb.{Verb}
use Rattle.td_wbread.specs.declared.command.Verb.TheVariants.{Bp, Dw, Gb, Nmu}
use Rattle.td_plan.specs.Due.{due_places, has_due, is_wanted, number_of}
use Rattle.td_plan.specs.Lines.{Words}
use Rattle.td_plan.specs.Placing.{Placing}
use Rattle.td_plan.specs.Plan.{arch_names, due_sources, left_of}
use Rattle.td_plan.specs.PlayLaws.{plan_commands}
use Rattle.td_plan.specs.Premises.{AreSound, Premises}
use Rattle.td_plan.specs.ReadingLaws.{command_with}

-- ---- 1. sources

-- the verb of an `nmu` line
abbrev pub is_nmu : Verb → Bool
is_nmu Gb = false
is_nmu (Nmu number) = true
is_nmu (Bp priority) = false
is_nmu Dw = false

-- the rebuild of a source's due rows under one number
abbrev pub rebuild_of : Words → Premises → KeptSource → CommandParts
rebuild_of words p s =
    command_with (Nmu (Some (number_of p s))) s (arch_names p (due_places p s)) words.message

-- the `nmu` lines of a plan are a rebuild for each source with a due row, and no more: as often as
-- the source is in the archive, which is once
abbrev pub RebuildsAreOfDueSources : Type 0
RebuildsAreOfDueSources = (words : Words) (p : Premises) (x : Placing)
    → (filter (λ c. is_nmu c.verb) (plan_commands words x p)
    ≡ map (rebuild_of words p) (due_sources x p))
    × IsPermutation (filter (has_due p) p.archive.sources) (due_sources x p)

-- ---- 2. rows

-- a key of the archive whose row is affected, and bad or partial
pub record IsWantedRow (p : Premises) (k : Key) : Type 0 where
  pub source : KeptSource
  pub named : source_named p.archive k.source ≡ Some source
  pub place : ℕ
  pub at : place_of p.archive.table k.arch ≡ Some place
  pub wanted : IsTrue (is_wanted p source place)

-- an `nmu` line names the key's source, and its architecture
pub record IsRebuilt (x : Placing) (p : Premises) (k : Key) : Type 0 where
  pub source : KeptSource
  pub lined : Contains (due_sources x p) source
  pub name : source.head.name ≡ k.source
  pub arch : Contains (arch_names p (due_places p source)) k.arch

-- a line `# not planned` is the row's
abbrev pub IsLeft : Premises → Key → Row → Type 0
IsLeft p k row = IsSome (left_of p (k, row))

-- each row that is affected, and bad or partial, is in exactly one of an `nmu` line and a line
-- `# not planned`
abbrev pub WantedRowsAreInOneLine : Type 0
WantedRowsAreInOneLine = (p : Premises) (x : Placing) (k : Key) (row : Row) → AreSound p
    → row_of p.rows k ≡ Some row → IsWantedRow p k
    → (IsRebuilt x p k × ¬ IsLeft p k row) ⊎ (IsLeft p k row × ¬ IsRebuilt x p k)

-- no other row is in an `nmu` line or a line `# not planned`
abbrev pub OtherRowsAreInNoLine : Type 0
OtherRowsAreInNoLine = (p : Premises) (x : Placing) (k : Key) (row : Row) → AreSound p
    → IsRebuilt x p k ⊎ IsLeft p k row → IsWantedRow p k
