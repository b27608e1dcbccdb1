-- In which order a plan's lines stand, and which of them have to be there. This project's own.
use Rattle.std.specs.Prelude.{◌≡◌, ◌⊎◌, ◌<◌, ℕ, ◌==◌, ◌&&◌, Bool, true, false, IsTrue, List, []}
use Rattle.std.specs.Prelude.{◌∷◌, Some, codes, filter, map}
use Rattle.std.specs.List.{AllPairs, Contains}
use Rattle.td_rows.specs.declared.key.Key.{Key}
use Rattle.td_rows.specs.declared.row.Row.{Row}
use Rattle.td_rows.specs.Table.{row_of}
use Rattle.td_indices.specs.Sources.{KeptSource}
use Rattle.td_query.specs.declared.status.Status.{Status}
use Rattle.td_query.specs.Statuses.{row_status}
use Rattle.td_plan.specs.Due.{due_places, has_due, is_due, number_of}
use Rattle.td_plan.specs.InOrder.{is_before}
use Rattle.td_plan.specs.Lines.{Words, left_line, nmu_line}
use Rattle.td_plan.specs.Placing.{Placing}
use Rattle.td_plan.specs.Plan.{arch_names, due_sources, plan_lines}
use Rattle.td_plan.specs.Premises.{AreSound, Premises}
use Rattle.td_plan.specs.Reasons.{reason_of}
use Rattle.td_plan.specs.ToldLaws.{IsWantedRow}

-- ---- 1. the order of sources

-- the lines of one source stand before those of another: its step is lower; or the steps are one,
-- and the first source of its part is before that of the other part in byte order; or they are of
-- one part, and it is before the other in byte order
abbrev pub StandsBefore : Placing → KeptSource → KeptSource → Type 0
StandsBefore x s t = (x.step s.head.name < x.step t.head.name)
    ⊎ ((x.step s.head.name ≡ x.step t.head.name)
    × (IsTrue (is_before (x.first s.head.name) (x.first t.head.name))
    ⊎ ((x.first s.head.name ≡ x.first t.head.name)
    × IsTrue (is_before s.head.name t.head.name))))

-- of two sources with lines, the one whose lines come first stands before the other
abbrev pub SourcesAreInOrder : Type 0
SourcesAreInOrder = (p : Premises) (x : Placing) → AreSound p
    → AllPairs (StandsBefore x) (due_sources x p)

-- ---- 2. the `nmu` lines

-- a line begins with a text
abbrev pub begins_with : List ℕ → List ℕ → Bool
begins_with [] line = true
begins_with (c ∷ text) [] = false
begins_with (c ∷ text) (d ∷ line) = (c == d) && begins_with text line

-- a line begins with `nmu`
abbrev pub is_nmu_line : List ℕ → Bool
is_nmu_line line = begins_with (codes "nmu ") line

-- the line that rebuilds the due rows of a source under its number
abbrev pub nmu_line_of : Words → Premises → KeptSource → List ℕ
nmu_line_of words p s = nmu_line words s (number_of p s) (arch_names p (due_places p s))

-- the lines of a plan that begin with `nmu` are one for each source with lines, in their order
abbrev pub NmuLinesAreInOrder : Type 0
NmuLinesAreInOrder = (words : Words) (p : Premises) (x : Placing)
    → filter is_nmu_line (plan_lines words x p) ≡ map (nmu_line_of words p) (due_sources x p)

-- each source with a due row has its `nmu` line among the lines of a plan
abbrev pub NmuLinesAreThere : Type 0
NmuLinesAreThere = (words : Words) (p : Premises) (x : Placing) (s : KeptSource)
    → Contains p.archive.sources s → IsTrue (has_due p s)
    → Contains (plan_lines words x p) (nmu_line_of words p s)

-- ---- 3. the lines `# not planned`

-- the line `# not planned` of a wanted row is among the lines of a plan: with its status, its
-- state, its number and the reason
pub record HasLeftLine (words : Words) (p : Premises) (x : Placing) (k : Key) (row : Row)
    (wanted : IsWantedRow p k) : Type 0 where
  pub status : Status
  pub has : row_status p.archive p.tracker wanted.source wanted.place ≡ Some status
  pub line : Contains (plan_lines words x p)
      (left_line k status row (reason_of p wanted.source wanted.place))

-- each row that is affected, and bad or partial, and isn't due has its line `# not planned`
abbrev pub LeftLinesAreThere : Type 0
LeftLinesAreThere = (words : Words) (p : Premises) (x : Placing) (k : Key) (row : Row)
    (wanted : IsWantedRow p k) → row_of p.rows k ≡ Some row
    → is_due p wanted.source wanted.place ≡ false → HasLeftLine words p x k row wanted
