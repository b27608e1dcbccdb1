-- Which lines of a plan tell what rows wait for, and which comments stand. This project's own.
use Rattle.std.specs.Prelude.{◌≡◌, ◌<◌, ℕ, true, IsTrue, List, length, map}
use Rattle.std.specs.List.{Contains}
use Rattle.td_indices.specs.Sources.{KeptSource}
use Rattle.td_plan.specs.AwaitedLaws.{WaitsFor}
use Rattle.td_plan.specs.Due.{has_due}
use Rattle.td_plan.specs.Lines.{Words, check_line, dw_line, no_wait_line, part_line, step_line}
use Rattle.td_plan.specs.Placing.{Placing}
use Rattle.td_plan.specs.Plan.{is_beside, part_of, plan_lines}
use Rattle.td_plan.specs.Premises.{Premises, arch_at, key_at, name_of}
use Rattle.td_plan.specs.Relations.{relation_of}
use Rattle.td_plan.specs.WaitLaws.{IsPlanned}
use Rattle.td_plan.specs.Waits.{Wait, is_waitless, waits_of}

-- ---- 1. the lines by which a row waits

-- a row that waits for something is in a `dw` line with the relation of its waits
abbrev pub DwLinesAreThere : Type 0
DwLinesAreThere = (words : Words) (p : Premises) (x : Placing) (s : KeptSource) (place : ℕ)
    → IsPlanned p x s place → 0 < length (waits_of (is_beside x s) p s place)
    → (archs : List (List ℕ)) × Contains archs (arch_at p.archive.table place)
    × Contains (plan_lines words x p)
    (dw_line words s archs (relation_of (waits_of (is_beside x s) p s place)))

-- each wait of a row for a package of an older version has its comment `# check`
abbrev pub CheckLinesAreThere : Type 0
CheckLinesAreThere = (words : Words) (p : Premises) (x : Placing) (s : KeptSource) (place : ℕ)
    (w : Wait) → IsPlanned p x s place → Contains (waits_of (is_beside x s) p s place) w
    → w.older ≡ true
    → Contains (plan_lines words x p) (check_line (key_at p s place) w.name w.on)

-- each source for which a row is to wait, and can't be told to, has its comment `# no wait`
abbrev pub NoWaitLinesAreThere : Type 0
NoWaitLinesAreThere = (words : Words) (p : Premises) (x : Placing) (s t : KeptSource) (place : ℕ)
    → IsPlanned p x s place → WaitsFor p x s place t → IsTrue (is_waitless p s place t)
    → Contains (plan_lines words x p) (no_wait_line (key_at p s place) t.head.name)

-- ---- 2. the comments on steps and parts

-- the step of each source with a due row has its comment `# step`
abbrev pub StepLinesAreThere : Type 0
StepLinesAreThere = (words : Words) (p : Premises) (x : Placing) (s : KeptSource)
    → Contains p.archive.sources s → IsTrue (has_due p s)
    → Contains (plan_lines words x p) (step_line (x.step s.head.name))

-- the part of each source with a due row has its comment, if it has several sources
abbrev pub PartLinesAreThere : Type 0
PartLinesAreThere = (words : Words) (p : Premises) (x : Placing) (s : KeptSource)
    → Contains p.archive.sources s → IsTrue (has_due p s) → 1 < length (part_of x p s)
    → Contains (plan_lines words x p) (part_line (map name_of (part_of x p s)))
