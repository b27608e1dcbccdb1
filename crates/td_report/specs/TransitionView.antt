-- What a `Transition` is of. This project's own.
use Rattle.std.specs.Prelude.{ℕ, List, Option}
use Rattle.td_indices.specs.Archive.{Contents}
use Rattle.td_query.specs.Tracking.{Tracking, tracking}
use Rattle.td_waves.specs.WavesView as waves
use Rattle.td_waves.specs.declared.level.Level.{Level}
use Rattle.td_query.specs.Marks.{AreMarks}
use Rattle.td_report.specs.Transition.{AreLevels}
use Rattle.td_report.specs.declared.transition.Transition.{Transition}

-- a transition's archive
abbrev pub contents_of : Transition → Contents
contents_of x = x.archive.now

-- a transition's tracker
abbrev pub tracking_of : Transition → Tracking
tracking_of x = tracking x.tracker.now

-- the levels of a transition's sources
abbrev pub level_of : Transition → List ℕ → Option Level
level_of x source = waves.level_of x.waves source

-- how many levels a transition has
abbrev pub depth_of : Transition → ℕ
depth_of x = waves.depth_of x.waves

-- what holds of each transition: it has the marks of its tracker on the stanzas of its archive, and
-- the levels of the sources that these affect
pub record IsMade (x : Transition) : Type 0 where
  pub marked : AreMarks (contents_of x) (tracking_of x) x.marks
  pub leveled : AreLevels (contents_of x) (tracking_of x) (level_of x) (depth_of x)
