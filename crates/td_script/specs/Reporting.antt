-- The report of a tracker over an archive, as a function of the rows. This project's own.
use Rattle.std.specs.Prelude.{ℕ, List, Option}
use Rattle.td_text.specs.Lines.{text_of}
use Rattle.td_rows.specs.Table.{Table}
use Rattle.td_book.specs.Desk.{Fixed}
use Rattle.td_indices.specs.Archive.{Contents}
use Rattle.td_query.specs.Tracking.{Tracking}
use Rattle.td_waves.specs.declared.level.Level.{Level}
use Rattle.td_report.specs.Report.{report_lines}
use Rattle.td_report.specs.Transition.{affected_rows}
use Rattle.td_report.specs.TransitionView.{IsMade, contents_of, depth_of, level_of, tracking_of}
use Rattle.td_report.specs.declared.transition.Transition.{Transition}

-- the text of the report of these rows, if sources are at these levels
abbrev pub report_with : Contents → Tracking → (List ℕ → Option Level) → ℕ → Table → List ℕ
report_with a t level depth rows =
    text_of (report_lines t.title depth (affected_rows a t level rows))

-- the text of a transition's report of these rows
abbrev pub report_by : Transition → Table → List ℕ
report_by x rows = report_with (contents_of x) (tracking_of x) (level_of x) (depth_of x) rows

-- a transition's reports fit any book
abbrev pub made : Transition → Table → Fixed → Type 0
made x opening fixed = IsMade x
