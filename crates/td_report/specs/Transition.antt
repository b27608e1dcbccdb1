-- A tracker's transition over an archive: the affected rows, and where their sources stand.
-- This project's own.
use Rattle.std.specs.Prelude.{◌≡◌, ℕ, IsTrue, List, Option, option_map}
use Rattle.std.specs.List.{filter_map, list_any}
use Rattle.std.specs.Str.{bytes_eq}
use Rattle.td_text.specs.Lines.{text_of}
use Rattle.td_rows.specs.declared.key.Key.{Key}
use Rattle.td_rows.specs.declared.row.Row.{Row}
use Rattle.td_rows.specs.Table.{Table}
use Rattle.td_indices.specs.Archive.{Contents}
use Rattle.td_query.specs.Statuses.{affected_names, status_of}
use Rattle.td_query.specs.Tracking.{Tracking}
use Rattle.td_waves.specs.declared.level.Level.{Level}
use Rattle.td_waves.specs.Levels.{IsDepth, StandsAt}
use Rattle.td_waves.specs.Waves.{BuildsOn}
use Rattle.td_report.specs.Report.{AffectedRow, all_shown, lines_showing, waves_lines}
use Rattle.td_report.specs.declared.shown.Shown.{Shown}

-- a source of the archive with this name is affected
abbrev pub IsAffected : Contents → Tracking → List ℕ → Type 0
IsAffected a t source = IsTrue (list_any (bytes_eq source) (affected_names a t))

-- the levels of the affected sources:
-- each by which of them build on which, and how many levels there are
pub record AreLevels (a : Contents) (t : Tracking) (level : List ℕ → Option Level)
    (depth : ℕ) : Type 0 where
  pub stands : (source : List ℕ) → StandsAt (IsAffected a t) (BuildsOn a) source (level source)
  pub deep : IsDepth level depth

-- a row with its key, if it is affected
abbrev pub affected_row : Contents → Tracking → (List ℕ → Option Level) → Key × Row
    → Option AffectedRow
affected_row a t level p = option_map (λ status.
    record { key = p.0; row = p.1; status = status; level = level p.0.source }) (status_of a t p.0)

-- the affected ones among rows, in their order
abbrev pub affected_rows : Contents → Tracking → (List ℕ → Option Level) → Table → List AffectedRow
affected_rows a t level rows = filter_map (affected_row a t level) rows

-- a text is the report of a tracker over an archive and rows that shows some of the rows
pub record IsReportOf (shown : Shown) (a : Contents) (t : Tracking) (rows : Table)
    (text : List ℕ) : Type 0 where
  pub level : List ℕ → Option Level
  pub depth : ℕ
  pub levels : AreLevels a t level depth
  pub written : text ≡ text_of (lines_showing shown t.title depth (affected_rows a t level rows))

-- a text is the report that shows each row
abbrev pub IsReport : Contents → Tracking → Table → List ℕ → Type 0
IsReport a t rows text = IsReportOf all_shown a t rows text

-- a text is that of the waves of a tracker over an archive and rows:
-- each affected source that has one of these rows, under its level
pub record IsWaves (a : Contents) (t : Tracking) (rows : Table) (text : List ℕ) : Type 0 where
  pub level : List ℕ → Option Level
  pub depth : ℕ
  pub levels : AreLevels a t level depth
  pub written : text ≡ text_of (waves_lines depth (affected_rows a t level rows))
