-- Affected rows in memory: each is a row of a report.
use Rattle.std.specs.Prelude.{ℕ, List, Bool}
use Rattle.td_waves.specs.declared.level.Level.{Level}
use Rattle.td_query.specs.declared.status.Status.{Status}
use Rattle.td_report.specs.declared.item.Item.{Item}
use Rattle.td_report.specs.declared.shown.Shown.{Shown}
use Rattle.td_report.specs.Report.{AffectedRow}
use Rattle.td_report.specs.Report as report

-- a row of a report, by its values
abbrev pub seen : Item → AffectedRow
seen item = record {
  key = item.key.now;
  row = item.row.now;
  status = item.status;
  level = item.level;
}

-- whether a row is at a level
abbrev pub stands_at : Level → Item → Bool
stands_at level item = report.stands_at level (seen item)

-- whether a row is Installed
abbrev pub is_installed : Item → Bool
is_installed item = report.is_installed (seen item)

-- whether a row has this status
abbrev pub has_status : Status → Item → Bool
has_status status item = report.has_status status (seen item)

-- whether a row is shown
abbrev pub is_shown : Shown → Item → Bool
is_shown shown item = report.is_shown shown (seen item)

-- a row's line in the report
abbrev pub item_line : Item → List ℕ
item_line item = report.row_line (seen item)

-- a row's source
abbrev pub source_of : Item → List ℕ
source_of item = item.key.now.source
