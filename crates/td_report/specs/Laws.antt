-- Laws of reports. This project's own.
use Rattle.std.specs.Prelude.{◌≡◌, ℕ, List}
use Rattle.td_rows.specs.Table.{Table}
use Rattle.td_indices.specs.Archive.{Contents}
use Rattle.td_query.specs.Tracking.{Tracking}
use Rattle.td_report.specs.Transition.{IsReportOf, IsWaves}
use Rattle.td_report.specs.declared.shown.Shown.{Shown}

-- the reports of a tracker over an archive and rows that show the same statuses are one text
abbrev pub ReportsAreOneText : Type 0
ReportsAreOneText = (shown : Shown) (a : Contents) (t : Tracking) (rows : Table)
    (text other : List ℕ)
    → IsReportOf shown a t rows text → IsReportOf shown a t rows other → text ≡ other

-- the waves of a tracker over an archive and rows are one text
abbrev pub WavesAreOneText : Type 0
WavesAreOneText = (a : Contents) (t : Tracking) (rows : Table) (text other : List ℕ)
    → IsWaves a t rows text → IsWaves a t rows other → text ≡ other
