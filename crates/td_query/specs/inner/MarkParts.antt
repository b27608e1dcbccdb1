-- The parts of the marks that threads make side by side. This project's own.
use Rattle.std.specs.Prelude.{◌≡◌, ℕ, List, IfOk, Result, length, map, take}
use Rattle.std.specs.Global.{Vec}
use Rattle.std.specs.declared.alloc.AllocError.{AllocError}
use Rattle.td_indices.specs.declared.archive_fault.IndexFile.{IndexFile}
use Rattle.td_indices.specs.declared.archive_fault.IndexFile.TheVariants.{Packages, Sources}
use Rattle.td_indices.specs.Archive.{Contents}
use Rattle.td_query.specs.declared.mark.Mark.{Mark}
use Rattle.td_query.specs.declared.tracker.Tracker.{Tracker}
use Rattle.td_query.specs.Marks.{MarkBetween, kept_fields, mark_on}
use Rattle.td_query.specs.Tracking.{IsTracker, Tracking, tracking}

-- the marks of a file's stanzas from one with a number up to another, by any tracker of the text
abbrev pub AreMarksByText : Contents → IndexFile → List ℕ → ℕ → ℕ
    → Result (Vec Mark) AllocError → Type 0
AreMarksByText a file text from to made =
    (t : Tracker) → IsTracker text (tracking t) → IfOk made (λ marks.
    MarkBetween (mark_on (tracking t)) (kept_fields a file) from to marks.items)

-- the marks of the packages from one with a number on, and of the sources before another
abbrev pub AreRestAndFirst : Contents → Tracking → ℕ → ℕ
    → Result (Vec Mark × Vec Mark) AllocError → Type 0
AreRestAndFirst a t from cut made = IfOk made (λ p.
    MarkBetween (mark_on t) (kept_fields a Packages) from (length a.binaries) p.0.items
    × (p.1.items ≡ map (mark_on t) (take cut (kept_fields a Sources))))

-- the marks of the packages from one with a number on, and of all sources
abbrev pub AreRestAndSources : Contents → Tracking → ℕ
    → Result (Vec Mark × Vec Mark) AllocError → Type 0
AreRestAndSources a t from made = IfOk made (λ p.
    MarkBetween (mark_on t) (kept_fields a Packages) from (length a.binaries) p.0.items
    × (p.1.items ≡ map (mark_on t) (kept_fields a Sources)))
