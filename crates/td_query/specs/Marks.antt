-- What is kept of a tracker's three queries for each stanza,
-- so that each query is evaluated once on it. This project's own.
use Rattle.std.specs.Prelude.{◌≡◌, ℕ, ◌||◌, ◌++◌, false, List, map, slice_get, take}
use Rattle.std.specs.Prelude.{if◌then◌else◌}
use Rattle.std.specs.List.{list_any}
use Rattle.std.specs.Option.{option_map_or}
use Rattle.regex.specs.Patterns.{Re}
use Rattle.td_stanza.specs.Field.{Entry}
use Rattle.td_relation.specs.Meeting.{is_on}
use Rattle.td_indices.specs.declared.archive_fault.IndexFile.{IndexFile}
use Rattle.td_indices.specs.declared.archive_fault.IndexFile.TheVariants.{Packages, Sources}
use Rattle.td_indices.specs.Archive.{Contents, numbers_of}
use Rattle.td_indices.specs.Stanzas.{package_fields, source_fields}
use Rattle.td_query.specs.declared.mark.Mark.{Mark}
use Rattle.td_query.specs.declared.marks.Marks.{Marks}
use Rattle.td_query.specs.Tracking.{Tracking}
use Rattle.td_query.specs.Truth.{truth}

-- which of the queries hold on a stanza's fields, with these patterns
abbrev pub mark_by : List Re → Tracking → List Entry → Mark
mark_by patterns t fields = record {
  affected = truth patterns fields t.affected;
  good = truth patterns fields t.good;
  bad = truth patterns fields t.bad;
}

-- which of the queries hold on a stanza's fields, with the tracker's own patterns
abbrev pub mark_on : Tracking → List Entry → Mark
mark_on t fields = mark_by t.patterns t fields

-- the fields of the stanzas of a file that binary packages, or sources, were kept of
abbrev pub kept_fields : Contents → IndexFile → List (List Entry)
kept_fields a Packages = map (package_fields a) a.binaries
kept_fields a Sources = map (source_fields a) a.sources

-- the marks of the stanzas before a number, and then these marks, are the marks of the stanzas
-- before another number
abbrev pub MarkBetween : (List Entry → Mark) → List (List Entry) → ℕ → ℕ → List Mark → Type 0
MarkBetween mark stanzas from to marks =
    map mark (take from stanzas) ++ marks ≡ map mark (take to stanzas)

-- the marks are those of the stanzas that binary packages and sources were kept of
pub record AreMarks (a : Contents) (t : Tracking) (m : Marks) : Type 0 where
  pub packages : m.packages.items ≡ map (λ b. mark_on t (package_fields a b)) a.binaries
  pub sources : m.sources.items ≡ map (λ s. mark_on t (source_fields a s)) a.sources

-- ---- the parts of a row's mark

-- the mark by which no query holds
abbrev pub no_mark : Mark
no_mark = record { affected = false; good = false; bad = false }

-- the queries that hold by one mark or the other
abbrev pub either_mark : Mark → Mark → Mark
either_mark m n = record {
  affected = m.affected || n.affected;
  good = m.good || n.good;
  bad = m.bad
      || n.bad;
}

-- which queries hold on the stanza of the package with a number,
-- if it is on the architecture at a place or of `all`
abbrev pub mark_there : Contents → List Re → Tracking → ℕ → ℕ → Mark
mark_there a patterns t place number =
    option_map_or (λ b. if is_on place b.head.home then mark_by patterns t (package_fields a b)
    else no_mark) (slice_get a.binaries number) no_mark

-- which queries hold by a mark, or by the mark of one of these numbers
abbrev pub gathered : Mark → (ℕ → Mark) → List ℕ → Mark
gathered own marks numbers = record {
  affected = own.affected || list_any (λ n. (marks n).affected) numbers;
  good = own.good || list_any (λ n. (marks n).good) numbers;
  bad = own.bad || list_any (λ n. (marks n).bad) numbers;
}

-- which queries hold on some stanza of the row of a source on an architecture, both by number
abbrev pub row_mark : Contents → List Re → Tracking → ℕ → ℕ → Mark
row_mark a patterns t source place =
    option_map_or
    (λ s. gathered (mark_by patterns t (source_fields a s)) (mark_there a patterns t place)
    (numbers_of a s.head.name)) (slice_get a.sources source) no_mark
