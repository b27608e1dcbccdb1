-- That a text is of one tracker. This project's own.
use Rattle.std.specs.Prelude.{◌≡◌, ℕ, List, Ok, Some}
use Rattle.std.specs.List.{AllZip}
use Rattle.regex.specs.Patterns.{SameCaptures}
use Rattle.td_stanza.specs.Field.{Entry}
use Rattle.td_rows.specs.declared.key.Key.{Key}
use Rattle.td_indices.specs.Archive.{Contents}
use Rattle.td_indices.specs.Fields.{value_of}
use Rattle.td_indices.specs.Kept.{KeptBinary}
use Rattle.td_indices.specs.Sources.{KeptSource}
use Rattle.td_indices.specs.Stanzas.{package_fields, source_fields}
use Rattle.td_query.specs.Query.{Shape}
use Rattle.td_query.specs.Sources.{ArePatterns}
use Rattle.td_query.specs.Statuses.{status_of}
use Rattle.td_query.specs.TrackerGrammar.{Said, said_in}
use Rattle.td_query.specs.Tracking.{IsTracker, Tracking}
use Rattle.td_query.specs.Truth.{truth}
use Rattle.td_query.specs.inner.Alike.{AreBytes}

-- a text is a tracker's if its keys say the three queries and `regex` reads each of its patterns
abbrev pub TrackersAreThere : Type 0
TrackersAreThere = (text : List ℕ) (s : Said) (affected good bad : Shape) → said_in text ≡ Ok s
    → s.affected ≡ Some affected → s.good ≡ Some good → s.bad ≡ Some bad → ArePatterns s.log
    → (t : Tracking) × IsTracker text t

-- two trackers are the same except for how their patterns are put together: the patterns of one
-- number have one text, and the same matches and groups in each text of bytes
pub record IsSameTracker (t u : Tracking) : Type 0 where
  pub title : u.title ≡ t.title
  pub affected : u.affected ≡ t.affected
  pub good : u.good ≡ t.good
  pub bad : u.bad ≡ t.bad
  pub sources : u.sources ≡ t.sources
  pub patterns : AllZip SameCaptures t.patterns u.patterns

-- two trackers of one text are the same, as `IsSameTracker` says
abbrev pub TrackersAreOne : Type 0
TrackersAreOne = (text : List ℕ) (t u : Tracking) → IsTracker text t → IsTracker text u
    → IsSameTracker t u

-- the values of a stanza's fields are bytes, as they are in each file
abbrev pub HaveBytes : List Entry → Type 0
HaveBytes fields = (name value : List ℕ) → value_of fields name ≡ Some value → AreBytes value

-- a query holds on a stanza by both trackers of one text, or by neither
abbrev pub TrackersHoldAlike : Type 0
TrackersHoldAlike = (text : List ℕ) (t u : Tracking) → IsTracker text t → IsTracker text u
    → (fields : List Entry) → HaveBytes fields → (query : Shape)
    → truth u.patterns fields query ≡ truth t.patterns fields query

-- the values of the fields of all stanzas of an archive are bytes
abbrev pub KeepsBytes : Contents → Type 0
KeepsBytes a = ((s : KeptSource) → HaveBytes (source_fields a s))
    × ((b : KeptBinary) → HaveBytes (package_fields a b))

-- a row has one status by both trackers of one text
abbrev pub RowsHaveOneStatus : Type 0
RowsHaveOneStatus = (text : List ℕ) (t u : Tracking) → IsTracker text t → IsTracker text u
    → (a : Contents) → KeepsBytes a → (key : Key) → status_of a u key ≡ status_of a t key
