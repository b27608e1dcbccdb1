-- The status of a row by what holds on its stanzas.
use Rattle.std.proofs.Common.{◌≡◌, ℕ, ◌≤◌, ◌||◌, ◌&&◌, Bool, true, false, List, [], ◌∷◌}
use Rattle.std.proofs.Common.{Option, Some, None, length, slice_get, refl, ap, ◌∙◌, inl, inr}
use Rattle.std.proofs.Common.{sym}
use Rattle.std.specs.List.{list_any}
use Rattle.std.specs.Option.{option_map_or}
use Rattle.std.proofs.lemmas.Bool.{cases_Bool}
use Rattle.std.proofs.lemmas.Option.{slice_get_past}
use Rattle.std.proofs.Math.Bool.{and_assoc}
use Rattle.regex.specs.Patterns.{Re}
use Rattle.td_text.proofs.Anywhere.{any-same}
use Rattle.td_relation.specs.Arch.{ArchWords}
use Rattle.td_relation.specs.ArchList.{words}
use Rattle.td_relation.specs.Meeting.{is_on}
use Rattle.td_relation.specs.Table.{place_of}
use Rattle.td_rows.specs.declared.key.Key.{Key}
use Rattle.td_indices.specs.Archive.{Contents, has_row_at, is_of, is_of_on, number_named}
use Rattle.td_indices.specs.Archive.{numbers_of}
use Rattle.td_indices.specs.Kept.{KeptBinary}
use Rattle.td_indices.specs.Rows.{has_row, matches_at}
use Rattle.td_indices.specs.Sources.{KeptSource}
use Rattle.td_indices.specs.Stanzas.{package_fields, source_fields}
use Rattle.td_indices.proofs.Places.{any-places}
use Rattle.td_query.specs.declared.mark.Mark.{Mark}
use Rattle.td_query.specs.Marks.{gathered, mark_by, mark_there, row_mark}
use Rattle.td_query.specs.Query.{Shape}
use Rattle.td_query.specs.Statuses.{row_satisfies, row_status, status_at, status_of, status_where}
use Rattle.td_query.specs.Tracking.{Tracking}
use Rattle.td_query.specs.Truth.{truth}

-- ---- 1. a query on the stanzas of a row

module _ (a : Contents) (patterns : List Re) (query : Shape) (place : ℕ) where
  -- whether a package is there, and the query holds on its stanza
  abbrev is_on_it : KeptBinary → Bool
  is_on_it b = is_on place b.head.home && truth patterns (package_fields a b) query

  pub some_package : (f : ℕ → Bool) (s : KeptSource)
      → ((k : ℕ) (b : KeptBinary) → slice_get a.binaries k ≡ Some b → f k ≡ is_on_it b)
      → (truth patterns (source_fields a s) query || list_any f (numbers_of a s.head.name))
      ≡ row_satisfies a patterns query s place
  some_package f s e =
      ap (λ b. truth patterns (source_fields a s) query || b)
      (any-places (is_of s.head.name) f is_on_it a.binaries a.binaries 0 e refl
      ∙ any-same (λ b. is_of s.head.name b && is_on_it b)
      (λ b. is_of_on s.head.name place b && truth patterns (package_fields a b) query) a.binaries
      (λ b. sym (and_assoc (is_of s.head.name b) (is_on place b.head.home)
      (truth patterns (package_fields a b) query))))

-- ---- 2. the three queries

module _ (a : Contents) (t : Tracking) (place : ℕ) where
  flag : (get : Mark → Bool) (query : Shape)
      → ((fields : _) → get (mark_by t.patterns t fields) ≡ truth t.patterns fields query)
      → (get (record { affected = false; good = false; bad = false }) ≡ false)
      → (k : ℕ) (b : KeptBinary) → slice_get a.binaries k ≡ Some b
      → get (mark_there a t.patterns t place k)
      ≡ (is_on place b.head.home && truth t.patterns (package_fields a b) query)
  flag get query holds none k b at =
      elim (cases_Bool (is_on place b.head.home)) [
        | inl there ↦ rw (at, there) (holds (package_fields a b))
        | inr away ↦ rw (at, away) none
      ]

  abbrev marks_of_row : KeptSource → Mark
  marks_of_row s = gathered (mark_by t.patterns t (source_fields a s))
      (mark_there a t.patterns t place) (numbers_of a s.head.name)

  pub row_is : (s : KeptSource) → has_row a.table s.head.archs place ≡ true → status_where
      (marks_of_row s).affected (marks_of_row s).good (marks_of_row s).bad ≡ row_status a t s place
  row_is s there =
      rw (
        some_package a t.patterns t.affected place
            (λ k. (mark_there a t.patterns t place k).affected) s
            (flag (λ m. m.affected) t.affected (λ fields. refl) refl),
        some_package a t.patterns t.good place (λ k. (mark_there a t.patterns t place k).good) s
            (flag (λ m. m.good) t.good (λ fields. refl) refl),
        some_package a t.patterns t.bad place (λ k. (mark_there a t.patterns t place k).bad) s
            (flag (λ m. m.bad) t.bad (λ fields. refl) refl),
        there,
      ) refl

-- ---- 3. by number

some_at : (a : Contents) (t : Tracking) (place : ℕ) (o : Option KeptSource)
    → option_map_or (λ s. has_row a.table s.head.archs place) o false ≡ true → (m : Mark)
    → m ≡ option_map_or (marks_of_row a t place) o
    (record { affected = false; good = false; bad = false })
    → status_where m.affected m.good m.bad ≡ option_map_or (λ s. row_status a t s place) o None
some_at a t place None h m is = absurd (let bad : false ≡ true = h in cc)
some_at a t place (Some s) h m is = rw is (row_is a t place s h)

pub status_there : (a : Contents) (t : Tracking) (source place : ℕ) (m : Mark)
    → has_row_at a source place ≡ true → m ≡ row_mark a t.patterns t source place
    → status_where m.affected m.good m.bad ≡ status_at a t source place
status_there a t source place m h is = some_at a t place (slice_get a.sources source) h m is

none_at : (a : Contents) (t : Tracking) (place : ℕ) (o : Option KeptSource)
    → option_map_or (λ s. has_row a.table s.head.archs place) o false ≡ false
    → None ≡ option_map_or (λ s. row_status a t s place) o None
none_at a t place None h = refl
none_at a t place (Some s) h = rw h refl

-- a source has no status on an architecture on which it has no row
pub status_nowhere : (a : Contents) (t : Tracking) (source place : ℕ)
    → has_row_at a source place ≡ false → None ≡ status_at a t source place
status_nowhere a t source place h = none_at a t place (slice_get a.sources source) h

-- ---- 4. past the table

no_match : (table : List ArchWords) (place : ℕ) → length table ≤ place → (ws : List (List ℕ))
    → list_any (matches_at table place) ws ≡ false
no_match table place h [] = refl
no_match table place h (w ∷ ws) = rw (slice_get_past table place h) (no_match table place h ws)

none_past : (a : Contents) (place : ℕ) (o : Option KeptSource) → length a.table ≤ place
    → option_map_or (λ s. has_row a.table s.head.archs place) o false ≡ false
none_past a place None h = refl
none_past a place (Some s) h = no_match a.table place h (words s.head.archs)

pub status_past : (a : Contents) (t : Tracking) (source place : ℕ) → length a.table ≤ place
    → None ≡ status_at a t source place
status_past a t source place h =
    status_nowhere a t source place (none_past a place (slice_get a.sources source) h)

-- ---- 5. by name

pub status_named : (a : Contents) (t : Tracking) (k : Key) (source place : ℕ)
    → number_named a k.source ≡ Some source → place_of a.table k.arch ≡ Some place
    → status_at a t source place ≡ status_of a t k
status_named a t k source place named there = rw (named, there) refl
