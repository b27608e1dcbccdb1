-- A row whose source is at no level isn't affected.
use Rattle.std.proofs.Common.{◌≡◌, ◌<◌, ℕ, Bool, true, List, [], ◌∷◌, Option, None, Some, length}
use Rattle.std.proofs.Common.{filter, get_or, map, option_map, position, slice_get, refl, sym, ap}
use Rattle.std.proofs.Common.{subst, ◌∙◌, ◌&&◌, inl, inr}
use Rattle.std.specs.Prelude.{is_some}
use Rattle.std.specs.Cmp.Derive.{both_true}
use Rattle.std.specs.List.{list_any}
use Rattle.std.specs.Option.{option_map_or}
use Rattle.std.specs.Str.{bytes_eq}
use Rattle.std.proofs.lemmas.List.Folds.{list_any_at}
use Rattle.std.proofs.lemmas.List.Quantifiers.{position-Some}
use Rattle.std.proofs.lemmas.Option.{slice_get_cases}
use Rattle.td_text.proofs.Anywhere.{any-below}
use Rattle.td_text.proofs.Chain.{list_any-map}
use Rattle.td_relation.specs.Arch.{ArchWords}
use Rattle.td_relation.specs.Table.{place_of}
use Rattle.td_rows.specs.declared.key.Key.{Key}
use Rattle.td_rows.specs.declared.row.Row.{Row}
use Rattle.td_indices.specs.Archive.{Contents, number_named}
use Rattle.td_indices.specs.Sources.{KeptSource}
use Rattle.td_indices.proofs.Places.{any-filter}
use Rattle.td_query.specs.declared.status.Status.{Status}
use Rattle.td_query.specs.Statuses.{is_affected, row_status, status_at, status_of}
use Rattle.td_query.specs.Tracking.{Tracking}
use Rattle.td_waves.specs.declared.level.Level.{Level}
use Rattle.td_waves.specs.Levels.{StandsAt}
use Rattle.td_waves.specs.Waves.{BuildsOn}
use Rattle.td_report.specs.Transition.{AreLevels, IsAffected, affected_row}

-- if something was made, it was made of what was there
pub made_of : {A B : Type 0} (f : A → Option B) (o : Option A) (b : B)
    → option_map_or f o None ≡ Some b → (x : A) × (o ≡ Some x) × (f x ≡ Some b)
made_of f None b is = absurd cc
made_of f (Some x) b is = (x, refl, is)

place-below : (table : List ArchWords) (arch : List ℕ) (place : ℕ)
    → place_of table arch ≡ Some place → place < length table
place-below [] arch place is = absurd cc
place-below (x ∷ xs) arch place is =
    (position-Some (λ (a : ArchWords). bytes_eq a.name arch) (x ∷ xs) place x is).0

-- a source that has the name of another, and passes a test, is one of those that pass
pub among-kept : (keep : KeptSource → Bool) (name : List ℕ) (sources : List KeptSource) (n : ℕ)
    (s : KeptSource) → position (λ s. bytes_eq name s.head.name) sources ≡ Some n
    → slice_get sources n ≡ Some s → keep s ≡ true
    → list_any (bytes_eq name) (map (λ s. s.head.name) (filter keep sources)) ≡ true
among-kept keep name sources n s found at kept = elim (slice_get_cases sources n).1 [
  | inl h ↦
      let test : KeptSource → Bool = λ s. bytes_eq name s.head.name in
      let same : h.0 ≡ s = cc in
      let place = position-Some test sources n s found in
      let here : get_or sources n s ≡ s = ap (get_or sources n) (sym same) ∙ h.3 ∙ same in
      list_any-map (bytes_eq name) (λ s. s.head.name) (filter keep sources)
      ∙ sym (any-filter keep test sources)
      ∙ list_any_at (λ x. keep x && test x) sources n s place.0
      (ap (λ x. keep x && test x) here ∙ both_true kept (sym (ap test here) ∙ place.1))
  | inr h ↦ absurd cc
]

-- the source of a row with a status is affected
pub affected-by_status : (a : Contents) (t : Tracking) (k : Key) (status : Status)
    → status_of a t k ≡ Some status → IsAffected a t k.source
affected-by_status a t k status is =
    let source = made_of (λ n. option_map_or (status_at a t n) (place_of a.table k.arch) None)
    (number_named a k.source) status is in
    let place = made_of (status_at a t source.0) (place_of a.table k.arch) status source.2 in
    let row = made_of (λ s. row_status a t s place.0) (slice_get a.sources source.0) status
    place.2 in
    among-kept (is_affected a t) k.source a.sources source.0 row.0 source.1 row.1
    (any-below (λ p. is_some (row_status a t row.0 p)) (length a.table) place.0
    (place-below a.table k.arch place.0 place.1) (ap is_some row.2))

pub no_status : (o : Option Status) → ((s : Status) → o ≡ Some s → ⊥) → o ≡ None
no_status None never = refl
no_status (Some s) never = absurd (never s refl)

pub affected_row-none : (a : Contents) (t : Tracking) (level : List ℕ → Option Level)
    (depth : ℕ) (p : Key × Row) → AreLevels a t level depth → level p.0.source ≡ None
    → affected_row a t level p ≡ None
affected_row-none a t level depth p levels none =
    let out : ¬ IsAffected a t p.0.source =
    subst (λ l. StandsAt (IsAffected a t) (BuildsOn a) p.0.source l) none
    (levels.stands p.0.source) in
    ap (option_map (λ status.
    record { key = p.0; row = p.1; status = status; level = level p.0.source }))
    (no_status (status_of a t p.0) (λ s is. out (affected-by_status a t p.0 s is)))
