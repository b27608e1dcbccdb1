-- A row has one status by both trackers of one text.
use Rattle.std.proofs.Common.{◌≡◌, ℕ, ◌&&◌, ◌||◌, Bool, List, [], ◌∷◌, Option, None, Some}
use Rattle.std.proofs.Common.{slice_get, refl, ap, ap₂}
use Rattle.std.specs.List.{list_any}
use Rattle.std.specs.Option.{option_map_or}
use Rattle.td_relation.specs.Table.{place_of}
use Rattle.td_indices.specs.Archive.{Contents, is_of_on, number_named}
use Rattle.td_indices.specs.Kept.{KeptBinary}
use Rattle.td_indices.specs.Sources.{KeptSource}
use Rattle.td_indices.specs.Stanzas.{package_fields, source_fields}
use Rattle.td_query.specs.Query.{Shape}
use Rattle.td_query.specs.Statuses.{row_satisfies, row_status, status_at}
use Rattle.td_query.specs.TrackerLaws.{IsSameTracker, KeepsBytes, RowsHaveOneStatus}
use Rattle.td_query.specs.Tracking.{IsTracker, Tracking}
use Rattle.td_query.specs.Truth.{truth}
use Rattle.td_query.proofs.SameTrackers.{trackers_are_one, trackers_hold_alike}

any_same : {A : Type 0} (f g : A → Bool) (xs : List A) → ((x : A) → f x ≡ g x)
    → list_any f xs ≡ list_any g xs
any_same f g [] same = refl
any_same f g (x ∷ xs) same = ap₂ (λ a b. a || b) (same x) (any_same f g xs same)

mapped_same : {A B : Type 0} (f g : A → B) (o : Option A) (d : B) → ((x : A) → f x ≡ g x)
    → option_map_or f o d ≡ option_map_or g o d
mapped_same f g None d same = refl
mapped_same f g (Some x) d same = same x

module _ (text : List ℕ) (t u : Tracking) (is : IsTracker text t) (also : IsTracker text u)
    (a : Contents) (bytes : KeepsBytes a) where
  satisfied : (query : Shape) (s : KeptSource) (place : ℕ)
      → row_satisfies a u.patterns query s place ≡ row_satisfies a t.patterns query s place
  satisfied query s place = ap₂ (λ own packages. own || packages)
      (trackers_hold_alike text t u is also (source_fields a s) (bytes.0 s) query)
      (any_same (λ (b : KeptBinary). is_of_on s.head.name place b
      && truth u.patterns (package_fields a b) query)
      (λ (b : KeptBinary). is_of_on s.head.name place b
      && truth t.patterns (package_fields a b) query) a.binaries
      (λ b. ap (λ (h : Bool). is_of_on s.head.name place b && h)
      (trackers_hold_alike text t u is also (package_fields a b) (bytes.1 b) query)))

  row_same : (s : KeptSource) (place : ℕ) → row_status a u s place ≡ row_status a t s place
  row_same s place =
      let same : IsSameTracker t u = trackers_are_one text t u is also in
      rw (
        same.affected,
        same.good,
        same.bad,
        satisfied t.affected s place,
        satisfied t.good s place,
        satisfied t.bad s place,
      ) refl

  at_same : (source place : ℕ) → status_at a u source place ≡ status_at a t source place
  at_same source place = mapped_same (λ s. row_status a u s place) (λ s. row_status a t s place)
      (slice_get a.sources source) None (λ s. row_same s place)

pub rows_have_one_status : RowsHaveOneStatus
rows_have_one_status text t u is also a bytes key =
    mapped_same (λ source. option_map_or (status_at a u source) (place_of a.table key.arch) None)
    (λ source. option_map_or (status_at a t source) (place_of a.table key.arch) None)
    (number_named a key.source) None
    (λ source. mapped_same (status_at a u source) (status_at a t source)
    (place_of a.table key.arch) None (at_same text t u is also a bytes source))
