-- The opening rows of the affected sources have all that are affected.
use Rattle.std.proofs.Common.{◌≡◌, Bool, true, false, List, [], ◌∷◌, Option, None, filter}
use Rattle.std.proofs.Common.{map, option_map, refl, sym, ap, ◌∙◌, inl, inr}
use Rattle.std.specs.List.{cons_option, filter_map}
use Rattle.std.specs.Str.{bytes_eq}
use Rattle.std.proofs.lemmas.Bool.{cases_Bool}
use Rattle.td_text.proofs.Chain.{list_any-map}
use Rattle.td_rows.specs.declared.key.Key.{Key}
use Rattle.td_rows.specs.declared.row.Row.{Row}
use Rattle.td_rows.specs.Table.{Table}
use Rattle.td_indices.specs.Choosing.{AreOpenedOf, flagged, is_of_one}
use Rattle.td_query.specs.Statuses.{is_affected, status_of}
use Rattle.td_query.proofs.AffectedSources.{flagged-map}
use Rattle.td_report.specs.OpeningRows.{StandForAll}
use Rattle.td_report.specs.Transition.{affected_row}
use Rattle.td_report.specs.TransitionView.{contents_of, tracking_of}
use Rattle.td_report.specs.declared.transition.Transition.{Transition}
use Rattle.td_report.proofs.Unaffected.{affected-by_status, no_status}

-- a list without some items from which nothing is made
filter_map-filter : {A B : Type 0} (f : A → Option B) (keep : A → Bool) (xs : List A)
    → ((x : A) → keep x ≡ false → f x ≡ None) → filter_map f (filter keep xs) ≡ filter_map f xs
filter_map-filter f keep [] none = refl
filter_map-filter f keep (x ∷ xs) none =
    elim (cases_Bool (keep x)) [
      | inl is ↦ rw is (ap (λ l. cons_option (f x) l) (filter_map-filter f keep xs none))
      | inr other ↦ rw (other, none x other) (filter_map-filter f keep xs none)
    ]

pub opened_stand : (x : Transition) (rows : Table) (flags : List Bool)
    → flags ≡ map (is_affected (contents_of x) (tracking_of x)) (contents_of x).sources
    → AreOpenedOf (contents_of x) (flagged flags (contents_of x).sources) rows
    → StandForAll x rows
opened_stand x rows flags are own =
    let a = contents_of x in
    let t = tracking_of x in
    let affected = filter (is_affected a t) a.sources in
    let keep : Key × Row → Bool = λ p. is_of_one affected p.0 in
    let out : (p : Key × Row) → keep p ≡ false → status_of a t p.0 ≡ None =
    λ p other. no_status (status_of a t p.0)
    (λ status is. (let bad : true ≡ false =
    sym (affected-by_status a t p.0 status is)
    ∙ list_any-map (bytes_eq p.0.source) (λ s. s.head.name) affected ∙ other in cc)) in
    record {
      all = own.all;
      opened = own.opened;
      rising = own.rising;
      same = λ level. ap (filter_map (affected_row a t level))
          (own.own ∙ ap (λ l. filter (λ (p : Key × Row). is_of_one l p.0) own.all)
          (ap (λ l. flagged l a.sources) are ∙ flagged-map (is_affected a t) a.sources))
          ∙ filter_map-filter (affected_row a t level) keep own.all
          (λ p other. ap (option_map (λ status.
          record { key = p.0; row = p.1; status = status; level = level p.0.source }))
          (out p other));
    }
