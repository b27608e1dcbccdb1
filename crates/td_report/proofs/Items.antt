-- The affected rows among the first ones, and the levels of their sources.
use Rattle.std.proofs.Common.{◌≡◌, ◌<◌, ◌+◌, ◌++◌, ◌∷◌, [], ℕ, List, Option, None, Some, map, take}
use Rattle.std.proofs.Common.{length, slice_get, inl, inr, refl, sym, ap, subst, ◌∙◌}
use Rattle.std.proofs.Common.{arith}
use Rattle.std.specs.Prelude.{IsTrue}
use Rattle.std.specs.Borrow.{Bor}
use Rattle.std.specs.List.{cons_option, filter_map, list_any}
use Rattle.std.specs.Option.{option_map_or, option_to_list}
use Rattle.std.specs.Str.{bytes_eq}
use Rattle.std.proofs.lemmas.List.{append-nil, map-append}
use Rattle.std.proofs.lemmas.List.Elements.{filter_map-append}
use Rattle.std.proofs.lemmas.Option.{slice_get_cases}
use Rattle.td_text.proofs.Chain.{list_any-map}
use Rattle.td_rows.proofs.Lists.{take-next}
use Rattle.td_rows.specs.declared.key.Key.{Key}
use Rattle.td_rows.specs.declared.row.Row.{Row}
use Rattle.td_rows.specs.Table.{Table}
use Rattle.td_indices.specs.Archive.{Contents}
use Rattle.td_query.specs.Statuses.{affected_names}
use Rattle.td_query.specs.Tracking.{Tracking}
use Rattle.td_waves.specs.declared.level.Level.{Level}
use Rattle.td_waves.specs.Levels.{IsDepth, StandsAt}
use Rattle.td_waves.specs.Waves.{BuildsOn}
use Rattle.td_waves.specs.Waves as of_waves
use Rattle.td_report.specs.declared.item.Item.{Item}
use Rattle.td_report.specs.declared.shown.Shown.{Shown}
use Rattle.td_text.specs.Lines.{text_of}
use Rattle.td_report.specs.inner.ItemLines.{seen}
use Rattle.td_report.specs.Report.{AffectedRow, lines_showing, waves_lines}
use Rattle.td_report.specs.Transition.{AreLevels, IsAffected, IsReportOf, IsWaves, affected_rows}

-- ---- one row more

single : {B : Type 0} (o : Option B) → cons_option o [] ≡ option_to_list o
single None = refl
single (Some r) = refl

pub rows-more : {B : Type 0} (f : Key × Row → Option B) (rows : Table) (n : ℕ) (o : Option B)
    → n < length rows → o ≡ option_map_or f (slice_get rows n) None
    → filter_map f (take (n + 1) rows) ≡ filter_map f (take n rows) ++ option_to_list o
rows-more {B} f rows n o lt e = elim (slice_get_cases rows n).1 [
  | inl h ↦
      ap (λ (l : Table). filter_map f l) (take-next rows n h.0 h.2)
      ∙ filter_map-append f (take n rows) (h.0 ∷ [])
      ∙ ap (λ (l : List B). filter_map f (take n rows) ++ l)
      (single (f h.0) ∙ ap option_to_list
      (sym (e ∙ ap (λ (p : Option (Key × Row)). option_map_or f p None) h.2)))
  | inr h ↦ absurd (omega (arith, h.0, lt))
]

-- one row more, which is affected
pub items-more : (f : Key × Row → Option AffectedRow) (rows : Table) (n : ℕ) (items : List Item)
    (item : Item) → n < length rows → Some (seen item) ≡ option_map_or f (slice_get rows n) None
    → map seen items ≡ filter_map f (take n rows)
    → map seen (items ++ item ∷ []) ≡ filter_map f (take (n + 1) rows)
items-more f rows n items item lt is so =
    map-append seen items (item ∷ [])
    ∙ ap (λ (l : List AffectedRow). l ++ seen item ∷ []) so
    ∙ sym (rows-more f rows n (Some (seen item)) lt is)

-- one row more, which isn't affected
pub items-same : (f : Key × Row → Option AffectedRow) (rows : Table) (n : ℕ)
    (told : List AffectedRow) → n < length rows → None ≡ option_map_or f (slice_get rows n) None
    → told ≡ filter_map f (take n rows) → told ≡ filter_map f (take (n + 1) rows)
items-same f rows n told lt is so = so
    ∙ sym (rows-more f rows n None lt is ∙ append-nil (filter_map f (take n rows)))

-- ---- the affected sources

same_names : (a : Contents) (t : Tracking) (names : List (Bor (List ℕ)))
    → map (λ name. name.now) names ≡ affected_names a t → of_waves.IsAffected names ≡ IsAffected a t
same_names a t names is =
    λ i source. IsTrue
    ((sym (list_any-map (bytes_eq source) (λ name. name.now) names)
    ∙ ap (λ (l : List (List ℕ)). list_any (bytes_eq source) l) is) i)

pub are_levels : (a : Contents) (t : Tracking) (names : List (Bor (List ℕ)))
    (level : List ℕ → Option Level) (depth : ℕ) → map (λ name. name.now) names ≡ affected_names a t
    → ((source : List ℕ) → StandsAt (of_waves.IsAffected names) (BuildsOn a) source (level source))
    → IsDepth level depth → AreLevels a t level depth
are_levels a t names level depth is stands deep = record {
  stands = subst (λ (P : List ℕ → Type 0). (source : List ℕ)
      → StandsAt P (BuildsOn a) source (level source)) (same_names a t names is) stands;
  deep = deep;
}

-- ---- the texts

pub is_report : (shown : Shown) (a : Contents) (t : Tracking) (level : List ℕ → Option Level)
    (depth : ℕ) (rows : Table) (items now : List Item) (title : List ℕ) (d : ℕ) (text : List ℕ)
    → AreLevels a t level depth
    → text ≡ text_of (lines_showing shown title d (map seen now)) → title ≡ t.title → d ≡ depth
    → now ≡ items → map seen items ≡ affected_rows a t level rows → IsReportOf shown a t rows text
is_report shown a t level depth rows items now title d text levels written titled deep same are =
    record {
      level = level;
      depth = depth;
      levels = levels;
      written =
          written
          ∙ ap (λ x. text_of (lines_showing shown x d (map seen now))) titled
          ∙ ap (λ x. text_of (lines_showing shown t.title x (map seen now))) deep
          ∙ ap (λ x. text_of (lines_showing shown t.title depth x)) (ap (map seen) same ∙ are);
    }

pub are_waves : (a : Contents) (t : Tracking) (level : List ℕ → Option Level) (depth : ℕ)
    (rows : Table) (items now : List Item) (d : ℕ) (text : List ℕ) → AreLevels a t level depth
    → text ≡ text_of (waves_lines d (map seen now)) → d ≡ depth → now ≡ items
    → map seen items ≡ affected_rows a t level rows → IsWaves a t rows text
are_waves a t level depth rows items now d text levels written deep same are = record {
  level = level;
  depth = depth;
  levels = levels;
  written =
      written
      ∙ ap (λ x. text_of (waves_lines x (map seen now))) deep
      ∙ ap (λ x. text_of (waves_lines depth x)) (ap (map seen) same ∙ are);
}
