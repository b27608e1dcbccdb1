-- The sources of an archive in the order of their names, and what rises, pair by pair.
use Rattle.std.proofs.Common.{◌≡◌, ℕ, ◌<◌, ◌&&◌, not, Bool, true, List, [], ◌∷◌, Some, get_or}
use Rattle.std.proofs.Common.{sym, ap, ◌∙◌, arith}
use Rattle.std.specs.Prelude.{filter, slice_get}
use Rattle.std.specs.List.{AllPairs}
use Rattle.std.proofs.lemmas.List.Elements.{Contains-get_or}
use Rattle.std.proofs.lemmas.List.Kept.{AllPairs-cons}
use Rattle.std.proofs.lemmas.Option.{same_Some}
use Rattle.td_indices.specs.Archive.{number_named}
use Rattle.td_indices.specs.Sources.{KeptSource}
use Rattle.td_plan.specs.BuildsThere.{builds_there}
use Rattle.td_plan.specs.Due.{is_moving, moves}
use Rattle.td_plan.specs.Premises.{AreSound, Premises}
use Rattle.td_plan.specs.Waits.{awaited, is_source_before, moving_sources}
use Rattle.td_plan.proofs.Rising.{AnyWay, Rising, any-way-filter, any-way-from, before-any}
use Rattle.td_plan.proofs.Rising.{before-trans, order-rises, rising-filter}
use Rattle.td_plan.proofs.Sorted.{rising-any}

-- of two items of a list that rises, the first is before the second
pub rising-pairs : {A : Type 0} (before : A → A → Bool) (R : A → A → Type 0)
    → ((x y : A) → before x y ≡ true → R x y) → (xs : List A) → Rising before xs
    → AllPairs R xs
rising-pairs before R h [] rises = λ i j d up low. absurd (omega arith)
rising-pairs before R h (x ∷ xs) rises = AllPairs-cons R x xs
    (λ k d low. h x (get_or xs k d) (rises.0 (get_or xs k d) (Contains-get_or xs k d low)))
    (rising-pairs before R h xs rises.1)

module _ (p : Premises) (sound : AreSound p) where
  -- sources at different places have different names
  pub names-apart : (j k : ℕ) (s t : KeptSource) → j < k
      → slice_get p.archive.sources j ≡ Some s → slice_get p.archive.sources k ≡ Some t
      → ¬ (s.head.name ≡ t.head.name)
  names-apart j k s t low left right same =
      let one : j ≡ k = same_Some j k (sym (sound.numbered j s left)
      ∙ ap (number_named p.archive) same ∙ sound.numbered k t right) in
      omega arith

  sources-apart : AnyWay is_source_before p.archive.sources
  sources-apart = any-way-from is_source_before p.archive.sources (λ j k s t low left right.
      before-any s.head.name t.head.name (names-apart j k s t low left right))

  -- the sources that move rise
  pub moving-sources-rise : Rising is_source_before (moving_sources p)
  moving-sources-rise = order-rises is_source_before
      (λ s t u. before-trans s.head.name t.head.name u.head.name)
      (filter (moves p) p.archive.sources)
      (any-way-filter is_source_before (moves p) p.archive.sources sources-apart)

  -- the sources for which another waits have different names
  pub awaited-apart : (is_of_part : KeptSource → Bool) (s : KeptSource) (place : ℕ)
      → AnyWay is_source_before (awaited is_of_part p s place)
  awaited-apart is_of_part s place =
      rising-any is_source_before (awaited is_of_part p s place)
      (rising-filter is_source_before (λ (t : KeptSource). is_moving p t place
      && (builds_there p.archive place s t && not (is_of_part t))) (moving_sources p)
      moving-sources-rise)
