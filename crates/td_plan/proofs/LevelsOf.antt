-- The levels of all affected sources, and the text that lists them with what they build on.
use Rattle.std.proofs.Common.{◌≡◌, ℕ, ◌+◌, ◌∙◌, ◌++◌, ◌∷◌, [], List, IsTrue, Option, ap, map, refl}
use Rattle.std.proofs.Common.{subst, sym}
use Rattle.std.specs.Prelude.{filter}
use Rattle.std.specs.Borrow.{Bor}
use Rattle.std.specs.List.{flat_map, list_any, range_with_len}
use Rattle.std.specs.Str.{bytes_eq}
use Rattle.td_text.proofs.Chain.{list_any-map}
use Rattle.std.proofs.lemmas.List.Sorted.{IsPermutation-map}
use Rattle.std.proofs.lemmas.List.Sorted.{list_any-IsPermutation}
use Rattle.td_text.specs.Lines.{text_of}
use Rattle.td_indices.specs.Archive.{Contents}
use Rattle.td_indices.specs.Sources.{KeptSource}
use Rattle.td_query.specs.Statuses.{affected_names, is_affected}
use Rattle.td_query.specs.Tracking.{Tracking}
use Rattle.td_waves.specs.declared.level.Level.{Level}
use Rattle.td_waves.specs.declared.level.Level.TheVariants.{At, Cyclic}
use Rattle.td_waves.specs.Levels.{IsDepth, StandsAt}
use Rattle.td_waves.specs.Waves as waves
use Rattle.td_waves.specs.Named.{is_among}
use Rattle.td_waves.specs.Waves.{BuildsOn}
use Rattle.td_report.specs.Report.{level_words, levels}
use Rattle.td_report.specs.Transition.{AreLevels, IsAffected}
use Rattle.td_plan.specs.declared.movers.Mover.{Mover}
use Rattle.td_plan.specs.declared.steps.Steps.{Steps}
use Rattle.td_plan.specs.Premises.{name_of}
use Rattle.td_plan.specs.Steps.{IsWavesWhy, affected_sources, level_lines}
use Rattle.td_plan.specs.Waits.{is_source_before}
use Rattle.td_plan.specs.inner.Movers.{mover_name}
use Rattle.td_plan.specs.inner.Stepping.{IsStepsOf, at_level, kept_in, lines_under}
use Rattle.td_plan.specs.inner.Waiters.{kept_of}
use Rattle.td_plan.proofs.AffectedSources.{affected-are}
use Rattle.td_plan.proofs.Chosen.{in_order-permutes}
use Rattle.td_plan.proofs.LevelLines.{level-are, levels-are}
use Rattle.td_plan.proofs.SourceTexts.{text_of-append}

names-kept : (ms : List Mover) → map mover_name ms ≡ map name_of (map kept_of ms)
names-kept [] = refl
names-kept (m ∷ ms) = ap (λ (l : List (List ℕ)). mover_name m ∷ l) (names-kept ms)

module _ (t : Tracking) (steps : Steps) (is : IsStepsOf t steps) where
  abbrev a : Contents
  a = steps.archive.now

  sources-are : affected_sources a t ≡ map kept_of steps.movers.items
  sources-are = affected-are a t is.apart steps.movers.items is.sources

  -- a name is among those of the sources if and only if it is that of an affected one
  among-are : (names : List (Bor (List ℕ)))
      → map (λ name. name.now) names ≡ map mover_name steps.movers.items → (source : List ℕ)
      → is_among names source ≡ list_any (bytes_eq source) (affected_names a t)
  among-are names same source =
      let xs = filter (is_affected a t) a.sources in
      sym (list_any-map (bytes_eq source) (λ name. name.now) names)
      ∙ ap (λ (l : List (List ℕ)). list_any (bytes_eq source) l)
      (same ∙ names-kept steps.movers.items
      ∙ ap (λ (l : List KeptSource). map name_of l) (sym sources-are))
      ∙ sym (list_any-IsPermutation (bytes_eq source) (map name_of xs)
      (map name_of (affected_sources a t))
      (IsPermutation-map name_of xs (affected_sources a t)
      (in_order-permutes is_source_before xs)))

  -- the levels that were found are those of all affected sources
  pub levels-of : (names : List (Bor (List ℕ)))
      → map (λ name. name.now) names ≡ map mover_name steps.movers.items
      → (level : List ℕ → Option Level) (depth : ℕ)
      → ((source : List ℕ) → StandsAt (waves.IsAffected names) (BuildsOn a) source (level source))
      → IsDepth level depth → AreLevels a t level depth
  levels-of names same level depth stands deep =
      let kind : waves.IsAffected names ≡ IsAffected a t =
      λ i source. IsTrue (among-are names same source i) in
      record {
        stands = subst (λ (P : List ℕ → Type 0). (source : List ℕ)
            → StandsAt P (BuildsOn a) source (level source)) kind stands;
        deep = deep;
      }

  -- the text of all levels
  pub by-levels-is : (level : List ℕ → Option Level) (depth : ℕ) → AreLevels a t level depth
      → (text : List ℕ)
      → text ≡ text_of (flat_map (λ n. lines_under steps (level_words (At (n + 1)))
      (at_level level steps (At (n + 1)))) (range_with_len 0 depth))
      ++ text_of (lines_under steps (level_words Cyclic) (at_level level steps Cyclic))
      → IsWavesWhy a t text
  by-levels-is level depth are text told =
      let made = λ (k : Level). lines_under steps (level_words k) (at_level level steps k) in
      let each : level_lines a level (kept_in steps) ≡ made = λ i k. level-are level steps k i in
      record {
        level = level;
        depth = depth;
        leveled = are;
        written = told
            ∙ sym (text_of-append (flat_map (λ n. made (At (n + 1))) (range_with_len 0 depth))
            (made Cyclic))
            ∙ ap text_of (sym (levels-are made depth))
            ∙ ap (λ (f : Level → List (List ℕ)). text_of (flat_map f (levels depth))) (sym each)
            ∙ ap (λ (l : List KeptSource). text_of (flat_map (level_lines a level l)
            (levels depth))) (sym sources-are);
      }
