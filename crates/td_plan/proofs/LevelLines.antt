-- The lines of levels by the numbers of the affected sources are those of the sources.
use Rattle.std.proofs.Common.{◌≡◌, ℕ, zero, suc, ◌+◌, ◌<◌, Bool, true, false, cond, List, []}
use Rattle.std.proofs.Common.{◌∷◌, ◌++◌, append-nil, length, map, Option, Some, refl}
use Rattle.std.proofs.Common.{sym, ap, ◌∙◌, inl, inr, arith}
use Rattle.std.specs.Prelude.{filter, option_map, slice_get}
use Rattle.std.specs.List.{cons_option, flat_map, range_with_len}
use Rattle.std.proofs.lemmas.Bool.Decides.{eqb_tells}
use Rattle.std.proofs.lemmas.List.Concat.{flat_map-append, flat_map_single}
use Rattle.std.proofs.lemmas.List.Folds.{flat_map-map}
use Rattle.td_indices.specs.Archive.{places_from}
use Rattle.td_indices.specs.Sources.{KeptSource}
use Rattle.td_waves.specs.declared.level.Level.{Level}
use Rattle.td_waves.specs.declared.level.Level.TheVariants.{At, Cyclic}
use Rattle.td_report.specs.Report.{is_level, level_words, levels}
use Rattle.td_plan.specs.declared.movers.Mover.{Mover}
use Rattle.td_plan.specs.declared.steps.Steps.{Steps}
use Rattle.td_plan.specs.Steps.{level_lines, under_head}
use Rattle.td_plan.specs.Why.{why_line}
use Rattle.td_plan.specs.inner.Movers.{mover_name}
use Rattle.td_plan.specs.inner.Planned.{sources_at}
use Rattle.td_plan.specs.inner.Stepping.{at_level, kept_in, lines_under}
use Rattle.td_plan.specs.inner.Waiters.{kept_of}

-- the sources whose numbers are those of what passes a test
module _ (all : List Mover) (keep : KeptSource → Bool) (chosen : Mover → Bool)
    (same : (m : Mover) → keep (kept_of m) ≡ chosen m) where
  pub places-are : (ns : List Mover) (n : ℕ)
      → ((k : ℕ) (m : Mover) → slice_get ns k ≡ Some m → slice_get all (n + k) ≡ Some m)
      → sources_at all (places_from chosen n ns) ≡ filter keep (map kept_of ns)
  places-are [] n there = refl
  places-are (m ∷ ns) n there =
      let here : slice_get all n ≡ Some m = ap (slice_get all) (omega arith) ∙ there 0 m refl in
      by (chosen m) (same m) here
      (places-are ns (n + 1) (λ k t at. ap (slice_get all) (omega arith) ∙ there (suc k) t at))
    where
      by : (b : Bool) → keep (kept_of m) ≡ b → slice_get all n ≡ Some m
          → sources_at all (places_from chosen (n + 1) ns) ≡ filter keep (map kept_of ns)
          → sources_at all (cond b (n ∷ places_from chosen (n + 1) ns)
          (places_from chosen (n + 1) ns)) ≡ filter keep (kept_of m ∷ map kept_of ns)
      by true is here rest =
          ap (λ (o : Option Mover). cons_option (option_map kept_of o)
          (sources_at all (places_from chosen (n + 1) ns))) here
          ∙ ap (λ (l : List KeptSource). kept_of m ∷ l) rest
          ∙ sym (ap (λ (b : Bool). cond b (kept_of m ∷ filter keep (map kept_of ns))
          (filter keep (map kept_of ns))) is)
      by false is here rest =
          rest ∙ sym (ap (λ (b : Bool). cond b (kept_of m ∷ filter keep (map kept_of ns))
          (filter keep (map kept_of ns))) is)

-- the lines of a level
pub level-are : (level : List ℕ → Option Level) (steps : Steps) (k : Level)
    → level_lines steps.archive.now level (kept_in steps) k
    ≡ lines_under steps (level_words k) (at_level level steps k)
level-are level steps k =
    sym (ap (under_head (level_words k)
    (λ s. why_line steps.archive.now (kept_in steps) s ∷ []))
    (places-are steps.movers.items (λ (s : KeptSource). is_level k (level s.head.name))
    (λ (m : Mover). is_level k (level (mover_name m))) (λ m. refl) steps.movers.items 0
    (λ j m at. ap (slice_get steps.movers.items) (omega arith) ∙ at)))

-- what is made of the numbers from one on
shifted : (made : ℕ → List (List ℕ)) (a n : ℕ)
    → flat_map made (range_with_len (a + 1) n)
    ≡ flat_map (λ k. made (k + 1)) (range_with_len a n)
shifted made a zero = refl
shifted made a (suc n) =
    ap (λ (l : List (List ℕ)). made (a + 1) ++ l) (shifted made (a + 1) n)

-- the lines of all levels
pub levels-are : (made : Level → List (List ℕ)) (depth : ℕ)
    → flat_map made (levels depth)
    ≡ flat_map (λ n. made (At (n + 1))) (range_with_len 0 depth) ++ made Cyclic
levels-are made depth =
    flat_map-append made (map At (range_with_len 1 depth)) (Cyclic ∷ [])
    ∙ ap (λ (l : List (List ℕ)). l ++ (made Cyclic ++ []))
    (flat_map-map made At (range_with_len 1 depth) ∙ shifted (λ k. made (At k)) 0 depth)
    ∙ ap (λ (l : List (List ℕ)). flat_map (λ n. made (At (n + 1))) (range_with_len 0 depth) ++ l)
    (append-nil (made Cyclic))

-- some sources under a head
pub under-some : (steps : Steps) (head : List ℕ) (numbers : List ℕ)
    → 0 < length (sources_at steps.movers.items numbers)
    → lines_under steps head numbers ≡ head ∷ map (why_line steps.archive.now (kept_in steps))
    (sources_at steps.movers.items numbers)
under-some steps head numbers some =
    let mine = sources_at steps.movers.items numbers in
    let why = why_line steps.archive.now (kept_in steps) in
    elim (eqb_tells (length mine) 0) [
      | inl p ↦ absurd (let none = p.1 in omega arith)
      | inr p ↦
          ap (λ (b : Bool). cond b [] (head ∷ flat_map (λ s. why s ∷ []) mine)) p.0
          ∙ ap (λ (l : List (List ℕ)). head ∷ l) (flat_map_single why mine)
    ]
