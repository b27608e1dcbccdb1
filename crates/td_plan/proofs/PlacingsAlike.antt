-- There is one placing of the sources that move, and what it says of parts and steps.
use Rattle.std.proofs.Common.{◌≡◌, ◌⊎◌, ◌<◌, ◌∙◌, ℕ, false, List, IsTrue}
use Rattle.std.proofs.Common.{inl, inr, refl, sym}
use Rattle.std.specs.Cmp.Lexicographic.{slice_cmp}
use Rattle.std.specs.Ordering.{is_lt, nat_cmp, ordering_reverse}
use Rattle.std.specs.FinMap.{slice_cmp-IsAntisymmetric, nat_cmp-IsAntisymmetric}
use Rattle.std.specs.declared.cmp.Ordering.{Ordering}
use Rattle.std.specs.declared.cmp.Ordering.TheVariants.{Less, Equal, Greater}
use Rattle.std.specs.Str.{bytes_eq}
use Rattle.std.proofs.lemmas.Bool.{cases_Bool, false≢true, true≢false}
use Rattle.std.proofs.lemmas.Cmp.{nat_list_cmp_total}
use Rattle.std.proofs.lemmas.Slice.Eq.{bytes_eq-Decides}
use Rattle.td_indices.specs.Archive.{Contents}
use Rattle.td_waves.specs.Waves.{BuildsOn}
use Rattle.td_plan.specs.InOrder.{is_before}
use Rattle.td_plan.specs.Parts.{IsOnePart, StandsOn}
use Rattle.td_plan.specs.PartLaws.{PartsAreMutual, PlacingsAreOne, WaysLeadDown}
use Rattle.td_plan.specs.Placing.{IsPlacing, IsPlacingOf, Moves, Placing, are_of_one_part}
use Rattle.td_plan.specs.Premises.{Premises}
use Rattle.td_plan.proofs.PartsAlike.{edge-leads-down, steps-agree, way-leads-down}

-- texts are one or not
pub cases_text : (a b : List ℕ) → (a ≡ b) ⊎ ¬ (a ≡ b)
cases_text a b = elim (cases_Bool (bytes_eq a b)) [
  | inl same ↦ inl ((bytes_eq-Decides a b).0 same)
  | inr other ↦ inr (λ same. false≢true (sym other ∙ (bytes_eq-Decides a b).1 same))
]

module _ (p : Premises) (x : Placing) (so : IsPlacing p x) where
  pub parts-mutual : (a b : List ℕ) → Moves p a → Moves p b
      → (IsTrue (are_of_one_part x a b) → IsOnePart (Moves p) (BuildsOn p.archive) a b)
      × (IsOnePart (Moves p) (BuildsOn p.archive) a b → IsTrue (are_of_one_part x a b))
  parts-mutual a b left right = (
    (λ same. (so.placed.parts a b left right).0
        ((bytes_eq-Decides (x.first a) (x.first b)).0 same)),
    (λ one. (bytes_eq-Decides (x.first a) (x.first b)).1
        ((so.placed.parts a b left right).1 one)),
  )

  told : (a b : List ℕ) → (x.first a ≡ x.first b) ⊎ (x.step b < x.step a)
      → IsTrue (are_of_one_part x a b) ⊎ (x.step b < x.step a)
  told a b (inl same) = inl ((bytes_eq-Decides (x.first a) (x.first b)).1 same)
  told a b (inr down) = inr down

  pub ways-down : (a b : List ℕ) → Moves p a → Moves p b
      → StandsOn (Moves p) (BuildsOn p.archive) a b
      → IsTrue (are_of_one_part x a b) ⊎ (x.step b < x.step a)
  ways-down a b left right way = told a b (way-leads-down (Moves p) (BuildsOn p.archive) x.first
      x.step so.placed (λ c d. cases_text (x.first c) (x.first d)) a way.0 b left right way.1)

  pub edges-down : (a b : List ℕ) → Moves p a → Moves p b → BuildsOn p.archive a b
      → IsTrue (are_of_one_part x a b) ⊎ (x.step b < x.step a)
  edges-down a b left right on = told a b (edge-leads-down (Moves p) (BuildsOn p.archive) x.first
      x.step so.placed (λ c d. cases_text (x.first c) (x.first d)) a b left right on)

pub parts-are-mutual : PartsAreMutual
parts-are-mutual = λ p x a b so left right. parts-mutual p x so a b left right

pub ways-lead-down : WaysLeadDown
ways-lead-down = λ p x a b so left right way. ways-down p x so a b left right way

-- ---- one placing

-- two texts are one if neither is before the other
tied : (o q : Ordering) → o ≡ ordering_reverse q → is_lt o ≡ false → is_lt q ≡ false → o ≡ Equal
tied Less q back up down = absurd (true≢false up)
tied Equal q back up down = refl
tied Greater Less back up down = absurd (true≢false down)
tied Greater Equal back up down = cc
tied Greater Greater back up down = cc

pub same-by-order : (a b : List ℕ) → is_before a b ≡ false → is_before b a ≡ false → a ≡ b
same-by-order a b up down = slice_cmp-IsAntisymmetric nat_cmp-IsAntisymmetric a b
    (tied (slice_cmp nat_cmp a b) (slice_cmp nat_cmp b a) (nat_list_cmp_total.antisymm a b) up down)

-- two placings of some sources say the same of each
pub placings-agree : (Node : List ℕ → Type 0) (a : Contents) (x y : Placing) (name : List ℕ)
    → IsPlacingOf Node a x → IsPlacingOf Node a y → Node name
    → (x.first name ≡ y.first name) × (x.step name ≡ y.step name)
placings-agree Node a x y name left right node =
    let mine = left.first name node in
    let other = right.first name node in (
      same-by-order (x.first name) (y.first name)
          (other.least (x.first name) mine.node mine.within)
          (mine.least (y.first name) other.node other.within),
      sym (steps-agree Node (BuildsOn a) x.step y.step left.placed.steps right.placed.steps name
          node),
    )

pub placings-are-one : PlacingsAreOne
placings-are-one = λ p x y name left right moves.
    placings-agree (Moves p) p.archive x y name left right moves
