-- A plan's placing, by the numbers of the affected sources.
use Rattle.std.proofs.Common.{◌≡◌, ℕ, zero, suc, ◌+◌, ◌<◌, ◌==◌, not, Bool, true, false, cond}
use Rattle.std.proofs.Common.{List, [], ◌∷◌, length, Option, Some, refl, sym, ap}
use Rattle.std.proofs.Common.{◌∙◌, inl, inr, arith}
use Rattle.std.specs.Prelude.{slice_get, slice_index}
use Rattle.std.specs.List.{position_or_len}
use Rattle.std.specs.Option.{option_map_or}
use Rattle.std.specs.Str.{bytes_eq}
use Rattle.std.proofs.lemmas.Bool.{false_from_ne_true}
use Rattle.std.proofs.lemmas.Bool.Decides.{eqb_tells}
use Rattle.std.proofs.lemmas.List.Elements.{All-get_or}
use Rattle.std.proofs.lemmas.Option.{slice_get-get_or, slice_get_within}
use Rattle.std.proofs.lemmas.Slice.Eq.{bytes_eq-Decides}
use Rattle.td_text.proofs.Chain.{some_is}
use Rattle.td_indices.specs.Archive.{Contents}
use Rattle.td_query.specs.Tracking.{Tracking}
use Rattle.td_plan.specs.declared.movers.Mover.{Mover}
use Rattle.td_plan.specs.declared.plan.Plan.{Plan}
use Rattle.td_plan.specs.Plan.{is_beside}
use Rattle.td_plan.specs.Premises.{Premises}
use Rattle.td_plan.specs.inner.Movers.{AreAllOf, AreMovers, IsMover, mover_name}
use Rattle.td_plan.specs.inner.Planned.{IsPlanOf, name_at, number_among, placing_in}
use Rattle.td_plan.specs.inner.Waiters.{is_of_part, kept_of}
use Rattle.td_plan.proofs.Asked.{names-differ}
use Rattle.td_plan.proofs.Waiters.{at-below}

-- ---- 1. the number of a name

-- the number of the first item that passes, if none before it does
pub first-number : {A : Type 0} (test : A → Bool) (xs : List A) (k : ℕ) (x : A)
    → slice_get xs k ≡ Some x → test x ≡ true
    → ((j : ℕ) (y : A) → j < k → slice_get xs j ≡ Some y → test y ≡ false)
    → position_or_len test xs ≡ k
first-number test [] k x at is none = absurd (cc)
first-number test (y ∷ ys) zero x at is none =
    let same : y ≡ x = cc in
    ap (λ (b : Bool). cond (not b) (1 + position_or_len test ys) 0) (ap test same ∙ is)
first-number test (y ∷ ys) (suc k) x at is none =
    let rest : position_or_len test ys ≡ k =
    first-number test ys k x at is (λ j z low there. none (suc j) z (omega arith) there) in
    ap (λ (b : Bool). cond (not b) (1 + position_or_len test ys) 0)
    (none 0 y (omega arith) refl) ∙ omega arith

module _ (a : Contents) (x : Tracking) (Is : Mover → Type 0) (ms : List Mover)
    (are : AreAllOf Is a x ms) where
  -- two names are one if and only if their numbers are
  pub one-name : (j k : ℕ) (m n : Mover) → slice_get ms j ≡ Some m → slice_get ms k ≡ Some n
      → bytes_eq (mover_name m) (mover_name n) ≡ (j == k)
  one-name j k m n left right = elim (eqb_tells j k) [
    | inl is ↦
        let one : m ≡ n = some_is m n (sym left ∙ ap (slice_get ms) is.1 ∙ right) in
        (bytes_eq-Decides (mover_name m) (mover_name n)).1 (ap mover_name one) ∙ sym is.0
    | inr other ↦
        false_from_ne_true (bytes_eq (mover_name m) (mover_name n)) (λ same.
        names-differ a x Is ms are j k m n left right other.1
        ((bytes_eq-Decides (mover_name m) (mover_name n)).0 same))
        ∙ sym other.0
  ]

  pub number-of-name : (k : ℕ) (m : Mover) → slice_get ms k ≡ Some m
      → number_among ms (mover_name m) ≡ k
  number-of-name k m at =
      first-number (λ (n : Mover). bytes_eq (mover_name m) (mover_name n)) ms k m at
      ((bytes_eq-Decides (mover_name m) (mover_name m)).1 refl)
      (λ j n low there. one-name k j m n at there
      ∙ other-number k j (λ same. omega arith))
    where
      other-number : (a b : ℕ) → ¬ (a ≡ b) → (a == b) ≡ false
      other-number a b apart = elim (eqb_tells a b) [
        | inl is ↦ absurd (apart is.1)
        | inr other ↦ other.0
      ]

module _ (p : Premises) (ms : List Mover) (are : AreMovers p ms) where
  pub same-name : (j k : ℕ) (m n : Mover) → slice_get ms j ≡ Some m → slice_get ms k ≡ Some n
      → bytes_eq (mover_name m) (mover_name n) ≡ (j == k)
  same-name = one-name p.archive p.tracker (λ m. IsMover p m (kept_of m)) ms are

  pub number-is : (k : ℕ) (m : Mover) → slice_get ms k ≡ Some m
      → number_among ms (mover_name m) ≡ k
  number-is = number-of-name p.archive p.tracker (λ m. IsMover p m (kept_of m)) ms are

-- ---- 2. the placing of a plan

module _ (p : Premises) (plan : Plan) (is : IsPlanOf p plan) where
  pub step-at : (k : ℕ) (m : Mover) → slice_get plan.movers.items k ≡ Some m
      → (placing_in plan).step (mover_name m) ≡ slice_index plan.parts.steps.items k
  step-at k m at =
      ap (slice_index plan.parts.steps.items) (number-is p plan.movers.items is.movers k m at)

  pub first-at : (k : ℕ) (m : Mover) → slice_get plan.movers.items k ≡ Some m
      → (placing_in plan).first (mover_name m)
      ≡ name_at plan.movers.items (slice_index plan.parts.firsts.items k)
  first-at k m at =
      ap (λ (n : ℕ). name_at plan.movers.items (slice_index plan.parts.firsts.items n))
      (number-is p plan.movers.items is.movers k m at)

  -- the first of a part is an affected source
  pub first-there : (k : ℕ) → k < length plan.movers.items
      → (f : Mover) × (slice_get plan.movers.items (slice_index plan.parts.firsts.items k) ≡ Some f)
  first-there k low =
      let within : slice_index plan.parts.firsts.items k < length plan.movers.items =
      All-get_or (λ n. n < length plan.movers.items) plan.parts.firsts.items k 0
      (omega (arith, is.parts.firsts, low)) is.firsts in
      at-below plan.movers.items (slice_index plan.parts.firsts.items k) within

  pub first-is : (k : ℕ) (m f : Mover) → slice_get plan.movers.items k ≡ Some m
      → slice_get plan.movers.items (slice_index plan.parts.firsts.items k) ≡ Some f
      → (placing_in plan).first (mover_name m) ≡ mover_name f
  first-is k m f at there =
      first-at k m at ∙ ap (λ (o : Option Mover). option_map_or mover_name o [])
      there

  -- two sources are of one part if and only if the first sources of their parts are one
  pub beside-is : (j k : ℕ) (m n : Mover) → slice_get plan.movers.items j ≡ Some m
      → slice_get plan.movers.items k ≡ Some n → is_beside (placing_in plan) (kept_of m) (kept_of n)
      ≡ (slice_index plan.parts.firsts.items k == slice_index plan.parts.firsts.items j)
  beside-is j k m n left right =
      let low = slice_get_within plan.movers.items j m left in
      let high = slice_get_within plan.movers.items k n right in
      let f = first-there j low in
      let g = first-there k high in
      ap (λ (a : List ℕ). bytes_eq a ((placing_in plan).first (mover_name m)))
      (first-is k n g.0 right g.1)
      ∙ ap (λ (a : List ℕ). bytes_eq (mover_name g.0) a) (first-is j m f.0 left f.1)
      ∙ same-name p plan.movers.items is.movers (slice_index plan.parts.firsts.items k)
      (slice_index plan.parts.firsts.items j) g.0 f.0 g.1 f.1

  pub part-is : (own k : ℕ) (m n : Mover) → slice_get plan.movers.items own ≡ Some m
      → slice_get plan.movers.items k ≡ Some n
      → is_of_part plan.parts.firsts.items own k
      ≡ is_beside (placing_in plan) (kept_of m) (kept_of n)
  part-is own k m n left right =
      let low : own < length plan.parts.firsts.items =
      omega (arith, is.parts.firsts, slice_get_within plan.movers.items own m left) in
      let high : k < length plan.parts.firsts.items =
      omega (arith, is.parts.firsts, slice_get_within plan.movers.items k n right) in
      let mine = slice_get-get_or plan.parts.firsts.items own 0 low in
      let its = slice_get-get_or plan.parts.firsts.items k 0 high in
      ap (λ (o : Option ℕ). option_map_or (λ a. option_map_or (λ b. b == a)
      (slice_get plan.parts.firsts.items k) false) o false) mine
      ∙ ap (λ (o : Option ℕ). option_map_or (λ b. b
      == slice_index plan.parts.firsts.items own) o false) its
      ∙ sym (beside-is own k m n left right)
