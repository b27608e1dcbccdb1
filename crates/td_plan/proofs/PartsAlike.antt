-- Parts with their steps: what builds on what leads down, and there is one such placing.
use Rattle.std.proofs.Common.{◌≡◌, ◌⊎◌, ◌+◌, ◌<◌, ◌≤◌, ◌∷◌, [], ◌∙◌, ℕ, zero, suc, List}
use Rattle.std.proofs.Common.{inl, inr, refl, arith}
use Rattle.td_plan.specs.Parts.{ArePlaced, IsOnePart, IsStep, IsWay, PartBuildsOn}
use Rattle.td_plan.proofs.OneParts.{one-part-sym, one-part-through}

module _ {X : Type 0} (Node : X → Type 0) (On : X → X → Type 0) where
  -- ---- 1. nodes of one part have one step

  -- two nodes of one part build on the same parts
  on-alike : (x y z : X) → Node x → Node y → IsOnePart Node On x y
      → PartBuildsOn Node On x z → PartBuildsOn Node On y z
  on-alike x y z left right one part = record {
    by = part.by;
    node = part.node;
    within = one-part-through Node On y x part.by left (one-part-sym Node On x y one) part.within;
    on = part.on;
    apart = λ other. part.apart (one-part-through Node On x y z right one other);
  }

  step-up-to : (step : X → ℕ) (x y : X) → Node x → Node y → IsOnePart Node On x y
      → IsStep Node On step x → IsStep Node On step y → step x ≤ step y
  step-up-to step x y left right one mine other = elim mine.reached [
    | inl bottom ↦ omega (arith, bottom, other.some)
    | inr on ↦ omega (
      arith,
      on.3,
      other.above on.0 on.1 (on-alike x y on.0 left right one on.2),
    )
  ]

  pub one-step : (step : X → ℕ) (x y : X) → Node x → Node y → IsOnePart Node On x y
      → IsStep Node On step x → IsStep Node On step y → step x ≡ step y
  one-step step x y left right one mine other = omega (
    arith,
    step-up-to step x y left right one mine other,
    step-up-to step y x right left (one-part-sym Node On x y one) other mine,
  )

  -- ---- 2. steps are one

  module _ (f g : X → ℕ) (fs : (x : X) → Node x → IsStep Node On f x)
      (gs : (x : X) → Node x → IsStep Node On g x) where
    agree-below : (k : ℕ) (x : X) → Node x → f x < k → g x ≡ f x
    agree-below zero x node lt = absurd (omega (arith, lt))
    agree-below (suc k) x node lt =
        let low : f x ≤ g x = elim (fs x node).reached [
          | inl bottom ↦ omega (arith, bottom, (gs x node).some)
          | inr on ↦ omega (
            arith,
            on.3,
            (gs x node).above on.0 on.1 on.2,
            agree-below k on.0 on.1 (omega (arith, on.3, lt)),
          )
        ] in
        let high : g x ≤ f x = elim (gs x node).reached [
          | inl bottom ↦ omega (arith, bottom, (fs x node).some)
          | inr on ↦ omega (
            arith,
            on.3,
            (fs x node).above on.0 on.1 on.2,
            agree-below k on.0 on.1
                (omega (arith, (fs x node).above on.0 on.1 on.2, lt)),
          )
        ] in
        omega (arith, low, high)

    pub steps-agree : (x : X) → Node x → g x ≡ f x
    steps-agree x node = agree-below (f x + 1) x node (omega arith)

  -- ---- 3. what a node builds on is of its part or of a lower step

  module _ {M : Type 0} (mark : X → M) (step : X → ℕ)
      (so : ArePlaced Node On mark step)
      (decide : (x y : X) → (mark x ≡ mark y) ⊎ ¬ (mark x ≡ mark y)) where
    edge-down : (x y : X) → Node x → Node y → On x y → ¬ (mark x ≡ mark y) → step y < step x
    edge-down x y left right on apart = (so.steps x left).above y right (record {
      by = x;
      node = left;
      within = inl refl;
      on = on;
      apart = λ one. apart ((so.parts x y left right).1 one);
    })

    mark-step : (x y : X) → Node x → Node y → mark x ≡ mark y → step x ≡ step y
    mark-step x y left right same = one-step step x y left right
        ((so.parts x y left right).0 same) (so.steps x left) (so.steps y right)

    joined : (x z y : X) → Node x → Node z → Node y → (mark x ≡ mark z) ⊎ (step z < step x)
        → (mark z ≡ mark y) ⊎ (step y < step z) → (mark x ≡ mark y) ⊎ (step y < step x)
    joined x z y left mid right (inl same) (inl other) = inl (same ∙ other)
    joined x z y left mid right (inl same) (inr down) =
        inr (omega (arith, mark-step x z left mid same, down))
    joined x z y left mid right (inr down) (inl other) =
        inr (omega (arith, mark-step z y mid right other, down))
    joined x z y left mid right (inr down) (inr lower) = inr (omega (arith, down, lower))

    pub edge-leads-down : (x y : X) → Node x → Node y → On x y
        → (mark x ≡ mark y) ⊎ (step y < step x)
    edge-leads-down x y left right on = elim (decide x y) [
      | inl same ↦ inl same
      | inr apart ↦ inr (edge-down x y left right on apart)
    ]

    pub way-leads-down : (x : X) (between : List X) (y : X) → Node x → Node y
        → IsWay Node On x between y → (mark x ≡ mark y) ⊎ (step y < step x)
    way-leads-down x [] y left right way = edge-leads-down x y left right way
    way-leads-down x (z ∷ between) y left right way =
        joined x z y left way.1 right (edge-leads-down x z left way.1 way.0)
        (way-leads-down z between y way.1 right way.2)
