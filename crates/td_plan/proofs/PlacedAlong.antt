-- Parts and steps of numbers are those of what they stand for.
use Rattle.std.proofs.Common.{◌≡◌, ◌↔◌, ◌<◌, ◌∷◌, [], ◌∙◌, ℕ, List, inl, inr}
use Rattle.std.proofs.Common.{sym, ap, subst, arith}
use Rattle.td_waves.proofs.Along.{StandFor}
use Rattle.td_plan.specs.Parts.{ArePlaced, IsLeastOf, IsOnePart, IsStep, IsWay, PartBuildsOn}
use Rattle.td_plan.specs.Parts.{StandsOn}

-- ---- 1. nodes without edges may be left out

module _ {X : Type 0} (Node Mine : X → Type 0) (On : X → X → Type 0)
    (node : (x : X) → Mine x → Node x)
    (mine : (x y : X) → On x y → Mine x × Mine y) where
  narrow-way : (x : X) (between : List X) (y : X) → IsWay Node On x between y
      → IsWay Mine On x between y
  narrow-way x [] y way = way
  narrow-way x (z ∷ between) y way =
      (way.0, (mine x z way.0).1, narrow-way z between y way.2)

  wide-way : (x : X) (between : List X) (y : X) → IsWay Mine On x between y
      → IsWay Node On x between y
  wide-way x [] y way = way
  wide-way x (z ∷ between) y way = (way.0, node z way.1, wide-way z between y way.2)

  narrow-one : (x y : X) → IsOnePart Node On x y → IsOnePart Mine On x y
  narrow-one x y (inl same) = inl same
  narrow-one x y (inr both) = inr (
    (both.0.0, narrow-way x both.0.0 y both.0.1),
    (both.1.0, narrow-way y both.1.0 x both.1.1),
  )

  wide-one : (x y : X) → IsOnePart Mine On x y → IsOnePart Node On x y
  wide-one x y (inl same) = inl same
  wide-one x y (inr both) = inr (
    (both.0.0, wide-way x both.0.0 y both.0.1),
    (both.1.0, wide-way y both.1.0 x both.1.1),
  )

  narrow-part : (x y : X) → PartBuildsOn Node On x y → PartBuildsOn Mine On x y
  narrow-part x y part = record {
    by = part.by;
    node = (mine part.by y part.on).0;
    within = narrow-one x part.by part.within;
    on = part.on;
    apart = λ one. part.apart (wide-one x y one);
  }

  wide-part : (x y : X) → PartBuildsOn Mine On x y → PartBuildsOn Node On x y
  wide-part x y part = record {
    by = part.by;
    node = node part.by part.node;
    within = wide-one x part.by part.within;
    on = part.on;
    apart = λ one. part.apart (narrow-one x y one);
  }

  narrow-step : (step : X → ℕ) (x : X) → IsStep Node On step x → IsStep Mine On step x
  narrow-step step x so = record {
    above = λ y is part. so.above y (node y is) (wide-part x y part);
    reached = elim so.reached [
      | inl bottom ↦ inl bottom
      | inr on ↦ inr (
        on.0,
        (mine on.2.by on.0 on.2.on).1,
        narrow-part x on.0 on.2,
        on.3,
      )
    ];
    some = so.some;
  }

  pub narrow-placed : {M : Type 0} (mark : X → M) (step : X → ℕ)
      → ArePlaced Node On mark step → ArePlaced Mine On mark step
  narrow-placed mark step so = record {
    parts = λ x y left right. (
      (λ same. narrow-one x y ((so.parts x y (node x left) (node y right)).0 same)),
      (λ one. (so.parts x y (node x left) (node y right)).1 (wide-one x y one)),
    );
    steps = λ x is. narrow-step step x (so.steps x (node x is));
  }

-- the first of a part stays so if nodes without edges are left out
pub narrow-least : (Node Mine : ℕ → Type 0) (On : ℕ → ℕ → Type 0)
    → ((x : ℕ) → Mine x → Node x) → ((x y : ℕ) → On x y → Mine x × Mine y)
    → (first x : ℕ) → Mine x → IsLeastOf Node On first x → IsLeastOf Mine On first x
narrow-least Node Mine On node mine first x is so = record {
  node = elim so.within [
    | inl same ↦ subst Mine same is
    | inr both ↦ elim (narrow-one Node Mine On node mine x first (inr both)) [
      | inl same ↦ subst Mine same is
      | inr ways ↦ last x ways.0.0 first ways.0.1
    ]
  ];
  within = narrow-one Node Mine On node mine x first so.within;
  least = λ y other one. so.least y (node y other)
      (wide-one Node Mine On node mine x y one);
}
  where
    last : (a : ℕ) (between : List ℕ) (b : ℕ) → IsWay Mine On a between b → Mine b
    last a [] b way = (mine a b way).1
    last a (z ∷ between) b way = last z between b way.2

-- ---- 2. numbers that stand for things

module _ {X : Type 0} (A : X → Type 0) (B : X → X → Type 0) (N : ℕ → Type 0)
    (E : ℕ → ℕ → Type 0) (name : ℕ → X) (so : StandFor A B N E name)
    (apart : (i j : ℕ) → N i → N j → name i ≡ name j → i ≡ j) where
  way-there : (i : ℕ) (between : List ℕ) (j : ℕ) → N i → N j → IsWay N E i between j
      → StandsOn A B (name i) (name j)
  way-there i [] j left right way = ([], (so.same i j left right).0 way)
  way-there i (k ∷ between) j left right way =
      let rest = way-there k between j way.1 right way.2 in
      (name k ∷ rest.0, ((so.same i k left way.1).0 way.0, so.affected k way.1, rest.1))

  way-back : (i : ℕ) (between : List X) (j : ℕ) → N i → N j
      → IsWay A B (name i) between (name j) → StandsOn N E i j
  way-back i [] j left right way = ([], (so.same i j left right).1 way)
  way-back i (z ∷ between) j left right way =
      let k = so.onto z way.1 in
      let rest = way-back k.0 between j k.1 right
      (subst (λ w. IsWay A B w between (name j)) (sym k.2) way.2) in (
        k.0 ∷ rest.0,
        (
          (so.same i k.0 left k.1).1
              (subst (λ w. B (name i) w) (sym k.2) way.0),
          k.1,
          rest.1,
        ),
      )

  pub one-there : (i j : ℕ) → N i → N j → IsOnePart N E i j → IsOnePart A B (name i) (name j)
  one-there i j left right (inl same) = inl (ap name same)
  one-there i j left right (inr both) = inr (
    way-there i both.0.0 j left right both.0.1,
    way-there j both.1.0 i right left both.1.1,
  )

  pub one-back : (i j : ℕ) → N i → N j → IsOnePart A B (name i) (name j) → IsOnePart N E i j
  one-back i j left right (inl same) = inl (apart i j left right same)
  one-back i j left right (inr both) = inr (
    way-back i both.0.0 j left right both.0.1,
    way-back j both.1.0 i right left both.1.1,
  )

  part-there : (i j : ℕ) → N i → N j → PartBuildsOn N E i j → PartBuildsOn A B (name i) (name j)
  part-there i j left right part = record {
    by = name part.by;
    node = so.affected part.by part.node;
    within = one-there i part.by left part.node part.within;
    on = (so.same part.by j part.node right).0 part.on;
    apart = λ one. part.apart (one-back i j left right one);
  }

  part-back : (i j : ℕ) → N i → N j → PartBuildsOn A B (name i) (name j) → PartBuildsOn N E i j
  part-back i j left right part =
      let k = so.onto part.by part.node in
      record {
        by = k.0;
        node = k.1;
        within = one-back i k.0 left k.1
            (subst (λ w. IsOnePart A B (name i) w) (sym k.2) part.within);
        on = (so.same k.0 j k.1 right).1 (subst (λ w. B w (name j)) (sym k.2) part.on);
        apart = λ one. part.apart (one-there i j left right one);
      }

  -- marks and steps of the things, as the numbers have them
  module _ {M : Type 0} (mark : X → M) (step : X → ℕ) (first height : ℕ → ℕ)
      (placed : ArePlaced N E first height)
      (marks : (i j : ℕ) → N i → N j → (mark (name i) ≡ mark (name j)) ↔ (first i ≡ first j))
      (steps : (i : ℕ) → N i → step (name i) ≡ height i) where
    step-there : (i : ℕ) → N i → IsStep A B step (name i)
    step-there i is =
        let own = placed.steps i is in
        record {
          above = λ y node part.
              let j = so.onto y node in
              let low = own.above j.0 j.1 (part-back i j.0 is j.1
              (subst (λ w. PartBuildsOn A B (name i) w) (sym j.2) part)) in
              subst (λ w. step w < step (name i)) j.2
              (omega (arith, steps i is, steps j.0 j.1, low));
          reached = elim own.reached [
            | inl bottom ↦ inl (steps i is ∙ bottom)
            | inr on ↦ inr (
              name on.0,
              so.affected on.0 on.1,
              part-there i on.0 is on.1 on.2,
              omega (arith, steps i is, steps on.0 on.1, on.3),
            )
          ];
          some = omega (arith, steps i is, own.some);
        }

    pub placed-along : ArePlaced A B mark step
    placed-along = record {
      parts = λ x y left right.
          let i = so.onto x left in
          let j = so.onto y right in
          subst (λ w. (mark x ≡ mark w) ↔ IsOnePart A B x w) j.2
          (subst (λ w. (mark w ≡ mark (name j.0)) ↔ IsOnePart A B w (name j.0)) i.2 (
            (λ same. one-there i.0 j.0 i.1 j.1
                ((placed.parts i.0 j.0 i.1 j.1).0 ((marks i.0 j.0 i.1 j.1).0 same))),
            (λ one. (marks i.0 j.0 i.1 j.1).1
                ((placed.parts i.0 j.0 i.1 j.1).1 (one-back i.0 j.0 i.1 j.1 one))),
          ));
      steps = λ x node.
          let i = so.onto x node in subst (λ w. IsStep A B step w) i.2 (step-there i.0 i.1);
    }
