-- A part is taken: what was placed stays so, and its nodes are.
use Rattle.std.proofs.Common.{◌≡◌, ◌⊎◌, ◌+◌, ◌<◌, ◌≤◌, ◌∷◌, [], ◌∙◌, ℕ, Bool, false}
use Rattle.std.proofs.Common.{List, length, get_or, inl, inr, refl, sym, subst, arith}
use Rattle.std.specs.List.{Contains}
use Rattle.std.proofs.lemmas.Bool.{cases_Bool, cases_eq, false≢true}
use Rattle.std.proofs.lemmas.List.Sums.{count_by-le-length}
use Rattle.td_waves.specs.Graph.{BuildsOn, IsNode}
use Rattle.td_plan.specs.Parts.{IsLeastOf, IsOnePart, IsStep, IsWay, PartBuildsOn, StandsOn}
use Rattle.td_plan.specs.inner.Lists.{AreOnePart, AreSetTo, IsSet, Leads, count_set}
use Rattle.td_plan.specs.inner.Searching.{AreUnderway, IsGreatestBelow}
use Rattle.td_plan.proofs.OneParts.{one-part-sym, one-part-through}
use Rattle.td_plan.proofs.SetTo.{set-within}
use Rattle.td_plan.proofs.Ways.{leads-more, way-over, way-stays}

off-not : (flags : List Bool) (n : ℕ) → get_or flags n false ≡ false → ¬ IsSet flags n
off-not flags n off is = false≢true (sym off ∙ is)

-- two nodes are one part if ways lead both ways
both-lead : (graph : List (List ℕ)) (x y : ℕ) → Leads graph (IsNode graph) x y
    → Leads graph (IsNode graph) y x → IsOnePart (IsNode graph) (BuildsOn graph) x y
both-lead graph x y (inl same) there = inl same
both-lead graph x y (inr far) (inl same) = inl (sym same)
both-lead graph x y (inr far) (inr there) = inr ((far.0, there.0))

module _ (graph : List (List ℕ)) (edges : (x y : ℕ) → BuildsOn graph x y → IsNode graph y)
    (flags : List Bool) (firsts steps : List ℕ) (was : AreUnderway graph flags firsts steps) where
  abbrev On : ℕ → ℕ → Type 0
  On = BuildsOn graph

  abbrev Node : ℕ → Type 0
  Node = IsNode graph

  abbrev IsOne : ℕ → ℕ → Type 0
  IsOne = IsOnePart Node On

  -- ---- 1. what is placed builds only on what is placed

  -- a node that is placed
  abbrev IsPlaced : ℕ → Type 0
  IsPlaced n = IsNode graph n × (¬ IsSet flags n)

  placed-on : (m z : ℕ) → IsPlaced m → On m z → Node z → IsPlaced z
  placed-on m z mine on node = (node, was.closed m z mine.0 mine.1 on)

  placed-stands : (x y : ℕ) → IsPlaced x → Node y → StandsOn Node On x y → ¬ IsSet flags y
  placed-stands x y mine node far =
      (way-stays Node IsPlaced On placed-on x far.0 y mine node far.1).1.1

  placed-one : (x y : ℕ) → IsPlaced x → Node y → IsOne x y → ¬ IsSet flags y
  placed-one x y mine node (inl same) is = mine.1 (subst (λ n. IsSet flags n) (sym same) is)
  placed-one x y mine node (inr both) is = placed-stands x y mine node both.0 is

  placed-part : (x y : ℕ) → IsPlaced x → PartBuildsOn Node On x y → ¬ IsSet flags y
  placed-part x y mine part =
      was.closed part.by y part.node (placed-one x part.by mine part.node part.within) part.on

  -- a way to a node that isn't placed leads over such
  way-left : (x : ℕ) (between : List ℕ) (y : ℕ) → Node y → IsSet flags y
      → IsWay Node On x between y → IsWay (IsSet flags) On x between y
  way-left x [] y node is way = way
  way-left x (z ∷ between) y node is way = elim (cases_Bool (get_or flags z false)) [
    | inl on ↦ (way.0, on, way-left z between y node is way.2)
    | inr off ↦ absurd (placed-stands z y (way.1, off-not flags z off) node
        ((between, way.2)) is)
  ]

  -- a step is no more than the nodes that have one
  low-found : (nodes : List ℕ) (below : ℕ)
      → (below ≡ 0) ⊎ ((m : ℕ) × (b : ℕ) × Contains nodes m × On m b
      × (get_or steps b 0 ≡ below)) → below + count_set flags ≤ length graph
  low-found nodes below (inl none) =
      omega (arith, none, count_by-le-length (λ flag. flag) flags, was.len)
  low-found nodes below (inr found) = omega (arith, found.4, was.low found.1)

  pub below-low : (nodes : List ℕ) (below : ℕ) → IsGreatestBelow graph steps nodes below
      → below + count_set flags ≤ length graph
  below-low nodes below greatest = low-found nodes below greatest.found

  -- ---- 2. the nodes of the part

  module _ (nodes : List ℕ) (left : List Bool) (so : AreOnePart graph flags nodes left) where
    root-mine : Contains nodes so.root
    root-mine = (so.reached.reached so.root).1 (inl refl)

    pub taken-fewer : count_set left < count_set flags
    taken-fewer = omega (arith, root-mine.1, so.reached.counted)

    mine-node : (n : ℕ) → Contains nodes n → Node n
    mine-node n mine =
        omega (arith, set-within flags n (so.reached.flagged n mine), was.len)

    node-if-set : (n : ℕ) → IsSet flags n → Node n
    node-if-set n is = omega (arith, set-within flags n is, was.len)

    -- each of the nodes is of the root's part
    mine-one : (n : ℕ) → Contains nodes n → IsOne so.root n
    mine-one n mine = elim ((so.reached.reached n).0 mine) [
      | inl same ↦ inl same
      | inr far ↦ both-lead graph so.root n
          (inr (
            (far.0.0, way-over (IsSet flags) Node On node-if-set so.root far.0.0 n far.0.1),
            mine-node n mine,
          )) (so.back n mine)
    ]

    -- each node of the root's part is one of the nodes
    one-mine : (n : ℕ) → Node n → IsOne so.root n → Contains nodes n
    one-mine n node (inl same) = subst (λ k. Contains nodes k) same root-mine
    one-mine n node (inr both) =
        let root-node : Node so.root = mine-node so.root root-mine in
        elim (cases_Bool (get_or flags n false)) [
          | inl on ↦ (so.reached.reached n).1 (inr (
            (
              both.0.0,
              way-left so.root both.0.0 n node on both.0.1,
            ),
            on,
          ))
          | inr off ↦ absurd (placed-stands n so.root (node, off-not flags n off) root-node
              both.1 (so.reached.flagged so.root root-mine))
        ]

    -- any two of the nodes are of one part
    mine-both : (x y : ℕ) → Contains nodes x → Contains nodes y → IsOne x y
    mine-both x y mine other = one-part-through Node On x so.root y
        (mine-node so.root root-mine) (one-part-sym Node On so.root x (mine-one x mine))
        (mine-one y other)

    mine-if-one : (x y : ℕ) → Contains nodes x → Node y → IsOne x y → Contains nodes y
    mine-if-one x y mine node one = one-mine y node
        (one-part-through Node On so.root x y (mine-node x mine) (mine-one x mine) one)

    -- a node that isn't left was placed, or is one of the nodes
    was-placed : (x : ℕ) → ¬ IsSet left x → ¬ Contains nodes x → ¬ IsSet flags x
    was-placed x gone other is = elim (so.reached.still x is) [
      | inl mine ↦ other mine
      | inr free ↦ gone free
    ]

    closed-next : (x y : ℕ) → Node x → ¬ IsSet left x → On x y → ¬ IsSet left y
    closed-next x y node gone on free =
        let before : IsSet flags y = so.reached.was y free in
        elim (cases_Bool (get_or flags x false)) [
          | inl is ↦ elim (so.reached.still x is) [
            | inl mine ↦ so.reached.apart y free ((so.reached.reached y).1
                (leads-more graph (IsSet flags) so.root x y
                ((so.reached.reached x).0 mine) on before))
            | inr here ↦ gone here
          ]
          | inr off ↦ was.closed x y node (off-not flags x off) on before
        ]

    -- ---- 3. their first, and their step

    module _ (first below : ℕ) (of : Contains nodes first)
        (least : (n : ℕ) → Contains nodes n → first ≤ n)
        (greatest : IsGreatestBelow graph steps nodes below)
        (nexts heights : List ℕ) (first-set : AreSetTo nodes 0 first firsts nexts)
        (step-set : AreSetTo nodes 0 (below + 1) steps heights) where
      step-mine : (n : ℕ) → Contains nodes n → get_or heights n 0 ≡ below + 1
      step-mine n mine = elim (step-set n) [
        | inl here ↦ here.1
        | inr free ↦ absurd (free.0 mine)
      ]

      step-other : (n : ℕ) → ¬ Contains nodes n → get_or heights n 0 ≡ get_or steps n 0
      step-other n other = elim (step-set n) [
        | inl here ↦ absurd (other here.0)
        | inr free ↦ free.1
      ]

      step-placed : (n : ℕ) → ¬ IsSet flags n → get_or heights n 0 ≡ get_or steps n 0
      step-placed n gone = step-other n (λ mine. gone (so.reached.flagged n mine))

      first-mine : (x : ℕ) → Contains nodes x → IsLeastOf Node On first x
      first-mine x mine = record {
        node = mine-node first of;
        within = mine-both x first mine of;
        least = λ y node one. least y (mine-if-one x y mine node one);
      }

      placed-next : (x : ℕ) → Node x → ¬ IsSet left x → IsLeastOf Node On (get_or nexts x 0) x
      placed-next x node gone = elim (first-set x) [
        | inl here ↦ subst (λ k. IsLeastOf Node On k x) (sym here.1) (first-mine x here.0)
        | inr free ↦ subst (λ k. IsLeastOf Node On k x) (sym free.1)
            (was.placed x node (was-placed x gone free.0))
      ]

      -- what was placed has its step
      old-reached : (x : ℕ) → IsPlaced x
          → (get_or steps x 0 ≡ 1)
          ⊎ ((y : ℕ) × Node y × PartBuildsOn Node On x y
          × (get_or steps x 0 ≡ get_or steps y 0 + 1))
          → (get_or heights x 0 ≡ 1)
          ⊎ ((y : ℕ) × Node y × PartBuildsOn Node On x y
          × (get_or heights x 0 ≡ get_or heights y 0 + 1))
      old-reached x mine (inl bottom) = inl (step-placed x mine.1 ∙ bottom)
      old-reached x mine (inr on) = inr (
        on.0,
        on.1,
        on.2,
        omega (
          arith,
          step-placed x mine.1,
          step-placed on.0 (placed-part x on.0 mine on.2),
          on.3,
        ),
      )

      old-step : (x : ℕ) → IsPlaced x → IsStep Node On (λ n. get_or heights n 0) x
      old-step x mine =
          let step = was.stepped x mine.0 mine.1 in
          record {
            above = λ y node part. omega (
              arith,
              step.above y node part,
              step-placed x mine.1,
              step-placed y (placed-part x y mine part),
            );
            reached = old-reached x mine step.reached;
            some = omega (arith, step.some, step-placed x mine.1);
          }

      -- the part builds on what was placed
      base-other : (x y : ℕ) → Contains nodes x → PartBuildsOn Node On x y → ¬ Contains nodes y
      base-other x y mine part other = part.apart (mine-both x y mine other)

      new-above : (x y : ℕ) → Contains nodes x → PartBuildsOn Node On x y
          → get_or heights y 0 < get_or heights x 0
      new-above x y mine part = omega (
        arith,
        step-mine x mine,
        step-other y (base-other x y mine part),
        greatest.above part.by y (mine-if-one x part.by mine part.node part.within) part.on,
      )

      new-reached : (x : ℕ) → Contains nodes x → (below ≡ 0) ⊎ (below ≡ 0 → ⊥)
          → (below ≡ 0) ⊎ ((m : ℕ) × (b : ℕ) × Contains nodes m × On m b
          × (get_or steps b 0 ≡ below))
          → (get_or heights x 0 ≡ 1)
          ⊎ ((y : ℕ) × Node y × PartBuildsOn Node On x y
          × (get_or heights x 0 ≡ get_or heights y 0 + 1))
      new-reached x mine (inl none) found = inl (omega (arith, step-mine x mine, none))
      new-reached x mine (inr some) (inl none) = absurd (some none)
      new-reached x mine (inr some) (inr found) =
          let m = found.0 in
          let b = found.1 in
          let gone : ¬ IsSet flags b = λ is. some (sym found.4 ∙ was.none b is) in
          let other : ¬ Contains nodes b = λ has. gone (so.reached.flagged b has) in
          let node : Node b = edges m b found.3 in
          let part : PartBuildsOn Node On x b = record {
            by = m;
            node = mine-node m found.2;
            within = mine-both x m mine found.2;
            on = found.3;
            apart = λ one. other (mine-if-one x b mine node one);
          } in
          inr (
            b,
            node,
            part,
            omega (
              arith,
              step-mine x mine,
              step-other b other,
              found.4,
            ),
          )

      new-step : (x : ℕ) → Contains nodes x → IsStep Node On (λ n. get_or heights n 0) x
      new-step x mine = record {
        above = λ y node part. new-above x y mine part;
        reached = new-reached x mine (cases_eq below 0) greatest.found;
        some = omega (arith, step-mine x mine);
      }

      stepped-next : (x : ℕ) → Node x → ¬ IsSet left x
          → IsStep Node On (λ n. get_or heights n 0) x
      stepped-next x node gone = elim (first-set x) [
        | inl here ↦ new-step x here.0
        | inr free ↦ old-step x (node, was-placed x gone free.0)
      ]

      none-next : (x : ℕ) → IsSet left x → get_or heights x 0 ≡ 0
      none-next x free = step-other x (so.reached.apart x free)
          ∙ was.none x (so.reached.was x free)

      -- ---- 4. steps are no more than the nodes that have one

      low-next : (x : ℕ) → get_or heights x 0 + count_set left ≤ length graph
      low-next x = elim (step-set x) [
        | inl here ↦ omega (arith, here.1, below-low nodes below greatest, taken-fewer)
        | inr free ↦ omega (arith, free.1, was.low x, so.reached.counted)
      ]

      pub taken : length nexts ≡ length firsts → length heights ≡ length steps
          → AreUnderway graph left nexts heights
      taken firsts-same steps-same = record {
        len = so.reached.len ∙ was.len;
        firsts_len = firsts-same ∙ was.firsts_len;
        steps_len = steps-same ∙ was.steps_len;
        closed = closed-next;
        placed = placed-next;
        stepped = stepped-next;
        none = none-next;
        low = low-next;
      }
