-- Ways over nodes: one after the other, turned around, over other nodes, and what a search that is
-- closed has reached.
use Rattle.std.proofs.Common.{◌++◌, ◌∷◌, [], ℕ, List, inl, inr, subst, sym}
use Rattle.td_waves.specs.Graph.{BuildsOn}
use Rattle.td_plan.specs.Parts.{IsWay, StandsOn}
use Rattle.td_plan.specs.inner.Lists.{Leads}

-- ---- 1. ways over any things

-- a step after a way
pub way-push : {X : Type 0} (Node : X → Type 0) (On : X → X → Type 0) (x : X) (between : List X)
    (y z : X) → IsWay Node On x between y → Node y → On y z
    → IsWay Node On x (between ++ y ∷ []) z
way-push Node On x [] y z way node on = (way, node, on)
way-push Node On x (w ∷ between) y z way node on =
    (way.0, way.1, way-push Node On w between y z way.2 node on)

-- two ways, one after the other
pub way-append : {X : Type 0} (Node : X → Type 0) (On : X → X → Type 0) (x : X)
    (between : List X) (y : X) (more : List X) (z : X)
    → IsWay Node On x between y → Node y → IsWay Node On y more z
    → IsWay Node On x (between ++ y ∷ more) z
way-append Node On x [] y more z way node next = (way, node, next)
way-append Node On x (w ∷ between) y more z way node next =
    (way.0, way.1, way-append Node On w between y more z way.2 node next)

-- a way over some nodes is one over others, if these are such too
pub way-over : {X : Type 0} (P Q : X → Type 0) (On : X → X → Type 0) → ((z : X) → P z → Q z)
    → (x : X) (between : List X) (y : X) → IsWay P On x between y → IsWay Q On x between y
way-over P Q On such x [] y way = way
way-over P Q On such x (z ∷ between) y way =
    (way.0, such z way.1, way-over P Q On such z between y way.2)

-- a way leads back if all edges are turned around
pub way-turned : {X : Type 0} (Node : X → Type 0) (On Back : X → X → Type 0)
    → ((x y : X) → On x y → Back y x) → (x : X) (between : List X) (y : X)
    → IsWay Node On x between y → StandsOn Node Back y x
way-turned Node On Back turned x [] y way = ([], turned x y way)
way-turned Node On Back turned x (z ∷ between) y way =
    let rest = way-turned Node On Back turned z between y way.2 in
    (rest.0 ++ z ∷ [], way-push Node Back y rest.0 z x rest.1 way.1 (turned x z way.0))

-- a way from one of some nodes that are closed stays among them
pub way-stays : {X : Type 0} (Node In : X → Type 0) (On : X → X → Type 0)
    → ((m z : X) → In m → On m z → Node z → In z) → (x : X) (between : List X) (y : X)
    → In x → Node y → IsWay Node On x between y → IsWay In On x between y × In y
way-stays Node In On closed x [] y mine node way = (way, closed x y mine way node)
way-stays Node In On closed x (z ∷ between) y mine node way =
    let here = closed x z mine way.0 way.1 in
    let rest = way-stays Node In On closed z between y here node way.2 in
    ((way.0, here, rest.0), rest.1)

-- ---- 2. ways in a graph

module _ (graph : List (List ℕ)) where
  -- a way leads to a node on which a reached one builds
  pub leads-more : (Node : ℕ → Type 0) (x y z : ℕ) → Leads graph Node x y → BuildsOn graph y z
      → Node z → Leads graph Node x z
  leads-more Node x y z (inl same) on node =
      inr (([], subst (λ n. BuildsOn graph n z) (sym same) on), node)
  leads-more Node x y z (inr far) on node =
      inr (
        (
          far.0.0 ++ y ∷ [],
          way-push Node (BuildsOn graph) x far.0.0 y z far.0.1 far.1 on,
        ),
        node,
      )

  pub leads-through : (Node : ℕ → Type 0) (x y z : ℕ) → Leads graph Node x y
      → Leads graph Node y z → Leads graph Node x z
  leads-through Node x y z (inl same) far = subst (λ n. Leads graph Node n z) (sym same) far
  leads-through Node x y z (inr near) (inl same) =
      subst (λ n. Leads graph Node x n) same (inr near)
  leads-through Node x y z (inr near) (inr far) =
      inr (
        (
          near.0.0 ++ y ∷ far.0.0,
          way-append Node (BuildsOn graph) x near.0.0 y far.0.0 z near.0.1 near.1 far.0.1,
        ),
        far.1,
      )

  pub leads-over : (P Q : ℕ → Type 0) → ((z : ℕ) → P z → Q z) → (x y : ℕ) → Leads graph P x y
      → Leads graph Q x y
  leads-over P Q such x y (inl same) = inl same
  leads-over P Q such x y (inr far) =
      inr ((far.0.0, way-over P Q (BuildsOn graph) such x far.0.0 y far.0.1), such y far.1)

  -- nodes that are closed have all that a way leads to from one of them
  pub leads-stays : (Node In : ℕ → Type 0)
      → ((m z : ℕ) → In m → BuildsOn graph m z → Node z → In z) → (x y : ℕ) → In x
      → Leads graph Node x y → In y
  leads-stays Node In closed x y mine (inl same) = subst In same mine
  leads-stays Node In closed x y mine (inr far) =
      (way-stays Node In (BuildsOn graph) closed x far.0.0 y mine far.1 far.0.1).1

  -- a way from one of some nodes that are closed leads only over these
  pub leads-among : (Node In : ℕ → Type 0)
      → ((m z : ℕ) → In m → BuildsOn graph m z → Node z → In z) → (x y : ℕ) → In x
      → Leads graph Node x y → Leads graph In x y
  leads-among Node In closed x y mine (inl same) = inl same
  leads-among Node In closed x y mine (inr far) =
      let stays = way-stays Node In (BuildsOn graph) closed x far.0.0 y mine far.1 far.0.1 in
      inr ((far.0.0, stays.0), stays.1)

  -- a way leads back in the graph turned around
  pub leads-turned : (users : List (List ℕ))
      → ((x y : ℕ) → BuildsOn graph x y → BuildsOn users y x) → (Node : ℕ → Type 0) (x y : ℕ)
      → Node x → Leads graph Node x y → Leads users Node y x
  leads-turned users turned Node x y mine (inl same) = inl (sym same)
  leads-turned users turned Node x y mine (inr far) =
      inr (way-turned Node (BuildsOn graph) (BuildsOn users) turned x far.0.0 y far.0.1, mine)
