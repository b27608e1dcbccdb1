-- A search for parts: its graph, and how far it has come.
use Rattle.std.specs.Prelude.{◌≡◌, ◌⊎◌, ◌↔◌, ◌+◌, ◌<◌, ◌≤◌, ℕ, Bool, List, length, slice_index}
use Rattle.std.specs.Global.{Vec}
use Rattle.std.specs.List.{All, Contains}
use Rattle.td_waves.specs.Graph.{BuildsOn, IsNode, lists}
use Rattle.td_plan.specs.Parts.{IsLeastOf, IsStep}
use Rattle.td_plan.specs.inner.Lists.{IsSet, count_set}

-- ---- 1. the graph

-- each node of a graph builds on nodes with numbers below this count
abbrev pub IsGraph : ℕ → List (Vec ℕ) → Type 0
IsGraph count graph = All (λ bases. All (λ b. b < count) bases.items) graph

-- nodes with numbers below this count
abbrev pub AreNodes : ℕ → List ℕ → Type 0
AreNodes count nodes = All (λ n. n < count) nodes

-- the one graph is the other with its edges turned around
abbrev pub IsTurned : List (List ℕ) → List (List ℕ) → Type 0
IsTurned graph users = (x y : ℕ) → BuildsOn users y x ↔ BuildsOn graph x y

-- two graphs where they lie in memory, each the other with its edges turned around
pub record AreTurned (graph users : List (Vec ℕ)) : Type 0 where
  pub bases : IsGraph (length graph) graph
  pub back : IsGraph (length users) users
  pub count : length users ≡ length graph
  pub turned : IsTurned (lists graph) (lists users)

-- ---- 2. steps

-- the greatest step of some nodes; 0 if there are none
pub record IsGreatestOf (steps nodes : List ℕ) (greatest : ℕ) : Type 0 where
  pub above : All (λ n. slice_index steps n ≤ greatest) nodes
  pub found : (greatest ≡ 0) ⊎ ((n : ℕ) × Contains nodes n × (slice_index steps n ≡ greatest))

-- the greatest step of the nodes on which some nodes build
pub record IsGreatestBelow (graph : List (List ℕ)) (steps members : List ℕ) (greatest : ℕ)
    : Type 0 where
  pub above : (m b : ℕ) → Contains members m → BuildsOn graph m b → slice_index steps b ≤ greatest
  pub found : (greatest ≡ 0) ⊎ ((m : ℕ) × (b : ℕ) × Contains members m × BuildsOn graph m b
      × (slice_index steps b ≡ greatest))

-- ---- 3. the work

-- the nodes without a flag are closed: they build only on such. Each has the first of its part and
-- its step; the others have no step yet
pub record AreUnderway (graph : List (List ℕ)) (left : List Bool) (firsts steps : List ℕ)
    : Type 0 where
  pub len : length left ≡ length graph
  pub firsts_len : length firsts ≡ length graph
  pub steps_len : length steps ≡ length graph
  pub closed : (x y : ℕ) → IsNode graph x → (¬ IsSet left x) → BuildsOn graph x y
      → ¬ IsSet left y
  pub placed : (x : ℕ) → IsNode graph x → (¬ IsSet left x)
      → IsLeastOf (IsNode graph) (BuildsOn graph) (slice_index firsts x) x
  pub stepped : (x : ℕ) → IsNode graph x → (¬ IsSet left x)
      → IsStep (IsNode graph) (BuildsOn graph) (λ n. slice_index steps n) x
  pub none : (x : ℕ) → IsSet left x → slice_index steps x ≡ 0
  pub low : (x : ℕ) → slice_index steps x + count_set left ≤ length graph
