-- A search for parts when no node is left: each has a part.
use Rattle.std.proofs.Common.{◌≡◌, ◌≤◌, ℕ, Bool, List}
use Rattle.std.proofs.Common.{get_or, sym, subst, arith}
use Rattle.td_waves.specs.Graph.{BuildsOn, IsNode}
use Rattle.td_plan.specs.Parts.{ArePlaced, IsLeastOf, IsOnePart}
use Rattle.td_plan.specs.inner.Lists.{IsSet}
use Rattle.td_plan.specs.inner.Searching.{AreUnderway}
use Rattle.td_plan.proofs.OneParts.{one-part-sym, one-part-through}

module _ (graph : List (List ℕ)) (left : List Bool) (firsts steps : List ℕ)
    (so : AreUnderway graph left firsts steps)
    (all : (n : ℕ) → IsNode graph n → ¬ IsSet left n) where
  abbrev IsOne : ℕ → ℕ → Type 0
  IsOne = IsOnePart (IsNode graph) (BuildsOn graph)

  pub least-of : (x : ℕ) → IsNode graph x
      → IsLeastOf (IsNode graph) (BuildsOn graph) (get_or firsts x 0) x
  least-of x node = so.placed x node (all x node)

  same-one : (x y : ℕ) → IsNode graph x → IsNode graph y → get_or firsts x 0 ≡ get_or firsts y 0
      → IsOne x y
  same-one x y left-node right-node same =
      let mine = least-of x left-node in
      let other = least-of y right-node in
      let back : IsOne (get_or firsts y 0) y = one-part-sym (IsNode graph) (BuildsOn graph) y
      (get_or firsts y 0) other.within in
      one-part-through (IsNode graph) (BuildsOn graph) x (get_or firsts x 0) y mine.node
      mine.within (subst (λ k. IsOne k y) (sym same) back)

  one-least : (x y : ℕ) → IsNode graph x → IsNode graph y → IsOne x y
      → get_or firsts x 0 ≤ get_or firsts y 0
  one-least x y left-node right-node one =
      let other = least-of y right-node in
      (least-of x left-node).least (get_or firsts y 0) other.node
      (one-part-through (IsNode graph) (BuildsOn graph) x y (get_or firsts y 0) right-node one
      other.within)

  one-same : (x y : ℕ) → IsNode graph x → IsNode graph y → IsOne x y
      → get_or firsts x 0 ≡ get_or firsts y 0
  one-same x y left-node right-node one = omega (
    arith,
    one-least x y left-node right-node one,
    one-least y x right-node left-node
        (one-part-sym (IsNode graph) (BuildsOn graph) x y one),
  )

  pub all-placed : ArePlaced (IsNode graph) (BuildsOn graph) (λ n. get_or firsts n 0)
      (λ n. get_or steps n 0)
  all-placed = record {
    parts = λ x y left-node right-node.
        (same-one x y left-node right-node, one-same x y left-node right-node);
    steps = λ x node. so.stepped x node (all x node);
  }
