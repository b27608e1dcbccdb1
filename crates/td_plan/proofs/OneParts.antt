-- Parts: what is one part is so both ways, and through others.
use Rattle.std.proofs.Common.{◌++◌, ◌∷◌, inl, inr, sym, subst}
use Rattle.td_plan.specs.Parts.{IsOnePart, StandsOn}
use Rattle.td_plan.proofs.Ways.{way-append}

module _ {X : Type 0} (Node : X → Type 0) (On : X → X → Type 0) where
  -- what builds on a node that builds on another builds on that, too
  pub stands-through : (x y z : X) → Node y → StandsOn Node On x y → StandsOn Node On y z
      → StandsOn Node On x z
  stands-through x y z node near far =
      (near.0 ++ y ∷ far.0, way-append Node On x near.0 y far.0 z near.1 node far.1)

  pub one-part-sym : (x y : X) → IsOnePart Node On x y → IsOnePart Node On y x
  one-part-sym x y (inl same) = inl (sym same)
  one-part-sym x y (inr both) = inr ((both.1, both.0))

  pub one-part-through : (x y z : X) → Node y → IsOnePart Node On x y → IsOnePart Node On y z
      → IsOnePart Node On x z
  one-part-through x y z node (inl same) far =
      subst (λ w. IsOnePart Node On w z) (sym same) far
  one-part-through x y z node (inr both) (inl same) =
      subst (λ w. IsOnePart Node On x w) same (inr both)
  one-part-through x y z node (inr both) (inr far) =
      inr ((stands-through x y z node both.0 far.0, stands-through z y x node far.1 both.1))
