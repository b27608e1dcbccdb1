-- Things that build on one another, as parts with their steps. This project's own.
use Rattle.std.specs.Prelude.{◌≡◌, ◌⊎◌, ◌↔◌, ◌+◌, ◌<◌, ◌≤◌, ℕ, List, [], ◌∷◌}

-- a way leads from x to y over these nodes between them: each builds on the next
abbrev pub IsWay : {X : Type 0} → (X → Type 0) → (X → X → Type 0) → X → List X → X → Type 0
IsWay Node BuildsOn x [] y = BuildsOn x y
IsWay Node BuildsOn x (z ∷ between) y = BuildsOn x z × Node z × IsWay Node BuildsOn z between y

-- x builds on y, directly or round about
abbrev pub StandsOn : {X : Type 0} → (X → Type 0) → (X → X → Type 0) → X → X → Type 0
StandsOn {X} Node BuildsOn x y = (between : List X) × IsWay Node BuildsOn x between y

-- two nodes are one part: they are one, or each builds on the other, directly or round about
abbrev pub IsOnePart : {X : Type 0} → (X → Type 0) → (X → X → Type 0) → X → X → Type 0
IsOnePart Node BuildsOn x y = (x ≡ y)
    ⊎ (StandsOn Node BuildsOn x y × StandsOn Node BuildsOn y x)

-- the part of x builds on that of y, which is another one
pub record PartBuildsOn {X : Type 0} (Node : X → Type 0) (BuildsOn : X → X → Type 0)
    (x y : X) : Type 0 where
  pub by : X
  pub node : Node by
  pub within : IsOnePart Node BuildsOn x by
  pub on : BuildsOn by y
  pub apart : ¬ IsOnePart Node BuildsOn x y

-- the step of x: one more than the greatest step of the parts on which its part builds, or 1 if
-- there are none
pub record IsStep {X : Type 0} (Node : X → Type 0) (BuildsOn : X → X → Type 0) (step : X → ℕ)
    (x : X) : Type 0 where
  pub above : (y : X) → Node y → PartBuildsOn Node BuildsOn x y → step y < step x
  pub reached : (step x ≡ 1)
      ⊎ ((y : X) × Node y × PartBuildsOn Node BuildsOn x y × (step x ≡ step y + 1))
  pub some : 0 < step x

-- parts with their steps: two nodes have one mark if and only if they are one part
pub record ArePlaced {X M : Type 0} (Node : X → Type 0) (BuildsOn : X → X → Type 0)
    (mark : X → M) (step : X → ℕ) : Type 0 where
  pub parts : (x y : X) → Node x → Node y → (mark x ≡ mark y) ↔ IsOnePart Node BuildsOn x y
  pub steps : (x : X) → Node x → IsStep Node BuildsOn step x

-- the first of the part of x, if nodes are numbers: it is of the part, and none of the part is
-- less
pub record IsLeastOf (Node : ℕ → Type 0) (BuildsOn : ℕ → ℕ → Type 0) (first x : ℕ)
    : Type 0 where
  pub node : Node first
  pub within : IsOnePart Node BuildsOn x first
  pub least : (y : ℕ) → Node y → IsOnePart Node BuildsOn x y → first ≤ y
