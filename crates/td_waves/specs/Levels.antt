-- The levels in which things that build on one another can be rebuilt. This project's own.
use Rattle.std.specs.Prelude.{◌≡◌, ◌⊎◌, ◌<◌, ◌≤◌, ℕ, zero, suc, Option, None, Some}
use Rattle.td_waves.specs.declared.level.Level.{Level}
use Rattle.td_waves.specs.declared.level.Level.TheVariants.{At, Cyclic}

-- x is affected, is not in P, and builds on no affected one outside P
pub record Follows {X : Type 0} (Affected : X → Type 0) (BuildsOn : X → X → Type 0) (P : X → Type 0)
    (x : X) : Type 0 where
  pub affected : Affected x
  pub not_before : ¬ P x
  pub grounded : (y : X) → Affected y → BuildsOn x y → P y

-- x is in a level up to k: none is in a level up to 0; level k + 1 has the affected ones in no
-- level up to k that build on no affected one outside those levels
abbrev pub UpTo : {X : Type 0} → (X → Type 0) → (X → X → Type 0) → ℕ → X → Type 0
UpTo Affected BuildsOn zero x = ⊥
UpTo Affected BuildsOn (suc k) x = UpTo Affected BuildsOn k x
    ⊎ Follows Affected BuildsOn (UpTo Affected BuildsOn k) x

-- x is in level k; levels count from 1
abbrev pub IsOn : {X : Type 0} → (X → Type 0) → (X → X → Type 0) → ℕ → X → Type 0
IsOn Affected BuildsOn zero x = ⊥
IsOn Affected BuildsOn (suc k) x = Follows Affected BuildsOn (UpTo Affected BuildsOn k) x

-- x is affected and in no level
abbrev pub IsCyclic : {X : Type 0} → (X → Type 0) → (X → X → Type 0) → X → Type 0
IsCyclic Affected BuildsOn x = Affected x × ((k : ℕ) → ¬ UpTo Affected BuildsOn k x)

-- where x stands; what isn't affected stands nowhere
abbrev pub StandsAt : {X : Type 0} → (X → Type 0) → (X → X → Type 0) → X → Option Level → Type 0
StandsAt Affected BuildsOn x None = ¬ Affected x
StandsAt Affected BuildsOn x (Some (At k)) = IsOn Affected BuildsOn k x
StandsAt Affected BuildsOn x (Some Cyclic) = IsCyclic Affected BuildsOn x

-- the levels in which something stands are those from 1 to depth
pub record IsDepth {X : Type 0} (level : X → Option Level) (depth : ℕ) : Type 0 where
  pub within : (x : X) (k : ℕ) → level x ≡ Some (At k) → (0 < k) × (k ≤ depth)
  pub reached : (k : ℕ) → 0 < k → k ≤ depth → (x : X) × (level x ≡ Some (At k))
