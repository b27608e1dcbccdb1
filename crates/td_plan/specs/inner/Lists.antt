-- Nodes and flags where they lie in memory, and what a search of a graph does to them.
use Rattle.std.specs.Prelude.{◌≡◌, ◌⊎◌, ◌↔◌, ◌+◌, ◌<◌, ◌≤◌, ℕ, true, false, Bool, List, length}
use Rattle.std.specs.Prelude.{Option, MatchOption, count_by, slice_index, slice_index_or}
use Rattle.std.specs.List.{Contains}
use Rattle.td_waves.specs.Graph.{BuildsOn, IsNode}
use Rattle.td_plan.specs.Parts.{StandsOn}

-- ---- 1. flags

-- the flag of a node is set
abbrev pub IsSet : List Bool → ℕ → Type 0
IsSet flags node = slice_index_or flags node false ≡ true

-- how many flags are set
abbrev pub count_set : List Bool → ℕ
count_set flags = count_by (λ flag. flag) flags

-- no flag is set, of this many
pub record AreClear (count : ℕ) (flags : List Bool) : Type 0 where
  pub len : length flags ≡ count
  pub none : (n : ℕ) → ¬ IsSet flags n

-- at the places of nodes is a value now, and elsewhere what was there
abbrev pub AreSetTo : {V : Type 0} → List ℕ → V → V → List V → List V → Type 0
AreSetTo nodes other value old new = (n : ℕ)
    → (Contains nodes n × (slice_index_or new n other ≡ value))
    ⊎ ((¬ Contains nodes n) × (slice_index_or new n other ≡ slice_index_or old n other))

-- nodes whose flags were set were added to others, and their flags were cleared
pub record AreTaken (old : List ℕ) (flags : List Bool) (new : List ℕ) (left : List Bool)
    : Type 0 where
  pub more : (k : ℕ) → k < length old → slice_index new k ≡ slice_index old k
  pub long : length old ≤ length new
  pub apart : (n : ℕ) → IsSet left n → ¬ Contains new n
  pub was : (n : ℕ) → IsSet left n → IsSet flags n
  pub still : (n : ℕ) → IsSet flags n → Contains new n ⊎ IsSet left n
  pub counted : count_set left + length new ≡ count_set flags + length old
  pub len : length left ≡ length flags

-- all nodes among some whose flags were set were added to others, and their flags were cleared
pub record AreTakenOf (among old : List ℕ) (flags : List Bool) (new : List ℕ) (left : List Bool)
    : Type 0 where
  pub taken : AreTaken old flags new left
  pub all : (n : ℕ) → Contains among n → IsSet flags n → Contains new n
  pub only : (n : ℕ) → Contains new n → Contains old n ⊎ (Contains among n × IsSet flags n)

-- ---- 2. ways

-- a way leads from x to y over nodes of some kind, and y is one of them; or x is y
abbrev pub Leads : List (List ℕ) → (ℕ → Type 0) → ℕ → ℕ → Type 0
Leads graph Node x y = (x ≡ y) ⊎ (StandsOn Node (BuildsOn graph) x y × Node y)

-- the nodes are those to which a way leads from a root over nodes whose flags were set, which are
-- cleared; others are as they were
pub record AreReached (graph : List (List ℕ)) (root : ℕ) (flags : List Bool) (nodes : List ℕ)
    (left : List Bool) : Type 0 where
  pub reached : (n : ℕ) → Contains nodes n ↔ Leads graph (IsSet flags) root n
  pub flagged : (n : ℕ) → Contains nodes n → IsSet flags n
  pub apart : (n : ℕ) → IsSet left n → ¬ Contains nodes n
  pub was : (n : ℕ) → IsSet left n → IsSet flags n
  pub still : (n : ℕ) → IsSet flags n → Contains nodes n ⊎ IsSet left n
  pub counted : count_set left + length nodes ≡ count_set flags
  pub len : length left ≡ length flags

-- the nodes are one part: a way leads to each from a root, and back to the root from each
pub record AreOnePart (graph : List (List ℕ)) (flags : List Bool) (nodes : List ℕ)
    (left : List Bool) : Type 0 where
  pub root : ℕ
  pub reached : AreReached graph root flags nodes left
  pub back : (n : ℕ) → Contains nodes n → Leads graph (IsNode graph) n root

-- a node that is found among some is one to which no way leads from a root over these; if none is
-- found, a way leads to each
abbrev pub IsStray : List (List ℕ) → ℕ → List ℕ → Option ℕ → Type 0
IsStray graph root nodes stray = MatchOption stray
    ((n : ℕ) → Contains nodes n → Leads graph (Contains nodes) root n)
    (λ n. Contains nodes n × (¬ Leads graph (Contains nodes) root n))
