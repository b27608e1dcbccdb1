-- The parts and steps of sources: of those that a plan moves, or of others. This project's own.
use Rattle.std.specs.Prelude.{◌≡◌, ℕ, ◌&&◌, false, nat_lt, ◌==◌, Bool, IsTrue, List}
use Rattle.std.specs.Prelude.{if◌then◌else◌}
use Rattle.std.specs.List.{list_any}
use Rattle.std.specs.Str.{bytes_eq}
use Rattle.td_indices.specs.Archive.{Contents}
use Rattle.td_indices.specs.Sources.{KeptSource}
use Rattle.td_waves.specs.Waves.{BuildsOn}
use Rattle.td_plan.specs.Due.{moves}
use Rattle.td_plan.specs.InOrder.{is_before}
use Rattle.td_plan.specs.Parts.{ArePlaced, IsOnePart}
use Rattle.td_plan.specs.Premises.{Premises}

-- for each name the first source of its part, and its step
pub record Placing : Type 0 where
  pub first : List ℕ → List ℕ
  pub step : List ℕ → ℕ

-- the first source of a part of some sources is of the part, and no source of it is before that
pub record IsFirstOf (Node : List ℕ → Type 0) (a : Contents) (first : List ℕ → List ℕ)
    (name : List ℕ) : Type 0 where
  pub node : Node (first name)
  pub within : IsOnePart Node (BuildsOn a) name (first name)
  pub least : (other : List ℕ) → Node other → IsOnePart Node (BuildsOn a) name other
      → is_before other (first name) ≡ false

-- each of some sources has its part and step among them, and the first source of its part
pub record IsPlacingOf (Node : List ℕ → Type 0) (a : Contents) (x : Placing) : Type 0 where
  pub placed : ArePlaced Node (BuildsOn a) x.first x.step
  pub first : (name : List ℕ) → Node name → IsFirstOf Node a x.first name

-- the source with this name has a row that is due or pending
abbrev pub Moves : Premises → List ℕ → Type 0
Moves p name = IsTrue (list_any (λ s. bytes_eq name s.head.name && moves p s) p.archive.sources)

-- the first source of a part of the sources that move
abbrev pub IsFirst : Premises → (List ℕ → List ℕ) → List ℕ → Type 0
IsFirst p first name = IsFirstOf (Moves p) p.archive first name

-- the parts and steps of the sources that move
abbrev pub IsPlacing : Premises → Placing → Type 0
IsPlacing p x = IsPlacingOf (Moves p) p.archive x

-- two names are of one part
abbrev pub are_of_one_part : Placing → List ℕ → List ℕ → Bool
are_of_one_part x a b = bytes_eq (x.first a) (x.first b)

-- the order of lines: by the step, then by the part's first source, then by the source
abbrev pub is_place_before : Placing → KeptSource → KeptSource → Bool
is_place_before x s t =
    if x.step s.head.name == x.step t.head.name
    then (if are_of_one_part x s.head.name t.head.name then is_before s.head.name t.head.name
    else is_before (x.first s.head.name) (x.first t.head.name))
    else nat_lt (x.step s.head.name) (x.step t.head.name)
