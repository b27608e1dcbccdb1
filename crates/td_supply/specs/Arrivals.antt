-- How an arrival is put in place: the rebuilds' versions are made first. This project's own.
use Rattle.std.specs.Prelude.{ℕ, zero, suc, Bool, false, List, [], ◌∷◌, Option, Some, None}
use Rattle.std.specs.Prelude.{if◌then◌else◌}
use Rattle.std.specs.Option.{option_map_or}
use Rattle.std.specs.Prelude.{slice_get}
use Rattle.td_version.specs.Version.{Parts}
use Rattle.td_supply.specs.Places.{is_place}
use Rattle.td_supply.specs.Supplied.{Supplied, Item, rebuild_of}

-- whether an offer is of exactly the architecture at a place of the table
abbrev pub is_exactly : ℕ → Option ℕ → Bool
is_exactly place arch = option_map_or (λ there. is_place there (Some place)) arch false

-- the version that a rebuild there with the number offers, if the offer is a build there
abbrev pub rebuild_there : ℕ → ℕ → Supplied → Option Parts
rebuild_there place n o = if is_exactly place o.arch then rebuild_of n o else None

-- one more of those that are made, if it is made
abbrev pub with_made : {A : Type 0} → ℕ → Option A → List (ℕ × A) → List (ℕ × A)
with_made number None made = made
with_made number (Some made_now) made = (number, made_now) ∷ made

-- what is made of the item with a number, if there is one
abbrev pub made_at : {A B : Type 0} → (A → Option B) → List A → ℕ → Option B
made_at make items number = option_map_or make (slice_get items number) None

-- what is made of the items with these numbers, with the numbers
abbrev pub made_of : {A B : Type 0} → (A → Option B) → List A → List ℕ → List (ℕ × B)
made_of make items [] = []
made_of make items (number ∷ numbers) = with_made number (made_at make items number)
    (made_of make items numbers)

-- the items, with a rebuild's version at the one with this number
abbrev pub put : ℕ → Parts → List Item → List Item
put number version [] = []
put zero version (i ∷ items) = record i { rebuilt = Some version } ∷ items
put (suc number) version (i ∷ items) = i ∷ put number version items

-- the items, with each of these versions put in place
abbrev pub put_all : List (ℕ × Parts) → List Item → List Item
put_all [] items = items
put_all (p ∷ made) items = put p.0 p.1 (put_all made items)
