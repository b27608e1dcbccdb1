-- What a source is told to wait for, and where, as it lies in memory.
use Rattle.std.specs.Prelude.{ℕ, ◌+◌, List, [], ◌∷◌, ◌++◌, map, filter, string_bytes}
use Rattle.std.specs.Prelude.{if◌then◌else◌}
use Rattle.std.specs.List.{list_any}
use Rattle.std.specs.Str.{bytes_eq}
use Rattle.td_plan.specs.declared.relations.Told.{Told}
use Rattle.td_plan.specs.declared.waits.Waits.{Waits}
use Rattle.td_plan.specs.Plan.{WaitingAt, is_alike}
use Rattle.td_plan.specs.Relations.{relation_of}
use Rattle.td_plan.specs.inner.Waiting.{seen}

-- a relation, and the places that have it
pub record Group : Type 0 where
  pub relation : List ℕ
  pub places : List ℕ

-- the relation and the places that a `Told` holds
abbrev pub seen_told : Told → Group
seen_told t = record { relation = string_bytes t.relation; places = t.places.items }

-- the relation of a place, with all places that have it
abbrev pub group_of : WaitingAt → List WaitingAt → Group
group_of w mine = record { relation = relation_of w.waits; places = map (λ v. v.place) mine }

-- each different relation with its places, in the order of the first of them; without the relations
-- of the places before
abbrev pub groups : List WaitingAt → List WaitingAt → List Group
groups before [] = []
groups before (w ∷ after) =
    (if list_any (is_alike w) before then []
    else group_of w (filter (is_alike w) (w ∷ after)) ∷ [])
    ++ groups (before ++ w ∷ []) after

-- groups with a place more at its relation, or with that relation after the others
abbrev pub with_place : List ℕ → ℕ → List Group → List Group
with_place relation place [] = record { relation = relation; places = place ∷ [] } ∷ []
with_place relation place (g ∷ groups) = if bytes_eq g.relation relation
    then record { relation = g.relation; places = g.places ++ place ∷ [] } ∷ groups
    else g ∷ with_place relation place groups

-- what a source waits for at each place, from one place on
abbrev pub waiting_from : ℕ → List Waits → List WaitingAt
waiting_from place [] = []
waiting_from place (w ∷ ws) =
    record { place = place; waits = map seen w.waits.items } ∷ waiting_from (place + 1) ws
