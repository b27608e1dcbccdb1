-- Which texts are refused as empty: those without any member. That members of only whitespace are
-- skipped is this project's own.
use Rattle.std.specs.Prelude.{◌≡◌, ◌↔◌, ◌==◌, ◌||◌, ℕ, Bool, true, List, Err}
use Rattle.std.specs.List.{list_all}
use Rattle.td_text.specs.Runs.{is_space}
use Rattle.td_relation.specs.declared.relation_fault.RelationFault.TheVariants.{Empty}
use Rattle.td_relation.specs.RelationGrammar.{relation_at}

-- a comma, or whitespace
abbrev pub parts_members : ℕ → Bool
parts_members b = (b == 44) || is_space b

-- a text is refused as empty if and only if it has only commas and whitespace, or nothing
abbrev pub EmptyRelationsAreExact : Type 0
EmptyRelationsAreExact =
    (text : List ℕ) → (relation_at text ≡ Err Empty) ↔ (list_all parts_members text ≡ true)
