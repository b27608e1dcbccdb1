-- `next_provided`: its loop and what it answers.
use Rattle.std.proofs.Common.{◌≡◌, ℕ, List, [], ◌∷◌, ◌++◌, map, refl, sym, ap, ◌∙◌}
use Rattle.std.specs.List.{flat_map}
use Rattle.std.proofs.lemmas.List.Concat.{flat_map-cons}
use Rattle.td_relation.specs.Asked.{Asked, asked}
use Rattle.td_relation.specs.MembersLeft.{members_left}
use Rattle.td_indices.specs.OfferedNames.{provided_names}
use Rattle.td_indices.proofs.offered_names.next_provided.Goals as goal

-- the names of members, of which one is taken
taken : (m : List Asked) (left rest : List (List Asked)) (names : List (List ℕ)) → left ≡ m ∷ rest
    → provided_names m ≡ names
    → flat_map provided_names left ≡ names ++ flat_map provided_names rest
taken m left rest names is own =
    ap (flat_map provided_names) is ∙ flat_map-cons provided_names m rest
    ∙ ap (λ (l : List (List ℕ)). l ++ flat_map provided_names rest) own

pub loop-member-init : goal.loop-member-init
loop-member-init c = refl

pub returns-in-Some-provided_name : goal.returns-in-Some-provided_name
returns-in-Some-provided_name c =
    sym c.loop-member.invariant
    ∙ taken (map asked c.in-Some.member.now) (members_left c.loop-member.members)
    (members_left c.next.new.self) (c.in-Some-provided_name.name.now ∷ []) c.in-Some.ensures.steps
    c.in-Some-provided_name.ensures

pub loop-member-preserved : goal.loop-member-preserved
loop-member-preserved c =
    sym (taken (map asked c.in-Some.member.now) (members_left c.loop-member.members)
    (members_left c.next.new.self) [] c.in-Some.ensures.steps c.in_default-provided_name.ensures)
    ∙ c.loop-member.invariant

pub returns : goal.returns
returns c = (
  sym c.loop-member.invariant ∙ ap (flat_map provided_names) c.in_default.ensures.steps.0,
  ap (flat_map provided_names) c.in_default.ensures.steps.1,
)
