-- `affected_names`: its clauses.
use Rattle.std.proofs.Common.{◌≡◌, List, arith, map, subst, ℕ}
use Rattle.std.specs.Borrow.{Bor}
use Rattle.std.specs.List.Sorted.{IsPermutation}
use Rattle.std.proofs.lemmas.List.Sorted.{IsPermutation-map}
use Rattle.td_query.specs.Statuses.{affected_names}
use Rattle.td_plan.proofs.AffectedNames.{sorted-texts}
use Rattle.td_plan.proofs.affected.affected_names.Goals as goal

pub returns-clause-all : goal.returns-clause-all
returns-clause-all g c = λ t of.
    let text = λ (name : Bor (List ℕ)). name.now in
    let sorted = c.sort_unstable.new.self.items in
    let named : map text c.in_ok-names.names.items ≡ affected_names c.args.archive.now t =
    c.in_ok-names.ensures.names t of in
    subst (λ (l : List (List ℕ)). IsPermutation l (map text sorted)) named
    (IsPermutation-map text c.in_ok-names.names.items sorted c.sort_unstable.ensures.permutation)

pub returns-clause-in_order : goal.returns-clause-in_order
returns-clause-in_order g c = sorted-texts c.sort_unstable.new.self.items
    (λ k d high. c.sort_unstable.ensures.sorted k d (omega arith) high)
