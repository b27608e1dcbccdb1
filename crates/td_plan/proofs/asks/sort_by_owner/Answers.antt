-- `sort_by_owner`: its clauses.
use Rattle.std.proofs.Common.{rules, sym}
use Rattle.std.proofs.lemmas.List.Sorted.{IsNonDecreasingBy-from_sort_by_key}
use Rattle.std.proofs.lemmas.List.Sorted.{list_any-IsPermutation}
use Rattle.td_plan.specs.declared.asks.Ask.{Ask}
use Rattle.td_plan.proofs.asks.sort_by_owner.Goals as goal

pub returns-clause-same : goal.returns-clause-same
returns-clause-same c = λ test.
    sym (list_any-IsPermutation test c.args.asks.now.items c.sort_unstable_by_key.new.self.items
    c.sort_unstable_by_key.ensures.permutation)

pub returns-clause-in_order : goal.returns-clause-in_order
returns-clause-in_order c =
    IsNonDecreasingBy-from_sort_by_key (λ (ask : Ask). ask.owner) _
    c.sort_unstable_by_key.ensures.sorted (λ a r q k. search rules)
