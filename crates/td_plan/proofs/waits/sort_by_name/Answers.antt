-- `sort_by_name`: the clause `sorted`.
use Rattle.std.proofs.Common.{rules}
use Rattle.std.specs.Cmp.Lexicographic.{slice_cmp}
use Rattle.std.specs.Ordering.{is_lt, nat_cmp}
use Rattle.std.proofs.lemmas.Cmp.{nat_list_cmp_total}
use Rattle.std.proofs.lemmas.List.Sorted.{answers_always, ranks_by}
use Rattle.td_plan.specs.declared.waits.Wait.{Wait}
use Rattle.td_plan.proofs.waits.sort_by_name.Goals as goal

pub returns-clause-sorted : goal.returns-clause-sorted
returns-clause-sorted c = c.sort_unstable_by.ensures.sorted
    (λ (v w : Wait). is_lt (slice_cmp nat_cmp v.name.now w.name.now))
    (ranks_by nat_list_cmp_total (λ (w : Wait). w.name.now))
    (answers_always _ _ _ (λ f a r g h. search rules))
