-- `sort_numbers`: the clauses `rising` and `same`.
use Rattle.std.proofs.Common.{ℕ, List, sym, subst}
use Rattle.std.specs.List.Sorted.{IsStrictlySortedBy}
use Rattle.std.specs.Ordering.{nat_cmp}
use Rattle.std.proofs.lemmas.List.Filters.{dedup_is}
use Rattle.std.proofs.lemmas.Map.Keys.{IsStrictlyIncreasing-dedup, sorted_from_strictly_increasing}
use Rattle.td_naming.proofs.Numbered.{names_sorted}
use Rattle.td_naming.proofs.naming.sort_numbers.Goals as goal

pub returns-clause-rising : goal.returns-clause-rising
returns-clause-rising c =
    subst (λ (ns : List ℕ). IsStrictlySortedBy nat_cmp ns)
    (sym (dedup_is _ _ _ c.dedup.ensures.filtered))
    (sorted_from_strictly_increasing _
    (IsStrictlyIncreasing-dedup _ c.sort_unstable.ensures.sorted))

pub returns-clause-same : goal.returns-clause-same
returns-clause-same c t k =
    names_sorted t k c.args.numbers.now.items c.sort_unstable.new.self.items c.dedup.new.self.items
    c.sort_unstable.ensures.permutation (dedup_is _ _ _ c.dedup.ensures.filtered)
