-- `sort_ready`: the clause `order`.
use Rattle.std.proofs.Common.{ℕ, ℤ, rules}
use Rattle.std.proofs.lemmas.Fn.{always_returns_same}
use Rattle.std.specs.declared.cmp.Reverse.{Reverse}
use Rattle.td_book.specs.Ready.{priority_of}
use Rattle.td_book.proofs.waiting.sort_ready.Goals as goal

pub returns-clause-order : goal.returns-clause-order
returns-clause-order c =
    let key : ℕ → Reverse ℤ × ℕ = λ i. (record { 0 = priority_of c.args.rows.now i }, i) in
    c.sort_unstable_by_key.ensures.sorted key (always_returns_same _ _ _ (λ a r g h. search rules))
