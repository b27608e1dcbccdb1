-- `group_end`: what stands behind the end.
use Rattle.std.proofs.Common.{◌≡◌, ◌<◌, ◌≤◌, ℕ, List, ap, get_or, length, sym, arith}
use Rattle.std.proofs.lemmas.List.{get_or_default}
use Rattle.td_plan.specs.declared.asks.Ask.{Ask}
use Rattle.td_plan.specs.inner.Asking.{IsByOwner}
use Rattle.td_plan.proofs.waits.group_end.Goals as goal

-- the owner at the end is another one, so it and all behind it are greater
past : (asks : List Ask) (start end : ℕ) (e : Ask) → IsByOwner asks → start < end
    → ¬ ((get_or asks end e).owner ≡ (get_or asks start e).owner) → (k : ℕ) (d : Ask) → end ≤ k
    → k < length asks → (get_or asks start d).owner < (get_or asks k d).owner
past asks start end e sorted low other k d up within =
    let first = sorted start end e (omega arith) (omega arith) in
    let rest = sorted end k e up within in
    let apart : ¬ ((get_or asks start e).owner ≡ (get_or asks end e).owner) =
    λ same. other (sym same) in
    let mine = ap (λ (a : Ask). a.owner) (get_or_default asks start d e (omega arith)) in
    let its = ap (λ (a : Ask). a.owner) (get_or_default asks k d e within) in
    omega (arith, first, rest, apart, mine, its)

pub returns-else-asks-end-clause-whole : goal.returns-else-asks-end-clause-whole
returns-else-asks-end-clause-whole c = λ sorted k d up within.
    past c.args.asks.now c.args.start c.loop-end.end _ sorted c.loop-end.invariant.after
    c.if-asks-end.false k d up within
