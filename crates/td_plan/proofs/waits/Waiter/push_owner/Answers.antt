-- `Waiter::push_owner`: the wait for the owner of the asks.
use Rattle.std.proofs.Common.{◌≡◌, ◌∷◌, [], ℕ, Some, ap, get_or, subst, sym, ◌∙◌, arith}
use Rattle.std.proofs.lemmas.Option.{get_or_from_slice_get, slice_get_within}
use Rattle.std.proofs.lemmas.Result.{on_ok_weaker}
use Rattle.td_plan.specs.declared.movers.Mover.{Mover}
use Rattle.td_plan.specs.inner.Waiters.{AreAdded, is_of_part, kept_of}
use Rattle.td_plan.proofs.WaitSteps.{added-beside, owner-first}
use Rattle.td_plan.proofs.waits.Waiter.push_owner.Goals as goal

pub returns-then-number-self : goal.returns-then-number-self
returns-then-number-self c = λ p beside s j t is at are.
    let own = owner-first p beside s c.args.self.now is j t at c.args.asks.now are c.requires
    c.first_owner-number.result c.first_owner-number.ensures in
    let low = slice_get_within c.args.self.now.movers.now j t at in
    absurd (omega arith)

pub returns-then-is_beside : goal.returns-then-is_beside
returns-then-is_beside c = λ p beside s j t is at are.
    let w = c.args.self.now in
    let own = owner-first p beside s w is j t at c.args.asks.now are c.requires
    c.first_owner-number.result c.first_owner-number.ensures in
    added-beside p beside s w is j t at c.args.asks.now are c.requires c.args.found.now
    (ap (is_of_part w.firsts.now w.mover) (sym own) ∙ sym c.is_beside.ensures ∙ c.if-is_beside.true)

pub returns : goal.returns
returns c = on_ok_weaker c.push_wait.result (λ added p beside s j t is at are.
    let w = c.args.self.now in
    let own = owner-first p beside s w is j t at c.args.asks.now are c.requires
    c.first_owner-number.result c.first_owner-number.ensures in
    let own-at = c.index-self-number.result in
    let owner = get_or w.movers.now c.first_owner-number.result own-at in
    let same : owner ≡ t = ap (λ (n : ℕ). get_or w.movers.now n own-at) own
    ∙ get_or_from_slice_get w.movers.now j t own-at at in
    let part = ap (is_of_part w.firsts.now w.mover) (sym own) ∙ sym c.is_beside.ensures
    ∙ c.if-is_beside.false in
    subst (λ (m : Mover). AreAdded p beside s w.place (kept_of m ∷ []) c.args.found.now
    c.push_wait.new.found) same
    (added p beside s j is (at ∙ ap (λ (m : Mover). Some m) (sym same)) are part))
    c.push_wait.ensures
