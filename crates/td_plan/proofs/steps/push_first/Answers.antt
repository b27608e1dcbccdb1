-- `push_first`: the clause `lists`.
use Rattle.std.proofs.Common.{◌≡◌, ◌∙◌, List, None, Option, Some, ap, arith, slice_get, sym, ℕ}
use Rattle.std.specs.Borrow.{Bor}
use Rattle.std.specs.Slice.{IsItemAt}
use Rattle.std.specs.Prelude.{option_map}
use Rattle.std.proofs.lemmas.Result.{on_ok_weaker}
use Rattle.td_plan.proofs.SourcePlaces.{item-at}
use Rattle.td_plan.proofs.StepFirsts.{first-passed, first-pushed}
use Rattle.td_plan.proofs.Waiters.{at-below}
use Rattle.td_plan.proofs.steps.push_first.Goals as goal

-- what a call finds in a list that it was lent
found : (xs ys : List ℕ) (i : ℕ) (r : Option (Bor ℕ)) → IsItemAt xs i r → xs ≡ ys
    → option_map (λ (x : Bor ℕ). x.now) r ≡ slice_get ys i
found xs ys i r is same = item-at xs i r is ∙ ap (λ (l : List ℕ). slice_get l i) same

pub returns-in_default-clause-lists : goal.returns-in_default-clause-lists
returns-in_default-clause-lists c = λ sized low k within.
    let firsts = c.args.parts.now.firsts.items in
    let first = at-below firsts c.args.number low in
    absurd (let bad : None ≡ Some first.0 =
    found c.deref.result.now firsts c.args.number None c.in_default.ensures.lookup
    c.deref.ensures.value ∙ first.1 in cc)

pub returns-then-first-number-clause-lists : goal.returns-then-first-number-clause-lists
returns-then-first-number-clause-lists c = λ sized low k within.
    let parts = c.args.parts.now in
    first-passed parts c.args.number c.in-Some.first.now k _
    (sym (found c.deref.result.now parts.firsts.items c.args.number (Some c.in-Some.first)
    c.in-Some.ensures.lookup c.deref.ensures.value)) c.if-first-number.true

pub returns-in-None-clause-lists : goal.returns-in-None-clause-lists
returns-in-None-clause-lists c = λ sized low k within.
    let steps = c.args.parts.now.steps.items in
    let step = at-below steps c.args.number (omega (arith, sized.steps, low)) in
    absurd (let bad : None ≡ Some step.0 =
    found c.deref-2.result.now steps c.args.number None c.in-None.ensures.lookup
    c.deref-2.ensures.value ∙ step.1 in cc)

pub returns-in-Some-get-clause-lists : goal.returns-in-Some-get-clause-lists
returns-in-Some-get-clause-lists c =
    let parts = c.args.parts.now in
    let number = c.args.number in
    let first = sym (found c.deref.result.now parts.firsts.items number (Some c.in-Some.first)
    c.in-Some.ensures.lookup c.deref.ensures.value) in
    let step = sym (found c.deref-2.result.now parts.steps.items number (Some c.in-Some-get.step)
    c.in-Some-get.ensures.lookup c.deref-2.ensures.value) in
    on_ok_weaker c.push_member.result (λ lists sized low k within.
    first-pushed parts number c.in-Some.first.now c.in-Some-get.step.now k _ _ first step
    (omega arith) (lists k within)) c.push_member.ensures.lists
