-- `has_bad_package`: what it answers.
use Rattle.std.proofs.Common.{◌≡◌, ◌∙◌, ◌&&◌, true, false, ap, arith, rules, sym}
use Rattle.std.proofs.Common.{take, take_all}
use Rattle.std.specs.List.{list_any}
use Rattle.td_indices.specs.Opening.{is_current}
use Rattle.td_waves.proofs.Passing.{any-at}
use Rattle.td_plan.specs.Due.{is_present}
use Rattle.td_plan.specs.Premises.{is_bad}
use Rattle.td_plan.specs.inner.Inputs.{kept_source}
use Rattle.td_plan.proofs.OnInputs.{on_inputs, premises_of}
use Rattle.td_plan.proofs.Picking.{any-of_source_both, passes_at}
use Rattle.td_plan.proofs.due.has_bad_package.Goals as goal

pub returns-then-is_bad_there : goal.returns-then-is_bad_there
returns-then-is_bad_there c =
    let x = c.args.inputs.now in
    let s = kept_source c.args.source.now in
    let place = c.args.place in
    let current = is_current s.head.parts place in
    let numbers = c.packages_of-number-items.result.now in
    let yes : c.is_bad_there.result ≡ true = search rules in
    on_inputs x (λ p. true ≡ list_any (λ b. is_present s place b && is_bad p b) p.archive.binaries)
    (λ t for.
    let q = premises_of x t in
    let test = passes_at q.archive (λ b. current b && is_bad q b) in
    sym (sym (any-of_source_both q.archive s.head.name current (is_bad q))
    ∙ ap (list_any test) (sym c.packages_of-number-items.ensures.numbers)
    ∙ any-at test numbers c.loop-number.number-index 0 c.loop-number-test.true
    (sym (c.is_bad_there.ensures q for) ∙ yes)))

pub returns : goal.returns
returns c =
    let x = c.args.inputs.now in
    let s = kept_source c.args.source.now in
    let place = c.args.place in
    let current = is_current s.head.parts place in
    let numbers = c.packages_of-number-items.result.now in
    let all : take c.loop-number.number-index numbers ≡ numbers =
    take_all c.loop-number.number-index numbers (omega arith) in
    on_inputs x (λ p. false ≡ list_any (λ b. is_present s place b && is_bad p b) p.archive.binaries)
    (λ t for.
    let q = premises_of x t in
    let test = passes_at q.archive (λ b. current b && is_bad q b) in
    sym (sym (any-of_source_both q.archive s.head.name current (is_bad q))
    ∙ ap (list_any test) (sym c.packages_of-number-items.ensures.numbers ∙ sym all)
    ∙ c.loop-number.invariant q for))
