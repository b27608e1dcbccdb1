-- `has_bad`: what it answers.
use Rattle.std.proofs.Common.{◌≡◌, ◌∙◌, ◌&&◌, true, false, ap, arith, rules, sym, take, take_all}
use Rattle.std.specs.List.{list_any}
use Rattle.td_indices.specs.Archive.{is_of}
use Rattle.td_indices.specs.Kept.{KeptBinary}
use Rattle.td_indices.specs.PackageKeys.{same_home}
use Rattle.td_waves.proofs.Passing.{any-at}
use Rattle.td_plan.specs.Premises.{is_bad}
use Rattle.td_plan.proofs.OnInputs.{on_inputs, premises_of}
use Rattle.td_plan.proofs.Picking.{any-of_source, passes_at}
use Rattle.td_plan.proofs.reasons.has_bad.Goals as goal

pub returns-then-is_bad_at : goal.returns-then-is_bad_at
returns-then-is_bad_at c =
    let x = c.args.inputs.now in
    let name = c.args.source.now in
    let there = λ (b : KeptBinary). same_home b.head.home c.args.home in
    let numbers = c.packages_of-number-items.result.now in
    let yes : c.is_bad_at.result ≡ true = search rules in
    on_inputs x (λ p. true ≡ list_any (λ b. is_of name b && (there b && is_bad p b))
    p.archive.binaries) (λ t for.
    let q = premises_of x t in
    let test = passes_at q.archive (λ b. there b && is_bad q b) in
    sym (sym (any-of_source q.archive name (λ b. there b && is_bad q b))
    ∙ ap (list_any test) (sym c.packages_of-number-items.ensures.numbers)
    ∙ any-at test numbers c.loop-number.number-index 0 c.loop-number-test.true
    (sym (c.is_bad_at.ensures q for) ∙ yes)))

pub returns : goal.returns
returns c =
    let x = c.args.inputs.now in
    let name = c.args.source.now in
    let there = λ (b : KeptBinary). same_home b.head.home c.args.home in
    let numbers = c.packages_of-number-items.result.now in
    let all : take c.loop-number.number-index numbers ≡ numbers =
    take_all c.loop-number.number-index numbers (omega arith) in
    on_inputs x (λ p. false ≡ list_any (λ b. is_of name b && (there b && is_bad p b))
    p.archive.binaries) (λ t for.
    let q = premises_of x t in
    let test = passes_at q.archive (λ b. there b && is_bad q b) in
    sym (sym (any-of_source q.archive name (λ b. there b && is_bad q b))
    ∙ ap (list_any test) (sym c.packages_of-number-items.ensures.numbers ∙ sym all)
    ∙ c.loop-number.invariant q for))
