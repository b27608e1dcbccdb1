-- `Share::push_source`: what it answers.
use Rattle.std.proofs.Common.{ℕ, List, ◌||◌, ap, ◌∙◌, arith}
use Rattle.std.specs.List.{list_any}
use Rattle.std.proofs.lemmas.List.{take_all}
use Rattle.td_plan.specs.inner.Providing.{passes_numbered, shared_under}
use Rattle.td_plan.proofs.providers.Share.push_source.Goals as goal

pub returns : goal.returns
returns c = λ q test.
    let a = c.args.archive.now in
    let old = list_any test (shared_under c.args.self.now q) in
    c.loop-number.invariant q test
    ∙ ap (λ (l : List ℕ). old || list_any (passes_numbered a q test c.args.owner) l)
    (take_all c.loop-number.number-index c.packages_of-packages.result.now
    (omega (arith, c.loop-number-test.false)) ∙ c.packages_of-packages.ensures.numbers)
