-- `Providers::push_source`: what it answers.
use Rattle.std.proofs.Common.{◌||◌, ap, ◌∙◌, arith}
use Rattle.std.specs.List.{list_any}
use Rattle.std.proofs.lemmas.List.{take_all}
use Rattle.td_indices.specs.Archive.{is_of}
use Rattle.td_waves.specs.Providers.{passes_numbered, passes_under, under}
use Rattle.td_waves.proofs.Places.{any-selected}
use Rattle.td_waves.proofs.providers.Providers.push_source.Goals as goal

pub returns : goal.returns
returns c = λ q test.
    let a = c.args.archive.now in
    let old = list_any test (under c.args.self.now q) in
    c.loop-number.invariant q test
    ∙ ap (λ l. old || list_any (passes_numbered a q test c.args.owner) l)
    (take_all c.loop-number.number-index c.packages_of-numbers.result.now
    (omega (arith, c.loop-number-test.false)) ∙ c.packages_of-numbers.ensures.numbers)
    ∙ ap (λ b. old || b) (any-selected (passes_under q test c.args.owner)
    (is_of c.args.source.now) a.binaries)
