-- `is_built`: what it answers.
use Rattle.std.proofs.Common.{◌∙◌, arith, sym}
use Rattle.td_version.specs.Version.{parts_of}
use Rattle.td_details.proofs.NeedsBuild.{built_found, built_nowhere}
use Rattle.td_details.proofs.queued.is_built.Goals as goal

pub returns-then-is_current : goal.returns-then-is_current
returns-then-is_current c =
    let source = c.args.source.now in
    built_found c.args.archive.now source.name.now (parts_of source.parts) c.args.place
    c.packages_of-number-items.result.now c.loop-number.number-index
    c.packages_of-number-items.ensures.numbers (omega arith)
    (sym c.is_current.ensures ∙ c.if-is_current.true)

pub returns : goal.returns
returns c =
    let source = c.args.source.now in
    built_nowhere c.args.archive.now source.name.now (parts_of source.parts) c.args.place
    c.packages_of-number-items.result.now c.loop-number.number-index
    c.packages_of-number-items.ensures.numbers (omega arith) c.loop-number.invariant
