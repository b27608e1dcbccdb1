-- `is_in_sources`: the first stanza that has the field, or none.
use Rattle.std.proofs.Common.{◌<◌, ◌≤◌, ◌∙◌, Bool, arith, length, sym}
use Rattle.td_indices.specs.Stanzas.{source_fields}
use Rattle.td_indices.specs.Sources.{KeptSource}
use Rattle.td_details.specs.Swapped.{has_field}
use Rattle.td_details.proofs.Seeking.{found_here, found_not_yet, found_nowhere}
use Rattle.td_details.proofs.anywhere.is_in_sources.Goals as goal

pub returns-then-source_has : goal.returns-then-source_has
returns-then-source_has c =
    let a = c.args.archive.now in
    let has : KeptSource → Bool = λ s. has_field (source_fields a s) c.args.field.now in
    let within : c.loop-number.number < length a.sources =
    omega (arith, c.loop-number-test.true, c.source_count-number-end.ensures) in
    found_here has a.sources c.loop-number.number within c.loop-number.invariant
    (sym c.source_has.ensures ∙ c.if-source_has.true)

pub loop-number-preserved : goal.loop-number-preserved
loop-number-preserved c =
    let a = c.args.archive.now in
    let has : KeptSource → Bool = λ s. has_field (source_fields a s) c.args.field.now in
    let within : c.loop-number.number < length a.sources =
    omega (arith, c.loop-number-test.true, c.source_count-number-end.ensures) in
    found_not_yet has a.sources c.loop-number.number within c.loop-number.invariant
    (sym c.source_has.ensures ∙ c.if-source_has.false)

pub returns : goal.returns
returns c =
    let a = c.args.archive.now in
    let has : KeptSource → Bool = λ s. has_field (source_fields a s) c.args.field.now in
    let past : length a.sources ≤ c.loop-number.number = omega arith in
    found_nowhere has a.sources c.loop-number.number past c.loop-number.invariant
