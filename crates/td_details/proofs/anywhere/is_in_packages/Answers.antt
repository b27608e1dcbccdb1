-- `is_in_packages`: the first stanza that has the field, or none.
use Rattle.std.proofs.Common.{◌<◌, ◌≤◌, ◌∙◌, Bool, arith, length, sym}
use Rattle.td_indices.specs.Stanzas.{package_fields}
use Rattle.td_indices.specs.Kept.{KeptBinary}
use Rattle.td_details.specs.Swapped.{has_field}
use Rattle.td_details.proofs.Seeking.{found_here, found_not_yet, found_nowhere}
use Rattle.td_details.proofs.anywhere.is_in_packages.Goals as goal

pub returns-then-package_has : goal.returns-then-package_has
returns-then-package_has c =
    let a = c.args.archive.now in
    let has : KeptBinary → Bool = λ s. has_field (package_fields a s) c.args.field.now in
    let within : c.loop-number.number < length a.binaries =
    omega (arith, c.loop-number-test.true, c.binary_count-number-end.ensures) in
    found_here has a.binaries c.loop-number.number within c.loop-number.invariant
    (sym c.package_has.ensures ∙ c.if-package_has.true)

pub loop-number-preserved : goal.loop-number-preserved
loop-number-preserved c =
    let a = c.args.archive.now in
    let has : KeptBinary → Bool = λ s. has_field (package_fields a s) c.args.field.now in
    let within : c.loop-number.number < length a.binaries =
    omega (arith, c.loop-number-test.true, c.binary_count-number-end.ensures) in
    found_not_yet has a.binaries c.loop-number.number within c.loop-number.invariant
    (sym c.package_has.ensures ∙ c.if-package_has.false)

pub returns : goal.returns
returns c =
    let a = c.args.archive.now in
    let has : KeptBinary → Bool = λ s. has_field (package_fields a s) c.args.field.now in
    let past : length a.binaries ≤ c.loop-number.number = omega arith in
    found_nowhere has a.binaries c.loop-number.number past c.loop-number.invariant
