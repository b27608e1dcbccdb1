-- `is_bad_there`: what it answers.
use Rattle.std.proofs.Common.{◌≡◌, ◌∙◌, ◌&&◌, false, true, rules, slice_get, sym}
use Rattle.std.specs.Option.{option_map_or}
use Rattle.td_indices.specs.Opening.{is_current}
use Rattle.td_version.specs.Version.{parts_of}
use Rattle.td_plan.specs.Premises.{is_bad}
use Rattle.td_plan.proofs.OnInputs.{on_inputs, premises_of}
use Rattle.td_plan.proofs.Seeing.{found-both, found-none, not-both}
use Rattle.td_plan.proofs.due.is_bad_there.Goals as goal

pub returns-then-not-is_bad : goal.returns-then-not-is_bad
returns-then-not-is_bad c = λ p of.
    let current = is_current (parts_of c.args.source.now.parts) c.args.place in
    let no : c.is_bad.result ≡ false = search rules in
    sym (not-both (slice_get p.archive.binaries c.args.number) current (is_bad p)
    (sym (c.is_bad.ensures p of) ∙ no))

pub returns-in-Some : goal.returns-in-Some
returns-in-Some c =
    let x = c.args.inputs.now in
    let current = is_current (parts_of c.args.source.now.parts) c.args.place in
    let yes : c.is_bad.result ≡ true = search rules in
    on_inputs x (λ p. c.is_present.result
    ≡ option_map_or (λ b. current b && is_bad p b) (slice_get p.archive.binaries c.args.number)
    false)
    (λ t for.
    let q = premises_of x t in
    found-both (slice_get x.archive.now.binaries c.args.number) c.in-Some.binary current (is_bad q)
    c.is_present.result c.in-Some.ensures (sym (c.is_bad.ensures q for) ∙ yes)
    c.is_present.ensures)

pub returns-in-None : goal.returns-in-None
returns-in-None c =
    let x = c.args.inputs.now in
    let current = is_current (parts_of c.args.source.now.parts) c.args.place in
    on_inputs x (λ p. false
    ≡ option_map_or (λ b. current b && is_bad p b) (slice_get p.archive.binaries c.args.number)
    false)
    (λ t for. found-none (slice_get x.archive.now.binaries c.args.number)
    (λ b. current b && is_bad (premises_of x t) b) c.in-None.ensures)
