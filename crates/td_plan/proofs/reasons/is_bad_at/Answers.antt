-- `is_bad_at`: what it answers.
use Rattle.std.proofs.Common.{◌≡◌, ◌∙◌, ◌&&◌, ap, false, true, rules, slice_get, sym}
use Rattle.std.specs.Option.{option_map_or}
use Rattle.td_indices.specs.Kept.{KeptBinary}
use Rattle.td_indices.specs.PackageKeys.{same_home}
use Rattle.td_indices.specs.Seen.{BinarySeen}
use Rattle.td_plan.specs.Premises.{is_bad}
use Rattle.td_plan.proofs.OnInputs.{on_inputs, premises_of}
use Rattle.td_plan.proofs.Seeing.{found-both, found-none, not-both}
use Rattle.td_plan.proofs.reasons.is_bad_at.Goals as goal

pub returns-then-not-is_bad : goal.returns-then-not-is_bad
returns-then-not-is_bad c = λ p of.
    let there = λ (b : KeptBinary). same_home b.head.home c.args.home in
    let no : c.is_bad.result ≡ false = search rules in
    sym (not-both (slice_get p.archive.binaries c.args.number) there (is_bad p)
    (sym (c.is_bad.ensures p of) ∙ no))

pub returns-in-Some : goal.returns-in-Some
returns-in-Some c =
    let x = c.args.inputs.now in
    let there = λ (b : KeptBinary). same_home b.head.home c.args.home in
    let yes : c.is_bad.result ≡ true = search rules in
    on_inputs x (λ p. c.eq.result
    ≡ option_map_or (λ b. there b && is_bad p b) (slice_get p.archive.binaries c.args.number) false)
    (λ t for.
    let q = premises_of x t in
    found-both (slice_get x.archive.now.binaries c.args.number) c.in-Some.binary there (is_bad q)
    c.eq.result c.in-Some.ensures (sym (c.is_bad.ensures q for) ∙ yes)
    (λ b e. c.eq.ensures ∙ ap (λ (y : BinarySeen). same_home y.head.home c.args.home) e))

pub returns-in-None : goal.returns-in-None
returns-in-None c =
    let x = c.args.inputs.now in
    let there = λ (b : KeptBinary). same_home b.head.home c.args.home in
    on_inputs x (λ p. false
    ≡ option_map_or (λ b. there b && is_bad p b) (slice_get p.archive.binaries c.args.number) false)
    (λ t for. found-none (slice_get x.archive.now.binaries c.args.number)
    (λ b. there b && is_bad (premises_of x t) b) c.in-None.ensures)
