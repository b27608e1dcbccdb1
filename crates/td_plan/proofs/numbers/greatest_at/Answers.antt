-- `greatest_at`: what it answers.
use Rattle.std.proofs.Common.{◌≡◌, ◌∙◌, ap, ℕ, Option, option_map, refl}
use Rattle.td_rows.specs.declared.row.Row.{Row}
use Rattle.td_indices.specs.Opening.{current_numbers, greatest, greatest_at}
use Rattle.td_indices.proofs.Greatest.{greatest-group}
use Rattle.td_plan.specs.Numbers.{numbers_at}
use Rattle.td_plan.specs.Premises.{row_at}
use Rattle.td_plan.specs.inner.Inputs.{kept_source}
use Rattle.td_plan.proofs.Numbering.{greatest-row}
use Rattle.td_plan.proofs.OnInputs.{on_inputs, premises_of}
use Rattle.td_plan.proofs.numbers.greatest_at.Goals as goal

pub returns-clause-is : goal.returns-clause-is
returns-clause-is c =
    let x = c.args.inputs.now in
    let s = kept_source c.args.source.now in
    let a = x.archive.now in
    let place = c.args.place in
    λ p of. on_inputs x (λ q. c.greatest_among.result ≡ greatest (numbers_at q s place))
    (λ t for.
    let q = premises_of x t in
    c.greatest_among.ensures.is
    ∙ ap (λ (o : Option ℕ). greatest_at a.binaries s.head.parts place o
    c.packages_of-numbers.result.now)
    (c.row_number-own.ensures.is ∙ ap (λ (r : Option Row). option_map (λ w. w.number) r)
    c.row.ensures)
    ∙ ap (greatest_at a.binaries s.head.parts place
    (option_map (λ w. w.number) (row_at q s place))) c.packages_of-numbers.ensures.numbers
    ∙ greatest-group s.head.name s.head.parts place a.binaries a.binaries 0
    (option_map (λ w. w.number) (row_at q s place)) refl
    ∙ greatest-row (row_at q s place) (current_numbers a s place)) p of
