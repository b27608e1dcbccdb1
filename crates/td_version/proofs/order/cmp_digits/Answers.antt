-- `cmp_digits`: what it answers.
use Rattle.std.proofs.Common.{◌≡◌, ◌∙◌, sym, length}
use Rattle.std.specs.Ordering.{nat_cmp}
use Rattle.std.specs.declared.cmp.Ordering.TheVariants.{Equal}
use Rattle.td_version.specs.Comparing.{without_zeros}
use Rattle.td_version.proofs.Digits.{by_length, by_bytes}
use Rattle.td_version.proofs.order.cmp_digits.Goals as goal

pub returns-in-Equal : goal.returns-in-Equal
returns-in-Equal c =
    let same : nat_cmp (length (without_zeros c.args.a.now)) (length (without_zeros c.args.b.now))
    ≡ Equal =
    rw (← c.without_zeros-a.ensures, ← c.without_zeros-b.ensures)
    (sym c.cmp.ensures ∙ c.in-Equal.is) in
    c.cmp-in-Equal.ensures
    ∙ rw (c.without_zeros-a.ensures, c.without_zeros-b.ensures)
    (by_bytes c.args.a.now c.args.b.now c.requires.a c.requires.b same)

pub returns-in_default : goal.returns-in_default
returns-in_default c =
    let order : c.cmp.result
    ≡ nat_cmp (length (without_zeros c.args.a.now)) (length (without_zeros c.args.b.now)) =
    rw (← c.without_zeros-a.ensures, ← c.without_zeros-b.ensures) c.cmp.ensures in
    order ∙ by_length c.args.a.now c.args.b.now c.requires.a c.requires.b (λ e.
    c.in_default.not-Equal (order ∙ e))
