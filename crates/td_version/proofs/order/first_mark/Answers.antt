-- `first_mark`: what it answers.
use Rattle.std.proofs.Common.{◌≡◌, ◌∙◌, sym, refl, false, true, get_or, arith}
use Rattle.std.specs.Char.{is_ascii_digit}
use Rattle.td_version.proofs.Comparing.{first_mark_at, first_mark_empty}
use Rattle.td_version.proofs.order.first_mark.Goals as goal

pub returns-in-len1-up : goal.returns-in-len1-up
returns-in-len1-up c =
    let symbol : is_ascii_digit (get_or c.args.part.now 0 0) ≡ false =
    sym c.is_ascii_digit.ensures.value ∙ c.if-not-is_ascii_digit.true in
    rw (first_mark_at c.args.part.now (omega arith), symbol) c.mark_of.ensures

pub returns-in_default : goal.returns-in_default
returns-in_default c = sym (first_mark_empty c.args.part.now (omega arith))

pub returns-in_default-2 : goal.returns-in_default-2
returns-in_default-2 c =
    let digit : is_ascii_digit (get_or c.args.part.now 0 0) ≡ true =
    sym c.is_ascii_digit.ensures.value ∙ c.if-not-is_ascii_digit.false in
    rw (first_mark_at c.args.part.now (omega arith), digit) refl
