-- `number`: the clause `value`.
use Rattle.std.proofs.Common.{sym, ◌∙◌, refl, arith}
use Rattle.std.proofs.lemmas.Bool.{le-leb, lt-leb}
use Rattle.td_text.proofs.Numbers.{spare_front, parsed, not_parsed}
use Rattle.td_text.proofs.numeral.number.Goals as goal

pub returns-then-has_spare_front-clause-value : goal.returns-then-has_spare_front-clause-value
returns-then-has_spare_front-clause-value c =
    sym (spare_front c.args.max c.args.text.now
    (sym c.has_spare_front.ensures ∙ c.if-has_spare_front.true))

pub returns-in-Ok-clause-value : goal.returns-in-Ok-clause-value
returns-in-Ok-clause-value c =
    sym (parsed c.args.max c.args.text.now c.in-Ok.number c.in-Ok.ensures.value.0
    (sym c.has_spare_front.ensures ∙ c.if-has_spare_front.false)
    ∙ rw (le-leb c.in-Ok.number c.args.max (omega arith)) refl)

pub returns-in_default-clause-value : goal.returns-in_default-clause-value
returns-in_default-clause-value c =
    sym (parsed c.args.max c.args.text.now c.in-Ok.number c.in-Ok.ensures.value.0
    (sym c.has_spare_front.ensures ∙ c.if-has_spare_front.false)
    ∙ rw (lt-leb c.in-Ok.number c.args.max (omega arith)) refl)

pub returns-in_default-2-clause-value : goal.returns-in_default-2-clause-value
returns-in_default-2-clause-value c =
    sym (not_parsed c.args.max c.args.text.now (omega arith) c.in_default.ensures.value.0
    (sym c.has_spare_front.ensures ∙ c.if-has_spare_front.false))
