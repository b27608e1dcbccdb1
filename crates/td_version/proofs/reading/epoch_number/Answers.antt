-- `epoch_number`: the clause `value`.
use Rattle.std.proofs.Common.{◌≢◌, get_or, sym, ◌∙◌, refl, arith, lit<}
use Rattle.std.proofs.lemmas.Bool.{le-leb, lt-leb, false≢true}
use Rattle.std.proofs.lemmas.Str.Pattern.{starts_char}
use Rattle.td_version.proofs.Epoch.{signed, parsed, unparsed}
use Rattle.td_version.proofs.reading.epoch_number.Goals as goal

pub returns-then-starts_with-clause-value : goal.returns-then-starts_with-clause-value
returns-then-starts_with-clause-value c =
    sym (signed c.args.digits.now
    ((starts_char 43 c.args.digits.now c.starts_with.result c.starts_with.ensures.cases (lit< tt)
    (lit< tt)).0 c.if-starts_with.true))

pub returns-in-Ok-clause-value : goal.returns-in-Ok-clause-value
returns-in-Ok-clause-value c =
    let plus = starts_char 43 c.args.digits.now c.starts_with.result c.starts_with.ensures.cases
    (lit< tt) (lit< tt) in
    let free : get_or c.args.digits.now 0 0 ≢ 43 =
    λ e. false≢true (sym c.if-starts_with.false ∙ plus.1 e) in
    sym (parsed c.args.digits.now c.in-Ok.number c.in-Ok.ensures.value.0 free
    ∙ rw (le-leb c.in-Ok.number 2147483647 (omega arith)) refl)

pub returns-in_default-clause-value : goal.returns-in_default-clause-value
returns-in_default-clause-value c =
    let plus = starts_char 43 c.args.digits.now c.starts_with.result c.starts_with.ensures.cases
    (lit< tt) (lit< tt) in
    let free : get_or c.args.digits.now 0 0 ≢ 43 =
    λ e. false≢true (sym c.if-starts_with.false ∙ plus.1 e) in
    sym (parsed c.args.digits.now c.in-Ok.number c.in-Ok.ensures.value.0 free
    ∙ rw (lt-leb c.in-Ok.number 2147483647 (omega arith)) refl)

pub returns-in_default-2-clause-value : goal.returns-in_default-2-clause-value
returns-in_default-2-clause-value c =
    let plus = starts_char 43 c.args.digits.now c.starts_with.result c.starts_with.ensures.cases
    (lit< tt) (lit< tt) in
    let free : get_or c.args.digits.now 0 0 ≢ 43 =
    λ e. false≢true (sym c.if-starts_with.false ∙ plus.1 e) in
    sym (unparsed c.args.digits.now c.in_default.ensures.value.0 free)
