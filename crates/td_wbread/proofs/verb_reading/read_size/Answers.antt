-- `read_size`: the clause `size`.
use Rattle.std.proofs.Common.{◌≢◌, get_or, sym, ◌∙◌, refl, arith, lit<}
use Rattle.std.proofs.lemmas.Bool.{le-leb, lt-leb, false≢true}
use Rattle.std.proofs.lemmas.Str.Pattern.{starts_char}
use Rattle.td_wbread.proofs.Sizes.{parsed_size, unparsed_size}
use Rattle.td_wbread.proofs.verb_reading.read_size.Goals as goal

pub returns-in-Ok-clause-size : goal.returns-in-Ok-clause-size
returns-in-Ok-clause-size c =
    let plus = starts_char 43 c.args.text.now c.starts_with.result c.starts_with.ensures.cases
    (lit< tt) (lit< tt) in
    let free : get_or c.args.text.now 0 0 ≢ 43 =
    λ e. false≢true (sym c.if-starts_with.false ∙ plus.1 e) in
    sym (parsed_size c.args.text.now c.in-Ok.size c.in-Ok.ensures.value.0 free
    ∙ rw (le-leb c.in-Ok.size 9999 (omega arith)) refl)

pub returns-in_default-clause-size : goal.returns-in_default-clause-size
returns-in_default-clause-size c =
    let plus = starts_char 43 c.args.text.now c.starts_with.result c.starts_with.ensures.cases
    (lit< tt) (lit< tt) in
    let free : get_or c.args.text.now 0 0 ≢ 43 =
    λ e. false≢true (sym c.if-starts_with.false ∙ plus.1 e) in
    sym (parsed_size c.args.text.now c.in-Ok.size c.in-Ok.ensures.value.0 free
    ∙ rw (lt-leb c.in-Ok.size 9999 (omega arith)) refl)

pub returns-in_default-2-clause-size : goal.returns-in_default-2-clause-size
returns-in_default-2-clause-size c =
    let plus = starts_char 43 c.args.text.now c.starts_with.result c.starts_with.ensures.cases
    (lit< tt) (lit< tt) in
    let free : get_or c.args.text.now 0 0 ≢ 43 =
    λ e. false≢true (sym c.if-starts_with.false ∙ plus.1 e) in
    sym (unparsed_size c.args.text.now c.in_default.ensures.value.0 free)
