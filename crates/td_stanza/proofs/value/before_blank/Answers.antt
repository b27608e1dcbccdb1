-- `before_blank`: the clause `none`.
use Rattle.std.proofs.Common.{None, lit<}
use Rattle.std.proofs.lemmas.Str.Pattern.{strip_suffix_char}
use Rattle.td_stanza.proofs.Trimming.{back_by}
use Rattle.td_stanza.proofs.value.before_blank.Goals as goal

pub returns-in-None-clause-none : goal.returns-in-None-clause-none
returns-in-None-clause-none c =
    back_by c.args.text.now c.strip_suffix-in-None.result
    (strip_suffix_char 32 c.args.text.now None c.in-None.ensures.cases (lit< tt))
    (strip_suffix_char 9 c.args.text.now c.strip_suffix-in-None.result
    c.strip_suffix-in-None.ensures.cases (lit< tt))
