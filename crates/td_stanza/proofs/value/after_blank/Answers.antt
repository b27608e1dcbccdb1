-- `after_blank`: the clause `none`.
use Rattle.std.proofs.Common.{None, lit<}
use Rattle.std.proofs.lemmas.Str.Pattern.{strip_prefix_char}
use Rattle.td_stanza.proofs.Trimming.{front_by}
use Rattle.td_stanza.proofs.value.after_blank.Goals as goal

pub returns-in-None-clause-none : goal.returns-in-None-clause-none
returns-in-None-clause-none c =
    front_by c.args.text.now c.strip_prefix-in-None.result
    (strip_prefix_char 32 c.args.text.now None c.in-None.ensures.cases (lit< tt))
    (strip_prefix_char 9 c.args.text.now c.strip_prefix-in-None.result
    c.strip_prefix-in-None.ensures.cases (lit< tt))
