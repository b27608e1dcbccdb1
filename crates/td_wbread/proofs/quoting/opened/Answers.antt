-- `opened`: the clause `none`.
use Rattle.td_wbread.proofs.Quotes.{none_opens}
use Rattle.td_wbread.proofs.quoting.opened.Goals as goal

pub returns-in-None-strip-clause-none : goal.returns-in-None-strip-clause-none
returns-in-None-strip-clause-none c =
    none_opens c.args.text.now c.in-None.ensures.value c.in-None-strip.ensures.value
