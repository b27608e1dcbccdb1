-- What is put is what was seen.
use Rattle.std.proofs.Common.{refl, rules}
use Rattle.td_crew.proofs.Replied.{taken_out}
use Rattle.td_crew.proofs.line_answers.LineAnswers.swept.Goals as goal

pub returns-clause-ok : goal.returns-clause-ok
returns-clause-ok g c =
    taken_out _ c.args.seen.answer c.answer.result c.in_ok-text.text c.answer.ensures
    (search rules) (record { text_is = search rules; refusal = refl })
