-- `push_number`: what it answers.
use Rattle.td_naming.proofs.Numbered.{adds_number}
use Rattle.td_naming.proofs.naming.push_number.Goals as goal

pub returns-in_ok-push : goal.returns-in_ok-push
returns-in_ok-push c =
    adds_number c.args.rows.now c.args.numbers.now.items c.push.new.self.items c.args.source.now
    c.args.arch.now c.in-Some.number c.len-rising.ensures.rising c.in-Some.ensures.found
    c.in_ok-push.ensures.items
