-- `Hands::held`: what it answers.
use Rattle.std.proofs.Common.{sym}
use Rattle.td_lasting.proofs.HandLaws.{held_found, held_none}
use Rattle.td_lasting.proofs.hands.Hands.held.Goals as goal

pub returns-in-Some : goal.returns-in-Some
returns-in-Some c =
    held_found c.args.rows.now c.args.self.now c.args.builder c.in-Some.number c.built_at.result
    c.requires.hands c.in-Some.ensures c.built_at.ensures.some c.built_at.ensures.none

pub returns-in-None : goal.returns-in-None
returns-in-None c =
    sym (held_none c.args.rows.now c.args.self.now c.args.builder c.requires.hands
    c.in-None.ensures)
