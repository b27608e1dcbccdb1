-- `is_member_met`: what it answers.
use Rattle.std.proofs.Common.{◌∙◌, ◌||◌, ap, sym, not}
use Rattle.td_relation.specs.Arch.{words_of}
use Rattle.td_relation.proofs.MemberLaws.{member_met-by}
use Rattle.td_relation.proofs.meeting.is_member_met.Goals as goal

pub returns-then-not-active : goal.returns-then-not-active
returns-then-not-active g c =
    let h = member_met-by (g.O.Offering.on_offer c.args.offers.now) c.args.place
    (words_of c.args.arch.now) c.args.member.now c.has_active-active.result c.has_met-met.result
    c.has_active-active.ensures c.has_met-met.ensures in
    ap not c.if-not-active.true
    ∙ (sym (ap (λ b. not b || c.has_met-met.result) c.if-not-active.true) ∙ h)

pub returns-else-not-active : goal.returns-else-not-active
returns-else-not-active g c =
    let h = member_met-by (g.O.Offering.on_offer c.args.offers.now) c.args.place
    (words_of c.args.arch.now) c.args.member.now c.has_active-active.result c.has_met-met.result
    c.has_active-active.ensures c.has_met-met.ensures in
    sym (ap (λ b. not b || c.has_met-met.result) c.if-not-active.false) ∙ h
