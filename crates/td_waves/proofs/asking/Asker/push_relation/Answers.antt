-- `Asker::push_relation`: its loop.
use Rattle.std.proofs.Common.{◌∙◌}
use Rattle.td_relation.specs.MembersLeft.{members_left}
use Rattle.td_waves.specs.Asking.{is_found}
use Rattle.td_waves.proofs.Finding.{taken_asked}
use Rattle.td_waves.proofs.asking.Asker.push_relation.Goals as goal

pub loop-member-preserved : goal.loop-member-preserved
loop-member-preserved c = λ t.
    taken_asked (is_found c.args.self.now t) _ _ c.in-Some.member.now
    (members_left c.loop-member.member-iterator)
    (members_left c.next.new.self) c.in-Some.ensures.steps (c.in_ok-push_member.ensures t)
    ∙ c.loop-member.invariant t
