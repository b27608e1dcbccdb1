-- `Asker::push_relation`: its loop.
use Rattle.std.proofs.Common.{◌∙◌, subst, ℕ, ◌<◌, sym}
use Rattle.td_relation.specs.MembersLeft.{members_left}
use Rattle.td_waves.proofs.Finding.{taken_asked}
use Rattle.td_plan.specs.inner.Asking.{asks_some}
use Rattle.td_plan.proofs.asks.Asker.push_relation.Goals as goal

pub loop-member-preserved : goal.loop-member-preserved
loop-member-preserved c = record {
  len = c.in_ok-push_member.ensures.len ∙ c.loop-member.invariant.len;
  asked = λ k test low.
      taken_asked (asks_some c.args.self.now k test) _ _ c.in-Some.member.now
      (members_left c.loop-member.member-iterator)
      (members_left c.next.new.self) c.in-Some.ensures.steps
      (c.in_ok-push_member.ensures.asked k test
      (subst (λ (n : ℕ). k < n) (sym c.loop-member.invariant.len) low))
      ∙ c.loop-member.invariant.asked k test low;
}
