-- What the loop of `Asker::push_relation` keeps.
use Rattle.std.proofs.Common.{◌≡◌, ◌||◌, ℕ}
use Rattle.td_relation.specs.Members.{members}
use Rattle.td_relation.specs.MembersLeft.{members_left}
use Rattle.td_waves.specs.Asking.{has, is_found}
use Rattle.td_waves.specs.BuildsOn.{some_asked}
use Rattle.td_waves.proofs.asking.Asker.push_relation.Given as goal

-- what is left decides
abbrev pub invariant-loop-member : goal.invariant-loop-member
invariant-loop-member l = (t : ℕ)
    → (has t l.bases.items || some_asked (is_found l.self t) (members_left l.member-iterator))
    ≡ (has t l.fn.bases.items || some_asked (is_found l.self t) (members l.relation))
