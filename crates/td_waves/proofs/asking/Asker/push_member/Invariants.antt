-- What the loop of `Asker::push_member` keeps.
use Rattle.std.proofs.Common.{◌≡◌, ◌||◌, ℕ, take}
use Rattle.std.specs.List.{list_any}
use Rattle.td_relation.specs.Asked.{asked}
use Rattle.td_waves.specs.Asking.{has, is_found}
use Rattle.td_waves.proofs.asking.Asker.push_member.Given as goal

-- the alternatives so far
abbrev pub invariant-loop-alternative : goal.invariant-loop-alternative
invariant-loop-alternative l = (t : ℕ)
    → has t l.bases.items ≡ (has t l.fn.bases.items || list_any (λ x. is_found l.self t (asked x))
    (take l.alternative-index l.member))
