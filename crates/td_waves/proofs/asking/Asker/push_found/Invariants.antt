-- What the loop of `Asker::push_found` keeps.
use Rattle.std.proofs.Common.{◌≡◌, ◌||◌, ◌∷◌, ℕ, take}
use Rattle.std.specs.List.{list_any}
use Rattle.td_relation.specs.Asked.{asked}
use Rattle.td_waves.specs.Asking.{has, is_base}
use Rattle.td_waves.proofs.asking.Asker.push_found.Given as goal

-- the packages so far
abbrev pub invariant-loop-provider : goal.invariant-loop-provider
invariant-loop-provider l = (t : ℕ)
    → has t l.bases.items ≡ (has t l.fn.bases.items || list_any
    (is_base l.self t (asked l.alternative))
    (l.found.first ∷ take l.provider-index l.found.others.items))
