-- What the loop of `Share::push_source` keeps.
use Rattle.std.proofs.Common.{◌≡◌, ◌||◌, Bool, ℕ, List, take}
use Rattle.std.specs.List.{list_any}
use Rattle.td_plan.specs.declared.providers.Provider.{Provider}
use Rattle.td_plan.specs.inner.Providing.{passes_numbered, shared_under}
use Rattle.td_plan.proofs.providers.Share.push_source.Given as goal

-- the packages so far
abbrev pub invariant-loop-number : goal.invariant-loop-number
invariant-loop-number l = (q : List ℕ) (test : Provider → Bool)
    → list_any test (shared_under l.self q)
    ≡ (list_any test (shared_under l.fn.self q)
    || list_any (passes_numbered l.archive q test l.owner)
    (take l.number-index l.packages))
