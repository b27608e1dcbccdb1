-- What the loop of `Share::of` keeps.
use Rattle.std.proofs.Common.{◌≡◌, ℕ, Bool, List}
use Rattle.std.specs.List.{list_any, range_with_len}
use Rattle.td_plan.specs.declared.providers.Provider.{Provider}
use Rattle.td_plan.specs.inner.Providing.{shared_passes, shared_under}
use Rattle.td_plan.proofs.providers.Share.of.Given as goal

-- the packages of the sources so far
abbrev pub invariant-loop-owner : goal.invariant-loop-owner
invariant-loop-owner l = (q : List ℕ) (test : Provider → Bool)
    → list_any test (shared_under l.found q)
    ≡ list_any (shared_passes l.archive l.movers q test l.share) (range_with_len 0 l.owner)
