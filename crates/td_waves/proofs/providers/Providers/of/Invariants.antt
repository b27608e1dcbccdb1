-- What the loop of `Providers::of` keeps.
use Rattle.std.proofs.Common.{◌≡◌, Bool, ℕ, List}
use Rattle.std.specs.List.{list_any}
use Rattle.td_waves.specs.declared.providers.Provider.{Provider}
use Rattle.td_waves.specs.Named.{texts}
use Rattle.td_waves.specs.Providers.{some_below, under}
use Rattle.td_waves.proofs.providers.Providers.of.Given as goal

-- the sources so far
abbrev pub invariant-loop-owner : goal.invariant-loop-owner
invariant-loop-owner l = (q : List ℕ) (test : Provider → Bool)
    → list_any test (under l.providers q) ≡ some_below l.archive
    (texts l.sources.keys) q test l.owner
