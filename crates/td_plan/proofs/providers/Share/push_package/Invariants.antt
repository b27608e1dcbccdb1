-- What the loop of `Share::push_package` keeps.
use Rattle.std.proofs.Common.{◌≡◌, ◌||◌, ◌&&◌, Bool, ℕ, List}
use Rattle.std.specs.List.{list_any}
use Rattle.std.specs.Str.{bytes_eq}
use Rattle.td_indices.specs.OfferedNames.{names_left}
use Rattle.td_plan.specs.declared.providers.Provider.{Provider}
use Rattle.td_plan.specs.inner.Providing.{passes_numbered, shared_under}
use Rattle.td_plan.proofs.providers.Share.push_package.Given as goal

-- what is left decides
abbrev pub invariant-loop-name : goal.invariant-loop-name
invariant-loop-name l = (q : List ℕ) (test : Provider → Bool)
    → (list_any test (shared_under l.self q) || list_any (λ (name : List ℕ). bytes_eq q name
    && test (record {
      binary = l.number;
      owner = l.owner;
      home = l.binary.arch;
      is_own = bytes_eq name l.binary.name.now;
    })) (names_left l.name-iterator))
    ≡ (list_any test (shared_under l.fn.self q)
    || passes_numbered l.archive q test l.owner l.number)
