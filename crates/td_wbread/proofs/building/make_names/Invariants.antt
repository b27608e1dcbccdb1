-- What the loop of `make_names` keeps.
use Rattle.std.proofs.Common.{◌≡◌, map, take, List, ℕ}
use Rattle.std.specs.Borrow.{Bor}
use Rattle.td_relation.specs.TableView.{table}
use Rattle.td_wbread.specs.Archs.{chosen_names}
use Rattle.td_wbread.proofs.building.make_names.Given as goal

abbrev pub invariant-loop-arch : goal.invariant-loop-arch
invariant-loop-arch l = map (λ (a : Bor (List ℕ)). a.now) l.names.items ≡ chosen_names
    (take l.arch (table l.archs)) l.words
