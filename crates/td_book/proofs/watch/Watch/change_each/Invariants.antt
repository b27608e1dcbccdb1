-- What the loop of `Watch::change_each` keeps.
use Rattle.std.proofs.Common.{◌≡◌, drop, length}
use Rattle.td_book.specs.inner.Tallies.{AreTallied, was_there}
use Rattle.td_book.proofs.watch.Watch.change_each.Given as goal

abbrev pub invariant-loop-key : goal.invariant-loop-key
invariant-loop-key l = record {
  counts : AreTallied (was_there l.there (drop l.key-index l.keys)) l.self.installed.items
      l.self.groups.items l.rows;
  groups : l.self.groups ≡ l.initial.self.groups;
  len : length l.self.installed.items ≡ length l.initial.self.installed.items;
}
