-- What the loop of `Watch::count` keeps.
use Rattle.std.proofs.Common.{◌≡◌, length}
use Rattle.td_book.proofs.Tallies.{AreCounted}
use Rattle.td_book.proofs.watch.Watch.count.Given as goal

abbrev pub invariant-loop-number : goal.invariant-loop-number
invariant-loop-number l = record {
  counts : AreCounted l.number l.self.installed.items l.self.groups.items l.rows;
  groups : l.self.groups ≡ l.initial.self.groups;
  len : length l.self.installed.items ≡ length l.initial.self.installed.items;
}
