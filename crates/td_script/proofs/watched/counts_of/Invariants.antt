-- What the loop of `counts_of` keeps, and what gets less.
use Rattle.std.proofs.Common.{◌-◌, length}
use Rattle.td_core.specs.History.{rows_of}
use Rattle.td_script.proofs.WatchLaws.{AreFirst}
use Rattle.td_script.proofs.watched.counts_of.Given as goal

-- the counts so far
abbrev pub invariant-loop-count : goal.invariant-loop-count
invariant-loop-count l = AreFirst l.book.fixed.watch (rows_of l.book.history) l.counts.items

-- the groups that are left
abbrev pub decreases-loop-count : goal.decreases-loop-count
decreases-loop-count l = l.book.fixed.watch.groups - length l.counts.items
