-- `Watch::change_each`: its loop and the call of `change`.
use Rattle.std.proofs.Common.{List, Option, ℕ, length, drop, ◌+◌, ap, sym, subst, ◌∙◌}
use Rattle.td_rows.specs.declared.key.Key.{Key}
use Rattle.td_book.specs.declared.watch.Watch.{Watch}
use Rattle.td_book.specs.inner.Tallies.{AreTallied, was_there}
use Rattle.td_book.proofs.Steps.{key_at}
use Rattle.td_book.proofs.Tallies.{step-next, step-may, no_row}
use Rattle.td_book.proofs.watch.Watch.change_each.Goals as goal
use Rattle.td_book.proofs.watch.Watch.change_each.Goals.{in-Some, in_default}

pub change-requires : goal.change-requires
change-requires c = λ g lt is.
    let k : Key = c.key-item.result in
    step-may c.args.there c.args.keys.now c.args.rows.now c.loop-key.key-index c.in-Some.number k
    c.loop-key.self.groups.items c.loop-key.self.installed.items g c.requires.rising
    c.len-rising.ensures.rising c.requires.changed.all
    (key_at c.args.keys.now c.loop-key.key-index k c.loop-key-test.true c.key-item.is)
    c.in-Some.ensures.found c.loop-key.invariant.counts c.len-rising.ensures.limited lt is

pub loop-key-preserved : goal.loop-key-preserved
loop-key-preserved c =
    let k : Key = c.key-item.result in
    let i = c.loop-key.key-index in
    let test = was_there c.args.there (drop (i + 1) c.args.keys.now) in
    let key = key_at c.args.keys.now i k c.loop-key-test.true c.key-item.is in
    elim c.match-number.branch [
      | in-Some w ↦ record {
        counts =
            subst (λ (x : Watch). AreTallied test x.installed.items x.groups.items c.args.rows.now)
            (sym w.self-is)
            (subst (λ (x : List (Option ℕ)).
            AreTallied test w.change.new.self.installed.items x c.args.rows.now)
            (ap (λ x. x.items) (sym w.change.ensures.groups))
            (step-next c.args.there c.args.keys.now c.args.rows.now i w.in-Some.number k
            c.loop-key.self.groups.items c.loop-key.self.installed.items
            w.change.new.self.installed.items c.requires.rising c.len-rising.ensures.rising
            c.requires.changed.all key w.in-Some.ensures.found c.loop-key.invariant.counts
            w.change.ensures.len w.change.ensures.each));
        groups = ap (λ (x : Watch). x.groups) w.self-is ∙ w.change.ensures.groups
            ∙ c.loop-key.invariant.groups;
        len = ap (λ (x : Watch). length x.installed.items) w.self-is ∙ w.change.ensures.len
            ∙ c.loop-key.invariant.len;
      }
      | in_default w ↦
          absurd (no_row c.args.there c.args.keys.now c.args.rows.now i k c.requires.changed.all key
          w.in_default.ensures.absent)
    ]
