-- `Watch::count`: its loop, the clause `counts` and the call of `change`.
use Rattle.std.proofs.Common.{◌+◌, ◌<◌, List, Option, ℕ, length, ap, sym, subst, ◌∙◌, arith}
use Rattle.td_book.specs.declared.watch.Watch.{Watch}
use Rattle.td_book.proofs.Tallies.{AreCounted, counted-bound, counted-there, counted-idle}
use Rattle.td_book.proofs.Tallies.{counted-last, is_row}
use Rattle.td_book.proofs.watch.Watch.count.Goals as goal
use Rattle.td_book.proofs.watch.Watch.count.Goals.{then-is_installed, else-is_installed}

pub change-requires : goal.change-requires
change-requires c = λ g lt is.
    let bound = counted-bound c.loop-number.number c.loop-number.self.installed.items
    c.loop-number.self.groups.items c.args.rows.now g lt c.len-number-end.ensures.limited
    c.loop-number.invariant.counts in
    omega arith

pub loop-number-preserved : goal.loop-number-preserved
loop-number-preserved c =
    let i = c.loop-number.number in
    let within : i < length c.args.rows.now = let len = c.len-number-end.ensures.len in
    let test = c.loop-number-test.true in omega arith in
    let row = is_row c.args.rows.now i c.is_installed.result within c.is_installed.ensures in
    elim c.if-is_installed.branch [
      | then-is_installed w ↦ record {
        counts =
            subst (λ (x : Watch).
            AreCounted (i + 1) x.installed.items x.groups.items c.args.rows.now) (sym w.self-is)
            (subst (λ (x : List (Option ℕ)).
            AreCounted (i + 1) w.change.new.self.installed.items x c.args.rows.now)
            (ap (λ x. x.items) (sym w.change.ensures.groups))
            (counted-there i row.0 c.loop-number.self.installed.items
            w.change.new.self.installed.items c.loop-number.self.groups.items c.args.rows.now row.1
            (sym row.2 ∙ w.if-is_installed.true) w.change.ensures.len w.change.ensures.each
            c.loop-number.invariant.counts));
        groups = ap (λ (x : Watch). x.groups) w.self-is ∙ w.change.ensures.groups
            ∙ c.loop-number.invariant.groups;
        len = ap (λ (x : Watch). length x.installed.items) w.self-is ∙ w.change.ensures.len
            ∙ c.loop-number.invariant.len;
      }
      | else-is_installed w ↦ record {
        counts =
            subst (λ (x : Watch).
            AreCounted (i + 1) x.installed.items x.groups.items c.args.rows.now) (sym w.self-is)
            (counted-idle i row.0 c.loop-number.self.installed.items c.loop-number.self.groups.items
            c.args.rows.now row.1 (sym row.2 ∙ w.if-is_installed.false)
            c.loop-number.invariant.counts);
        groups = ap (λ (x : Watch). x.groups) w.self-is ∙ c.loop-number.invariant.groups;
        len = ap (λ (x : Watch). length x.installed.items) w.self-is ∙ c.loop-number.invariant.len;
      }
    ]

pub returns-clause-counts : goal.returns-clause-counts
returns-clause-counts c =
    let end = c.len-number-end.ensures.len in
    let test = c.loop-number-test.false in
    counted-last c.loop-number.number c.loop-number.self.installed.items
    c.loop-number.self.groups.items c.args.rows.now (omega arith) c.loop-number.invariant.counts
