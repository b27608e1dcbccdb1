-- `stands_in`: what it answers and its loop.
use Rattle.std.proofs.Common.{◌≡◌, ◌<◌, length, true, ap, sym, ◌∙◌, rules, arith}
use Rattle.td_query.specs.Standing.{any_below, stands_at}
use Rattle.td_query.proofs.Places.{below_next, empty_never, found_at, found_nowhere, none_yet}
use Rattle.td_query.proofs.standing.stands_in.Goals as goal

pub returns-then-is_empty : goal.returns-then-is_empty
returns-then-is_empty c =
    let none : length c.args.text.now ≡ 0 = search rules in
    record { stands = sym (empty_never c.args.text.now c.args.value.now none) }

pub loop-i-init : goal.loop-i-init
loop-i-init c = none_yet (stands_at c.args.text.now c.args.value.now)

pub returns-then-stands_at : goal.returns-then-stands_at
returns-then-stands_at c =
    let filled : ¬ (length c.args.text.now ≡ 0) = search rules in
    let some : 0 < length c.args.text.now = omega arith in
    let here : stands_at c.args.text.now c.args.value.now c.loop-i.i ≡ true =
    sym c.stands_at.ensures.stands ∙ c.if-stands_at.true in
    record {
      stands = sym (found_at c.args.text.now c.args.value.now c.loop-i.i some
          c.loop-i-test.true here);
    }

pub loop-i-preserved : goal.loop-i-preserved
loop-i-preserved c = below_next (stands_at c.args.text.now c.args.value.now) c.loop-i.i
    c.loop-i.invariant (sym c.stands_at.ensures.stands ∙ c.if-stands_at.false)

pub returns : goal.returns
returns c =
    let last : c.loop-i.i ≡ length c.args.value.now = omega arith in
    record {
      stands = sym (found_nowhere c.args.text.now c.args.value.now
          (ap (any_below (stands_at c.args.text.now c.args.value.now)) (sym last)
          ∙ c.loop-i.invariant));
    }
