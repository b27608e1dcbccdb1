-- `are_ascending`: what it answers and its loop.
use Rattle.std.proofs.Common.{◌≡◌, ◌+◌, ◌-◌, ℕ, true, ◌&&◌, drop, ap, sym, ◌∙◌, arith}
use Rattle.std.specs.Ordering.{is_lt}
use Rattle.td_rows.specs.Keys.{ascending}
use Rattle.td_rows.specs.Keys.{key_cmp}
use Rattle.td_rows.proofs.Rising.{ascending_step, ascending_end}
use Rattle.td_rows.proofs.key.are_ascending.Goals as goal

pub loop-at-preserved : goal.loop-at-preserved
loop-at-preserved c =
    let ks = c.args.keys.now in
    let at = c.loop-at.at in
    let a = c.index-keys-at.result in
    let b = c.index-keys-at-in-loop-at.result in
    let lt : is_lt (key_cmp a b) ≡ true =
    sym (ap is_lt c.compare.ensures) ∙ sym c.is_lt.ensures ∙ c.if-not-is_lt.false in
    let step = ascending_step ks at (at - 1) a b (omega arith) (omega arith) c.index-keys-at.is
    c.index-keys-at-in-loop-at.is in
    let same : ascending (drop at ks) ≡ ascending ks =
    sym (step ∙ ap (λ v. v && ascending (drop at ks)) lt) ∙ c.loop-at.invariant in
    let back : at + 1 - 1 ≡ at = omega arith in
    ap (λ (n : ℕ). ascending (drop n ks)) back ∙ same

pub returns : goal.returns
returns c =
    sym (ascending_end c.args.keys.now (c.loop-at.at - 1) (omega arith)) ∙ c.loop-at.invariant
