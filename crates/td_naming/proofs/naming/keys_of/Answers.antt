-- `keys_of`: its loop.
use Rattle.std.proofs.Common.{◌<◌, ◌∷◌, ◌++◌, [], length, sym, ap, ◌∙◌, arith}
use Rattle.td_rows.specs.declared.key.Key.{Key}
use Rattle.td_naming.proofs.Numbered.{keys_at-none, keys_more, keys_same}
use Rattle.td_naming.proofs.naming.keys_of.Goals as goal
use Rattle.td_naming.proofs.naming.keys_of.Goals.{in-Some+in_ok-copy+in_ok-push, in_default}

pub loop-number-init : goal.loop-number-init
loop-number-init c = c.new-keys.ensures.items ∙ sym (keys_at-none c.args.rows.now)

pub loop-number-preserved : goal.loop-number-preserved
loop-number-preserved c =
    let within : c.loop-number.number-index < length c.args.numbers.now = omega arith in
    elim c.match-at.branch [
      | in-Some+in_ok-copy+in_ok-push w ↦
          keys_more c.args.rows.now c.args.numbers.now c.loop-number.number-index 0
          c.loop-number.keys.items c.match-at.keys.items w.in-Some.key.now w.in-Some.field-0-1.now
          within w.in-Some.ensures c.loop-number.invariant
          (ap (λ v. v.items) w.keys-is ∙ w.in_ok-push.ensures.items
          ∙ ap (λ (k : Key). c.loop-number.keys.items ++ k ∷ []) w.in_ok-copy.ensures)
      | in_default w ↦
          keys_same c.args.rows.now c.args.numbers.now c.loop-number.number-index 0
          c.loop-number.keys.items c.match-at.keys.items within w.in_default.ensures
          c.loop-number.invariant (ap (λ v. v.items) w.keys-is)
    ]
