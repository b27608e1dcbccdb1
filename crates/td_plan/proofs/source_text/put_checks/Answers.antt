-- `put_checks`: its loop.
use Rattle.std.proofs.Common.{ap, string_bytes, ◌∙◌}
use Rattle.td_rows.specs.declared.key.Key.{Key}
use Rattle.td_plan.proofs.SourcePlaces.{check-older, check-present}
use Rattle.td_plan.proofs.source_text.put_checks.Goals as goal
use Rattle.td_plan.proofs.source_text.put_checks.Goals.{then-wait+in_ok-put_check, else-wait}

pub loop-wait-preserved : goal.loop-wait-preserved
loop-wait-preserved c =
    let ws = c.args.waits.now in
    let i = c.loop-wait.wait-index in
    let wait = c.wait-item.result in
    let k : Key = record { source = c.args.source.now; arch = c.args.arch.now } in
    let start = string_bytes c.args.out.now in
    let old = string_bytes c.loop-wait.out in
    let new = string_bytes c.if-wait.out in
    elim c.if-wait.branch [
      | then-wait+in_ok-put_check w ↦
          check-older k ws i wait start old new c.loop-wait-test.true c.wait-item.is w.if-wait.true
          c.loop-wait.invariant (ap string_bytes w.out-is ∙ w.in_ok-put_check.ensures.ok)
      | else-wait w ↦
          check-present k ws i wait start old new c.loop-wait-test.true c.wait-item.is
          w.if-wait.false c.loop-wait.invariant (ap string_bytes w.out-is)
    ]
