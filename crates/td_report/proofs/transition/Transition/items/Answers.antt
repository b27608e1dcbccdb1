-- `Transition::items`: its loop, and what it answers.
use Rattle.std.proofs.Common.{◌≡◌, ◌<◌, ap, ◌∙◌, map, take, take_all, length, arith}
use Rattle.td_report.specs.Transition.{affected_row, affected_rows}
use Rattle.td_report.specs.TransitionView.{contents_of, level_of, tracking_of}
use Rattle.td_report.specs.inner.ItemLines.{seen}
use Rattle.td_report.proofs.Items.{items-more, items-same}
use Rattle.td_report.proofs.transition.Transition.items.Goals as goal
use Rattle.td_report.proofs.transition.Transition.items.Goals.{in-Some+in_ok-push, in_default}

pub loop-number-preserved : goal.loop-number-preserved
loop-number-preserved c =
    let x = c.args.self.now in
    let f = affected_row (contents_of x) (tracking_of x) (level_of x) in
    let rows = c.args.rows.now in
    let n = c.loop-number.number in
    let within : n < length rows =
    omega (arith, c.loop-number-test.true, c.len-number-end.ensures.len) in
    elim c.match-item_at.branch [
      | in-Some+in_ok-push w ↦
          ap (λ v. map seen v.items) w.items-is ∙ ap (map seen) w.in_ok-push.ensures.items
          ∙ items-more f rows n c.loop-number.items.items w.in-Some.item within w.in-Some.ensures
          c.loop-number.invariant
      | in_default w ↦
          ap (λ v. map seen v.items) w.items-is
          ∙ items-same f rows n (map seen c.loop-number.items.items) within w.in_default.ensures
          c.loop-number.invariant
    ]

pub returns : goal.returns
returns c =
    let x = c.args.self.now in
    let rows = c.args.rows.now in
    let n = c.loop-number.number in
    let all : take n rows ≡ rows = take_all n rows (omega arith) in
    c.loop-number.invariant
    ∙ ap (affected_rows (contents_of x) (tracking_of x) (level_of x)) all
