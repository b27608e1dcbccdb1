-- `Transition::groups`: its loop.
use Rattle.std.proofs.Common.{◌<◌, ◌++◌, ◌∷◌, [], None, Some, List, ℕ, ap, sym, ◌∙◌, length}
use Rattle.std.proofs.Common.{take, arith}
use Rattle.std.specs.List.{filter_map}
use Rattle.std.proofs.lemmas.List.{append-nil}
use Rattle.td_rows.specs.declared.key.Key.{Key}
use Rattle.td_report.specs.Groups.{with_group}
use Rattle.td_report.proofs.Items.{rows-more}
use Rattle.td_report.proofs.transition.Transition.groups.Goals as goal
use Rattle.td_report.proofs.transition.Transition.groups.Goals.{in-Some-2+in_ok-push, in_default-2}

pub loop-number-preserved : goal.loop-number-preserved
loop-number-preserved c =
    let f = with_group c.args.self.now in
    let rows = c.args.rows.now in
    let n = c.loop-number.number in
    let before = filter_map f (take n rows) in
    let within : n < length rows =
    omega (arith, c.loop-number-test.true, c.len-number-end.ensures.len) in
    elim c.match-branch-2.branch [
      | in-Some-2+in_ok-push w ↦
          let pair = w.in-Some-2.pair in
          ap (λ v. v.items) w.grouped-is ∙ w.in_ok-push.ensures.items
          ∙ ap (λ (l : List (Key × ℕ)). l ++ pair ∷ []) c.loop-number.invariant
          ∙ sym (rows-more f rows n (Some pair) within (sym w.in-Some-2.is ∙ c.in_ok-pair.ensures))
      | in_default-2 w ↦
          ap (λ v. v.items) w.grouped-is ∙ c.loop-number.invariant
          ∙ sym (rows-more f rows n None within (sym w.in_default-2.is ∙ c.in_ok-pair.ensures)
          ∙ append-nil before)
    ]
