-- `put_rows_at`: the line of one row more.
use Rattle.std.proofs.Common.{◌++◌, ◌∷◌, [], List, ℕ, ap, sym, ◌∙◌}
use Rattle.std.specs.String.{string_bytes}
use Rattle.td_lasting.proofs.ReadyOrder.{lines_next, lines_same}
use Rattle.td_lasting.proofs.asking.put_rows_at.Goals as goal
use Rattle.td_lasting.proofs.asking.put_rows_at.Goals.{in-Some+in_ok-put_row_line+in_ok-push_str}
use Rattle.td_lasting.proofs.asking.put_rows_at.Goals.{in_default}

pub loop-number-preserved : goal.loop-number-preserved
loop-number-preserved c = elim c.match-at.branch [
  | in-Some+in_ok-put_row_line+in_ok-push_str w ↦
      lines_next c.args.rows.now c.args.numbers.now c.loop-number.number-index
      (w.in-Some.key.now, w.in-Some.row.now) (string_bytes c.args.out.now)
      (string_bytes c.loop-number.out) (string_bytes c.match-at.out) c.loop-number-test.true
      (sym w.in-Some.ensures) c.loop-number.invariant
      (ap string_bytes w.out-is ∙ w.in_ok-push_str.ensures.bytes
      ∙ ap (λ (b : List ℕ). b ++ 10 ∷ []) w.in_ok-put_row_line.ensures.ok)
  | in_default w ↦
      lines_same c.args.rows.now c.args.numbers.now c.loop-number.number-index
      (string_bytes c.args.out.now) (string_bytes c.match-at.out) c.loop-number-test.true
      (sym w.in_default.ensures) (ap string_bytes w.out-is ∙ c.loop-number.invariant)
]
