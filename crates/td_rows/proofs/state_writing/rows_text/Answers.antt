-- `rows_text`: its loop.
use Rattle.std.proofs.Common.{◌<◌, ◌∷◌, ◌++◌, [], ℕ, List, length, ap, sym, ◌∙◌}
use Rattle.std.specs.String.{string_bytes}
use Rattle.td_rows.specs.RowLine.{row_line}
use Rattle.td_rows.proofs.Lists.{slice_get-none}
use Rattle.td_rows.proofs.Writing.{state_text-next}
use Rattle.td_rows.proofs.state_writing.rows_text.Goals as goal
use Rattle.td_rows.proofs.state_writing.rows_text.Goals.{in-Some+in_ok-put_row_line+in_ok-push_str}
use Rattle.td_rows.proofs.state_writing.rows_text.Goals.{in_default}

pub loop-number-preserved : goal.loop-number-preserved
loop-number-preserved c = elim c.match-at.branch [
  | in-Some+in_ok-put_row_line+in_ok-push_str w ↦
      ap string_bytes w.text-is
      ∙ w.in_ok-push_str.ensures.bytes
      ∙ ap (λ (b : List ℕ). b ++ 10 ∷ [])
      (w.in_ok-put_row_line.ensures.ok
      ∙ ap (λ (b : List ℕ). b ++ row_line (w.in-Some.key.now, w.in-Some.row.now))
      c.loop-number.invariant)
      ∙ sym (state_text-next c.args.rows.now c.loop-number.number
      (w.in-Some.key.now, w.in-Some.row.now) (sym w.in-Some.ensures))
  | in_default w ↦
      let within : c.loop-number.number < length c.args.rows.now =
      rw (← c.len-number-end.ensures.len) c.loop-number-test.true in
      absurd (slice_get-none c.args.rows.now c.loop-number.number (sym w.in_default.ensures) within)
]
