-- `count_rows`: its loop.
use Rattle.std.proofs.Common.{ℕ, ◌<◌, ◌+◌, drop, length, sym, ap, ◌∙◌, arith}
use Rattle.td_relation.specs.TableView.{table}
use Rattle.td_rows.proofs.Lists.{slice_get-none}
use Rattle.td_indices.specs.Rows.{row_count}
use Rattle.td_indices.specs.Sources.{sources_of}
use Rattle.td_indices.proofs.RowCounts.{rows_counted}
use Rattle.td_indices.proofs.rows.count_rows.Goals as goal
use Rattle.td_indices.proofs.rows.count_rows.Goals.{in-Some+else-rows-gt-MAX_ROWS, in_default}

pub returns-then-rows-gt-MAX_ROWS-clause-too_many :
    goal.returns-then-rows-gt-MAX_ROWS-clause-too_many
returns-then-rows-gt-MAX_ROWS-clause-too_many c =
    let all = rows_counted (table c.args.archs.now) c.args.sources.now.entries c.loop-number.number
    c.loop-number.rows c.rows_of-rows.result (c.in-Some.field-0-0.now, c.in-Some.sourced.now)
    (sym c.in-Some.ensures.entry) c.rows_of-rows.ensures.value c.loop-number.invariant.counted in
    omega arith

pub loop-number-preserved : goal.loop-number-preserved
loop-number-preserved c = elim c.match-get_index.branch [
  | in-Some+else-rows-gt-MAX_ROWS w ↦
      let all = rows_counted (table c.args.archs.now) c.args.sources.now.entries
      c.loop-number.number c.loop-number.rows w.rows_of-rows.result
      (w.in-Some.field-0-0.now, w.in-Some.sourced.now) (sym w.in-Some.ensures.entry)
      w.rows_of-rows.ensures.value c.loop-number.invariant.counted in
      record {
        counted = ap (λ (n : ℕ).
            n + row_count (table c.args.archs.now)
            (drop (c.loop-number.number + 1) (sources_of c.args.sources.now.entries))) w.rows-is
            ∙ all;
        few = (let is = w.rows-is in omega arith);
      }
  | in_default w ↦
      let within : c.loop-number.number < length c.args.sources.now.entries =
      rw (← c.len-number-end.ensures.len) c.loop-number-test.true in
      absurd (slice_get-none c.args.sources.now.entries c.loop-number.number
      (sym w.in_default.ensures.entry) within)
]
