-- `Archive::open_source`: its loop and the clauses `rows` and `few`.
use Rattle.std.proofs.Common.{◌≡◌, ◌<◌, ◌≤◌, ◌&&◌, true, false, length, sym, subst, ap, ◌∙◌, arith}
use Rattle.std.proofs.Common.{◌+◌, ℕ, Bool}
use Rattle.std.specs.Str.{bytes_eq}
use Rattle.td_rows.specs.Table.{row_of}
use Rattle.td_indices.specs.Opening.{opening_row}
use Rattle.td_indices.specs.OpeningRows.{has_row_before, with_opening}
use Rattle.td_indices.specs.Rows.{has_row, rows_before}
use Rattle.td_indices.proofs.OpeningRows.{before_end, opened_next, opened_none, opened_past}
use Rattle.td_indices.proofs.OpeningRows.{rows_next, rows_past}
use Rattle.td_indices.proofs.archive.Archive.open_source.Goals as goal
use Rattle.td_indices.proofs.archive.Archive.open_source.Goals.{then-has_row_at+in_ok-open_at}
use Rattle.td_indices.proofs.archive.Archive.open_source.Goals.{else-has_row_at}

pub loop-place-init : goal.loop-place-init
loop-place-init c = record {
  opened = λ k. opened_none c.args.self.now c.args.name.now c.args.sourced.now.archs.now k
      (row_of c.args.rows.now.entries k);
  few = omega arith;
}

pub loop-place-preserved : goal.loop-place-preserved
loop-place-preserved c =
    let a = c.args.self.now in
    let within : c.loop-place.place < length a.table =
    subst (λ (n : ℕ). c.loop-place.place < n) c.arch_count-place-end.ensures
    c.loop-place-test.true in
    elim c.if-has_row_at.branch [
      | then-has_row_at+in_ok-open_at w ↦
          let has : has_row a.table c.args.sourced.now.archs.now c.loop-place.place ≡ true =
          sym c.has_row_at.ensures ∙ w.if-has_row_at.true in
          let more = rows_next a.table c.args.sourced.now.archs.now c.loop-place.place has in
          record {
            opened = λ k. opened_next a c.args.rows.now.entries c.loop-place.rows.entries
                c.if-has_row_at.rows.entries c.args.name.now c.args.sourced.now.archs.now
                c.loop-place.place
                c.requires.apart within has c.loop-place.invariant.opened
                (λ q. ap (λ m. row_of m.entries q) w.rows-is ∙ w.in_ok-open_at.ensures.rows q) k;
            few = (let is = ap (λ m. length m.entries) w.rows-is in
                let one = w.in_ok-open_at.ensures.few in let before = c.loop-place.invariant.few in
                omega arith);
          }
      | else-has_row_at w ↦
          let none : has_row a.table c.args.sourced.now.archs.now c.loop-place.place ≡ false =
          sym c.has_row_at.ensures ∙ w.if-has_row_at.false in
          let same = rows_past a.table c.args.sourced.now.archs.now c.loop-place.place none in
          record {
            opened = λ k. ap (λ m. row_of m.entries k) w.rows-is ∙ c.loop-place.invariant.opened k
                ∙ opened_past a c.args.name.now c.args.sourced.now.archs.now c.loop-place.place none
                k
                (row_of c.args.rows.now.entries k);
            few = (let is = ap (λ m. length m.entries) w.rows-is in
                let before = c.loop-place.invariant.few in omega arith);
          }
    ]

pub returns-clause-rows : goal.returns-clause-rows
returns-clause-rows c = λ k.
    let a = c.args.self.now in
    let end : c.loop-place.place ≡ length a.table = omega arith in
    let old = row_of c.args.rows.now.entries k in
    c.loop-place.invariant.opened k
    ∙ ap (λ (n : ℕ). with_opening
    (bytes_eq k.source c.args.name.now
    && has_row_before a.table c.args.sourced.now.archs.now n k.arch)
    (opening_row a k) old) end
    ∙ ap (λ (b : Bool). with_opening (bytes_eq k.source c.args.name.now && b)
    (opening_row a k) old) (before_end a.table c.args.sourced.now.archs.now k.arch)

pub returns-clause-few : goal.returns-clause-few
returns-clause-few c =
    let a = c.args.self.now in
    let end : c.loop-place.place ≡ length a.table = omega arith in
    subst (λ (n : ℕ). length c.loop-place.rows.entries
    ≤ length c.args.rows.now.entries + rows_before a.table c.args.sourced.now.archs.now n) end
    c.loop-place.invariant.few
