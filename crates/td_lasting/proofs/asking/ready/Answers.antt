-- `ready`: a row more is looked at; what the sort leaves.
use Rattle.std.proofs.Common.{◌<◌, ◌≤◌, ℕ, List, Option, ap, sym, ◌∙◌}
use Rattle.std.proofs.Common.{arith, length, option_map}
use Rattle.std.specs.Borrow.{Bor}
use Rattle.std.proofs.lemmas.List.{take_all}
use Rattle.td_rows.proofs.Lists.{slice_get-none}
use Rattle.td_lasting.specs.Ready.{by_priority, queued_on}
use Rattle.td_lasting.proofs.ReadyOrder.{ready_pass, ready_push, sorted_each}
use Rattle.td_lasting.proofs.ReadyOrder.{sorted_rows}
use Rattle.td_lasting.proofs.asking.ready.Goals as goal
use Rattle.td_lasting.proofs.asking.ready.Goals.{in-Some+then-is_queued_on+in_ok-push}
use Rattle.td_lasting.proofs.asking.ready.Goals.{in-Some+else-is_queued_on, in_default}

pub loop-number-preserved : goal.loop-number-preserved
loop-number-preserved c = elim c.match-at.branch [
  | in-Some+then-is_queued_on+in_ok-push w ↦
      ready_push c.args.rows.now (option_map (λ (a : Bor (List ℕ)). a.now) c.args.arch)
      c.loop-number.number c.loop-number.numbers.items c.match-at.numbers.items
      (w.in-Some.key.now, w.in-Some.row.now) c.loop-number.invariant (sym w.in-Some.ensures)
      (sym w.is_queued_on.ensures ∙ w.if-is_queued_on.true)
      (ap (λ v. v.items) w.numbers-is ∙ w.in_ok-push.ensures.items)
  | in-Some+else-is_queued_on w ↦
      ready_pass c.args.rows.now (option_map (λ (a : Bor (List ℕ)). a.now) c.args.arch)
      c.loop-number.number c.loop-number.numbers.items c.match-at.numbers.items
      (w.in-Some.key.now, w.in-Some.row.now) c.loop-number.invariant (sym w.in-Some.ensures)
      (sym w.is_queued_on.ensures ∙ w.if-is_queued_on.false) (ap (λ v. v.items) w.numbers-is)
  | in_default w ↦
      let within : c.loop-number.number < length c.args.rows.now =
      rw (← c.len-number-end.ensures.len) c.loop-number-test.true in
      absurd (slice_get-none c.args.rows.now c.loop-number.number (sym w.in_default.ensures) within)
]

pub returns-clause-rows : goal.returns-clause-rows
returns-clause-rows c =
    let rows = c.args.rows.now in
    let n = c.loop-number.number in
    let arch : Option (List ℕ) = option_map (λ (a : Bor (List ℕ)). a.now) c.args.arch in
    let i = c.loop-number.invariant in
    let len = c.len-number-end.ensures.len in
    let end : length rows ≤ n = omega arith in
    sorted_rows rows c.loop-number.numbers.items c.sort_ready.new.numbers.items i.rise i.there
    c.sort_ready.ensures.all c.sort_ready.ensures.order
    ∙ ap by_priority (i.rows ∙ ap (queued_on arch) (take_all n rows end))

pub returns-clause-each : goal.returns-clause-each
returns-clause-each c =
    let i = c.loop-number.invariant in
    sorted_each c.args.rows.now c.loop-number.numbers.items c.sort_ready.new.numbers.items i.rise
    i.there c.sort_ready.ensures.all c.sort_ready.ensures.order
