-- `build_each`: its loop, and the clauses of what was asked and built.
use Rattle.std.proofs.Common.{◌<◌, ◌≤◌, ◌+◌, [], subst, arith, rules, drop, length, refl}
use Rattle.std.proofs.Common.{◌∙◌}
use Rattle.std.proofs.lemmas.List.{take_all}
use Rattle.td_builder.specs.Rounds.{AreAsked, Claims}
use Rattle.td_builder.proofs.Rounding.{asked_next, asks_all, asks_front}
use Rattle.td_builder.proofs.Turning.{worked_more, worked_table, until_more, on_err_from}
use Rattle.td_builder.proofs.working.build_each.Goals as goal

pub returns-in_err-built-clause-meanwhile : goal.returns-in_err-built-clause-meanwhile
returns-in_err-built-clause-meanwhile g c =
    on_err_from c.from_residual.result _
    (until_more (g.F.Floor.jobs c.args.floor.now) (g.F.Floor.ends c.args.floor.now)
    g.B.Builds.goes_on (g.F.Floor.breaks_off c.args.floor.now) c.args.seat.now c.loop-row.seat
    c.claim_and_build.new.seat c.args.builds.now c.loop-row.builds c.claim_and_build.new.builds
    c.loop-row.built c.loop-row.invariant.0 c.in_err-built.ensures.meanwhile)

pub returns-in_err-built-clause-asked_meanwhile : goal.returns-in_err-built-clause-asked_meanwhile
returns-in_err-built-clause-asked_meanwhile g c =
    let rows = c.args.rows.now in
    let i = c.loop-row.row-index in
    let within : i < length rows = search rules in
    on_err_from c.from_residual.result _ (
      drop (i + 1) rows,
      asks_front (g.F.Floor.rows c.args.floor.now) rows (i + 1) c.args.seat.now
          c.claim_and_build.new.seat
          (asked_next (g.F.Floor.rows c.args.floor.now) rows i c.args.seat.now c.loop-row.seat
          c.claim_and_build.new.seat within c.loop-row.invariant.3
          c.in_err-built.ensures.asked),
    )

pub returns-then-built-most-clause-asked : goal.returns-then-built-most-clause-asked
returns-then-built-most-clause-asked g c = (
  drop c.loop-row.row-index c.args.rows.now,
  asks_front (g.F.Floor.rows c.args.floor.now) c.args.rows.now c.loop-row.row-index
      c.args.seat.now c.loop-row.seat c.loop-row.invariant.3,
  λ less. absurd (omega (arith, less, c.if-built-most.true)),
)

pub loop-row-preserved : goal.loop-row-preserved
loop-row-preserved g c =
    let rows = c.args.rows.now in
    let i = c.loop-row.row-index in
    let within : i < length rows = search rules in (
      worked_more (g.F.Floor.jobs c.args.floor.now) (g.F.Floor.ends c.args.floor.now)
          g.B.Builds.goes_on c.args.seat.now c.loop-row.seat c.claim_and_build.new.seat
          c.args.builds.now c.loop-row.builds c.claim_and_build.new.builds c.loop-row.built
          c.in_ok-built.field-0 c.loop-row.invariant.0 c.in_ok-built.ensures.worked.0,
      omega (arith, c.loop-row.invariant.1, c.if-built-most.false, c.in_ok-built.ensures.worked.1),
      c.in_ok-built.ensures.idle,
      asked_next (g.F.Floor.rows c.args.floor.now) rows i c.args.seat.now c.loop-row.seat
          c.claim_and_build.new.seat within c.loop-row.invariant.3
          c.in_ok-built.ensures.asked,
    )

pub returns-clause-asked : goal.returns-clause-asked
returns-clause-asked g c =
    let rows = c.args.rows.now in
    let all : length rows ≤ c.loop-row.row-index = search rules in (
      [],
      asks_all (g.F.Floor.rows c.args.floor.now) rows c.args.seat.now c.loop-row.seat
          (subst (λ l. Claims (AreAsked (g.F.Floor.rows c.args.floor.now) l) c.args.seat.now
          c.loop-row.seat) (take_all c.loop-row.row-index rows all) c.loop-row.invariant.3),
      λ less. refl,
    )

pub claim_and_build-requires-clause-table : goal.claim_and_build-requires-clause-table
claim_and_build-requires-clause-table g c =
    worked_table (g.F.Floor.jobs c.args.floor.now) (g.F.Floor.ends c.args.floor.now)
    g.B.Builds.goes_on c.args.seat.now c.loop-row.seat c.args.builds.now c.loop-row.builds
    c.loop-row.built c.loop-row.invariant.0 ∙ c.requires.table
