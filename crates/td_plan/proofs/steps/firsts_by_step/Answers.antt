-- `firsts_by_step`: its loop, and what it answers.
use Rattle.std.proofs.Common.{◌≡◌, ◌∙◌, ap, arith, length, ℕ}
use Rattle.std.specs.Prelude.{filter}
use Rattle.std.specs.List.{range_with_len}
use Rattle.td_plan.specs.inner.Stepping.{is_first_on}
use Rattle.td_plan.proofs.StepFirsts.{filter-next}
use Rattle.td_plan.proofs.steps.firsts_by_step.Goals as goal

pub loop-number-preserved : goal.loop-number-preserved
loop-number-preserved c =
    let parts = c.args.parts.now in
    let n = c.loop-number.number in
    record {
      at = λ sized step low.
          filter-next (is_first_on parts step) n _ _
          (c.in_ok-push_first.ensures.lists sized (omega arith) step
          (omega (arith, low, c.loop-number.invariant.len)))
          (c.loop-number.invariant.at sized step low);
      len = c.in_ok-push_first.ensures.len ∙ c.loop-number.invariant.len;
    }

pub returns-clause-firsts : goal.returns-clause-firsts
returns-clause-firsts c = λ sized step low.
    let parts = c.args.parts.now in
    let all : c.loop-number.number ≡ length parts.firsts.items = omega arith in
    c.loop-number.invariant.at sized step low
    ∙ ap (λ (n : ℕ). filter (is_first_on parts step) (range_with_len 0 n)) all
