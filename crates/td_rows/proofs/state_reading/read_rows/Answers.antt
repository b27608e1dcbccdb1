-- `read_rows`: the clauses `err` and `ok` and its loop.
use Rattle.std.proofs.Common.{◌≡◌, ap, arith, rules, sym, ◌∙◌, false, true, eqb, length, Ok}
use Rattle.std.proofs.lemmas.Result.{err_from_is_err_and}
use Rattle.td_text.specs.Lines.{left_len}
use Rattle.td_text.proofs.Lines.{taken, stepped, skips, ends}
use Rattle.td_rows.specs.StateReading.{state_step}
use Rattle.td_rows.proofs.StateTexts.{state_step-empty, state_step-filled, Fails-over_lines}
use Rattle.td_rows.proofs.state_reading.read_rows.Goals as goal

pub returns-in_err-key-clause-err : goal.returns-in_err-key-clause-err
returns-in_err-key-clause-err c =
    let p = err_from_is_err_and c.from_residual.result c.from_residual.ensures.1 in
    let filled : eqb (length c.next_line.result.0.now) 0 ≡ false = search rules in
    let h = taken state_step _ _ c.loop-rest.rest c.in-Some.text _ _ _ c.in-Some.is
    c.next_line.ensures.lines c.loop-rest.invariant.decides in
    rw (p.1, p.2) (Fails-over_lines _ _ _ _ _ _ filled c.in_err-key.ensures.err h)

pub loop-rest-preserved-in-Continue-branch-2 : goal.loop-rest-preserved-in-Continue-branch-2
loop-rest-preserved-in-Continue-branch-2 c =
    let filled : eqb (length c.next_line.result.0.now) 0 ≡ false = search rules in
    let h = taken state_step _ _ c.loop-rest.rest c.in-Some.text _ _ _ c.in-Some.is
    c.next_line.ensures.lines c.loop-rest.invariant.decides in
    record {
      decides = stepped state_step _ _ _ _ _ _
          (state_step-filled _ _ _ filled ∙ c.in_ok-key.ensures.ok
          ∙ ap Ok (sym c.in_ok-push_row.ensures.ok)) h;
      small = omega (arith, ap left_len c.in-Some.is);
    }

pub loop-rest-preserved : goal.loop-rest-preserved
loop-rest-preserved c =
    let none : eqb (length c.next_line.result.0.now) 0 ≡ true = search rules in
    let h = taken state_step _ _ c.loop-rest.rest c.in-Some.text _ _ _ c.in-Some.is
    c.next_line.ensures.lines c.loop-rest.invariant.decides in
    record {
      decides = skips state_step _ _ _ _ _ (state_step-empty _ _ _ none) h;
      small = omega (arith, ap left_len c.in-Some.is);
    }

pub returns-clause-ok : goal.returns-clause-ok
returns-clause-ok c =
    ends state_step _ _ c.loop-rest.rest _ c.in_default-rest.is c.loop-rest.invariant.decides
