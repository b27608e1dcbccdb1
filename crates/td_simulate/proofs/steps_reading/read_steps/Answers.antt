-- `read_steps`: the clauses `fault` and `found`, its loop and its sums.
use Rattle.std.proofs.Common.{◌≡◌, ◌<◌, false, true, eqb, ℕ, List, [], ◌∷◌, ◌++◌, length, subst, ap}
use Rattle.std.proofs.Common.{sym, ◌∙◌, rules, arith}
use Rattle.std.proofs.lemmas.List.{length-append}
use Rattle.td_text.specs.Lines.{lines_of, ended}
use Rattle.td_text.proofs.Empty.{some_text, length_some, no_text}
use Rattle.td_text.proofs.Ended.{ended-next, ended-empty}
use Rattle.td_text.proofs.SpelledLines.{AreRead, AreRead-none, AreRead-push, AreRead-all}
use Rattle.td_text.proofs.SpelledLines.{AreRead-other}
use Rattle.td_core.specs.declared.step.Step.{Step}
use Rattle.td_simulate.specs.StepLines.{StepFits, step_line}
use Rattle.td_simulate.specs.StepReading.{step_at}
use Rattle.td_simulate.proofs.StepWords.{steps_exact}
use Rattle.td_simulate.proofs.steps_reading.read_steps.Goals as goal

pub loop-rest-init : goal.loop-rest-init
loop-rest-init c =
    let none = c.new-steps.ensures.items in
    record {
      read = subst (λ (ss : List Step). AreRead step_line StepFits
          (ended (lines_of c.args.text.now)) ss (ended (lines_of c.args.text.now))) (sym none)
          (AreRead-none step_at step_line StepFits steps_exact (ended (lines_of c.args.text.now)));
      counted = omega (arith, ap length none);
      small = omega arith;
      utf8 = search rules;
    }

pub returns-in_default-read-clause-fault : goal.returns-in_default-read-clause-fault
returns-in_default-read-clause-fault c =
    let filled : eqb (length c.loop-rest.rest.now) 0 ≡ false = search rules in
    let next = ended-next c.loop-rest.rest.now c.next_line.result.0.now c.next_line.result.1
    c.next_line.ensures.lines c.next_line.ensures.text (some_text c.loop-rest.rest.now filled) in
    AreRead-other step_at step_line StepFits steps_exact c.args.first c.loop-rest.number _
    c.loop-rest.steps.items c.next_line.result.0.now _ _ c.loop-rest.invariant.read next
    (sym (sym c.in_default-read.is ∙ c.in-Ok.ensures))
    c.loop-rest.invariant.counted

pub overflow_add-number : goal.overflow_add-number
overflow_add-number c =
    let filled : eqb (length c.loop-rest.rest.now) 0 ≡ false = search rules in
    let some = some_text c.loop-rest.rest.now filled in
    omega (arith, c.requires, c.loop-rest.invariant.small, length_some c.loop-rest.rest.now some)

pub loop-rest-smaller : goal.loop-rest-smaller
loop-rest-smaller c =
    let filled : eqb (length c.loop-rest.rest.now) 0 ≡ false = search rules in
    let some = length_some c.loop-rest.rest.now (some_text c.loop-rest.rest.now filled) in
    let less : length c.behind-rest.result.now < length c.loop-rest.rest.now =
    omega (arith, c.behind-rest.ensures.shorter, c.next_line.ensures.shorter, some) in
    less

pub loop-rest-preserved : goal.loop-rest-preserved
loop-rest-preserved c =
    let filled : eqb (length c.loop-rest.rest.now) 0 ≡ false = search rules in
    let some = some_text c.loop-rest.rest.now filled in
    let next = ended-next c.loop-rest.rest.now c.next_line.result.0.now c.next_line.result.1
    c.next_line.ensures.lines c.next_line.ensures.text some in
    let pushed : c.push.new.self.items ≡ c.loop-rest.steps.items ++ c.in-Some.step ∷ [] =
    c.in-Ok-push.ensures.items in
    record {
      read = subst (λ (ss : List Step). AreRead step_line StepFits
          (ended (lines_of c.args.text.now)) ss (ended (lines_of c.behind-rest.result.now)))
          (sym pushed)
          (AreRead-push step_at step_line StepFits steps_exact _ c.loop-rest.steps.items
          c.in-Some.step c.next_line.result.0.now _ _ c.loop-rest.invariant.read
          (next ∙ ap (λ (l : List (List ℕ)). c.next_line.result.0.now ∷ l)
          (sym c.behind-rest.ensures.lines)) (sym (sym c.in-Some.is ∙ c.in-Ok.ensures)));
      counted = omega (
        arith,
        c.loop-rest.invariant.counted,
        ap length pushed,
        length-append c.loop-rest.steps.items (c.in-Some.step ∷ []),
      );
      small = omega (
        arith,
        c.loop-rest.invariant.small,
        c.behind-rest.ensures.shorter,
        c.next_line.ensures.shorter,
        length_some c.loop-rest.rest.now some,
      );
      utf8 = search rules;
    }

pub returns-clause-found : goal.returns-clause-found
returns-clause-found c =
    let none : eqb (length c.loop-rest.rest.now) 0 ≡ true = search rules in
    AreRead-all step_at step_line StepFits steps_exact _ c.loop-rest.steps.items _
    c.loop-rest.invariant.read
    (ended-empty c.loop-rest.rest.now (no_text c.loop-rest.rest.now none))
