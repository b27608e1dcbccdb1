-- `parts_of`: what it answers, its loop, its calls and its sums.
use Rattle.std.proofs.Common.{◌≡◌, ◌<◌, true, false, ℕ, List, ◌∷◌, ◌++◌, ◌+◌, ◌-◌, ◌≤◌, Option}
use Rattle.std.proofs.Common.{length, ap, refl, subst, sym, ◌∙◌, rules, arith}
use Rattle.std.specs.Borrow.{Bor}
use Rattle.std.specs.Str.{IsCharBoundary}
use Rattle.std.proofs.lemmas.Str.{IsCharBoundary-at_seam}
use Rattle.std.proofs.lemmas.List.{length-append}
use Rattle.td_text.specs.Lines.{lines_of, lines_left, left_text}
use Rattle.td_simulate.specs.SimulationText.{is_mark, lines_after, number_after}
use Rattle.td_simulate.proofs.TextParts.{IsTaken, IsTaken-none, taken-mark, taken-last, taken-other}
use Rattle.td_simulate.proofs.TextParts.{after-mark, after-other, after-last, number-mark}
use Rattle.td_simulate.proofs.TextParts.{number-other, length-mark}
use Rattle.td_simulate.proofs.parts.parts_of.Goals as goal

pub loop-rest-init : goal.loop-rest-init
loop-rest-init c =
    record {
      taken = subst (λ (n : ℕ). IsTaken c.args.text.now n c.args.text.now) (omega arith)
          (IsTaken-none c.args.text.now);
      after = refl;
      number = refl;
      small = omega arith;
      utf8 = search rules;
    }

pub split_at-requires : goal.split_at-requires
split_at-requires c =
    let taken = c.loop-rest.invariant.taken in
    subst (IsCharBoundary c.args.text.now) taken.length
    (IsCharBoundary-at_seam c.args.text.now taken.front c.loop-rest.rest.now taken.parts
    c.loop-rest.invariant.utf8)

pub returns-then-eq-clause-opening : goal.returns-then-eq-clause-opening
returns-then-eq-clause-opening c =
    let mark : is_mark c.next_line.result.0.now ≡ true = search rules in
    c.split_at.ensures.front
    ∙ taken-mark c.args.text.now c.loop-rest.rest.now c.next_line.result.0.now _
    (length c.args.text.now - length c.loop-rest.rest.now) c.loop-rest.invariant.taken
    c.next_line.ensures.lines mark

pub returns-then-eq-clause-steps : goal.returns-then-eq-clause-steps
returns-then-eq-clause-steps c =
    let mark : is_mark c.next_line.result.0.now ≡ true = search rules in
    c.behind-steps.ensures.lines
    ∙ sym (c.loop-rest.invariant.after ∙ ap lines_after c.next_line.ensures.lines
    ∙ after-mark c.next_line.result.0.now _ mark)

pub returns-then-eq-clause-first : goal.returns-then-eq-clause-first
returns-then-eq-clause-first c = λ _.
    let mark : is_mark c.next_line.result.0.now ≡ true = search rules in
    let two : c.loop-rest.passed + 2 ≡ c.loop-rest.passed + 1 + 1 = omega arith in
    two ∙ sym (c.loop-rest.invariant.number
    ∙ ap (number_after (c.loop-rest.passed + 1)) c.next_line.ensures.lines
    ∙ number-mark (c.loop-rest.passed + 1) c.next_line.result.0.now _ mark)

pub returns-in_default-clause-opening : goal.returns-in_default-clause-opening
returns-in_default-clause-opening c =
    let other : is_mark c.next_line.result.0.now ≡ false = search rules in
    taken-last c.args.text.now c.loop-rest.rest.now c.next_line.result.0.now
    (length c.args.text.now - length c.loop-rest.rest.now) c.loop-rest.invariant.taken
    (c.next_line.ensures.text
    ∙ ap (λ (o : Option (Bor (List ℕ))). c.next_line.result.0.now ++ left_text o) c.in_default.is)
    (c.next_line.ensures.lines
    ∙ ap (λ (o : Option (Bor (List ℕ))). c.next_line.result.0.now ∷ lines_left o) c.in_default.is)
    other

pub returns-in_default-clause-steps : goal.returns-in_default-clause-steps
returns-in_default-clause-steps c =
    let other : is_mark c.next_line.result.0.now ≡ false = search rules in
    sym (c.loop-rest.invariant.after
    ∙ ap lines_after (c.next_line.ensures.lines
    ∙ ap (λ (o : Option (Bor (List ℕ))). c.next_line.result.0.now ∷ lines_left o) c.in_default.is)
    ∙ after-last c.next_line.result.0.now other)

pub loop-rest-smaller : goal.loop-rest-smaller
loop-rest-smaller c =
    let whole = c.next_line.ensures.text
    ∙ ap (λ (o : Option (Bor (List ℕ))). c.next_line.result.0.now ++ left_text o) c.in-Some.is in
    let less : length c.in-Some.after.now < length c.loop-rest.rest.now =
    omega (
      arith,
      ap length whole,
      length-append c.next_line.result.0.now (10 ∷ c.in-Some.after.now),
    ) in
    less

pub loop-rest-preserved : goal.loop-rest-preserved
loop-rest-preserved c =
    let other : is_mark c.next_line.result.0.now ≡ false = search rules in
    let whole = c.next_line.ensures.text
    ∙ ap (λ (o : Option (Bor (List ℕ))). c.next_line.result.0.now ++ left_text o) c.in-Some.is in
    let lines = c.next_line.ensures.lines
    ∙ ap (λ (o : Option (Bor (List ℕ))). c.next_line.result.0.now ∷ lines_left o) c.in-Some.is in
    record {
      taken =
          subst (λ (n : ℕ). IsTaken c.args.text.now n c.in-Some.after.now)
          (omega (
            arith,
            c.loop-rest.invariant.small,
            ap length whole,
            length-append c.next_line.result.0.now (10 ∷ c.in-Some.after.now),
          ))
          (taken-other c.args.text.now c.loop-rest.rest.now c.next_line.result.0.now
          c.in-Some.after.now (length c.args.text.now - length c.loop-rest.rest.now)
          c.loop-rest.invariant.taken whole lines other);
      after = c.loop-rest.invariant.after ∙ ap lines_after lines
          ∙ after-other c.next_line.result.0.now (lines_of c.in-Some.after.now) other;
      number = c.loop-rest.invariant.number ∙ ap (number_after (c.loop-rest.passed + 1)) lines
          ∙ number-other (c.loop-rest.passed + 1) c.next_line.result.0.now
          (lines_of c.in-Some.after.now) other;
      small = omega (
        arith,
        c.loop-rest.invariant.small,
        ap length whole,
        length-append c.next_line.result.0.now (10 ∷ c.in-Some.after.now),
      );
      utf8 = search rules;
    }

-- the line `steps` has five letters
marked : (rest line : List ℕ) (o : Option (Bor (List ℕ))) → rest ≡ line ++ left_text o
    → is_mark line ≡ true → 5 ≤ length rest
marked rest line o whole mark =
    let five = length-mark line mark in
    omega (arith, ap length whole, length-append line (left_text o), five)

pub overflow_add-result : goal.overflow_add-result
overflow_add-result c =
    let mark : is_mark c.next_line.result.0.now ≡ true = search rules in
    let five = marked c.loop-rest.rest.now c.next_line.result.0.now c.next_line.result.1
    c.next_line.ensures.text mark in
    omega (arith, five, c.loop-rest.invariant.small)

pub returns-then-eq-clause-small : goal.returns-then-eq-clause-small
returns-then-eq-clause-small c =
    let mark : is_mark c.next_line.result.0.now ≡ true = search rules in
    let five = marked c.loop-rest.rest.now c.next_line.result.0.now c.next_line.result.1
    c.next_line.ensures.text mark in
    let left = c.behind-steps.ensures.shorter in
    let text = ap length c.next_line.ensures.text
    ∙ length-append c.next_line.result.0.now (left_text c.next_line.result.1) in
    omega (arith, five, left, text, c.loop-rest.invariant.small, c.next_line.ensures.shorter)
