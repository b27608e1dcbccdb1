-- `Steps::put_steps`: its loop, and what it answers.
use Rattle.std.proofs.Common.{◌≡◌, ◌<◌, ◌-◌, ◌++◌, ◌∙◌, List, ap, arith, length, refl, string_bytes}
use Rattle.std.proofs.Common.{subst}
use Rattle.std.proofs.Common.{sym, ℕ}
use Rattle.std.specs.Global.{Vec}
use Rattle.std.specs.List.{flat_map, range_with_len}
use Rattle.td_text.specs.Lines.{text_of}
use Rattle.td_waves.specs.Graph.{lists}
use Rattle.td_plan.specs.inner.Ordering.{AreMembers, ArePartsOf}
use Rattle.td_plan.specs.inner.Stepping.{firsts_on, lines_of_steps}
use Rattle.td_plan.proofs.SourcePlaces.{text-more}
use Rattle.td_plan.proofs.StepFirsts.{firsts-listed, members-of, step-lines, steps-lines}
use Rattle.td_plan.proofs.Turned.{lists-at}
use Rattle.td_plan.proofs.steps.Steps.put_steps.Goals as goal

pub loop-step-preserved : goal.loop-step-preserved
loop-step-preserved c = λ t is.
    let steps = c.args.self.now in
    let why = c.args.why in
    let step = c.loop-step.step in
    let members = c.deref.result.now in
    let vs = c.in_ok-firsts.firsts.items in
    let v = c.index.result.now in
    let old = string_bytes c.loop-step.out in
    let sized : ArePartsOf (length steps.parts.firsts.items) steps.parts =
    record { firsts = refl; steps = is.parts.steps ∙ sym is.parts.firsts } in
    let are : AreMembers steps.parts.firsts.items (lists members) =
    subst (λ (l : List (Vec ℕ)). AreMembers steps.parts.firsts.items (lists l))
    (sym c.deref.ensures.value) c.in_ok-members.ensures in
    let low : step < length vs = omega arith in
    let firsts : c.deref-in-loop-step.result.now ≡ firsts_on steps.parts step =
    c.deref-in-loop-step.ensures.value ∙ ap (λ (u : Vec ℕ). u.items) c.index.ensures
    ∙ sym (lists-at vs step v low)
    ∙ c.in_ok-firsts.ensures.firsts sized step (omega (arith, low, c.in_ok-firsts.ensures.len)) in
    text-more (string_bytes c.args.out.now) old (string_bytes c.put_step.new.out) _
    (text_of (lines_of_steps why steps step)) _ (c.loop-step.invariant t is)
    (c.in_ok-put_step.ensures t is (members-of t steps is (lists members) are)
    (firsts-listed steps.parts members step c.deref-in-loop-step.result.now are firsts)
    ∙ ap (λ (l : List (List ℕ)). old ++ text_of l)
    (step-lines why steps (lists members) step c.deref-in-loop-step.result.now are firsts))
    (steps-lines (lines_of_steps why steps) step (omega arith))

pub returns : goal.returns
returns c = λ t is.
    let steps = c.args.self.now in
    let all : c.loop-step.step - 1 ≡ length steps.movers.items =
    omega (arith, c.in_ok-firsts.ensures.len, is.parts.firsts) in
    c.loop-step.invariant t is
    ∙ ap (λ (n : ℕ). string_bytes c.args.out.now
    ++ text_of (flat_map (lines_of_steps c.args.why steps) (range_with_len 1 n))) all
