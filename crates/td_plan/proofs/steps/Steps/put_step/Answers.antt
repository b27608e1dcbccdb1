-- `Steps::put_step`: the lines of a step.
use Rattle.std.proofs.Common.{◌≡◌, ◌==◌, ◌++◌, ◌∷◌, ◌∙◌, [], List, ap, append-nil, append_assoc}
use Rattle.std.proofs.Common.{codes, cond, decimal, false, length, rules, string_bytes, sym, true}
use Rattle.std.proofs.Common.{ℕ, Bool}
use Rattle.td_text.specs.Lines.{text_of}
use Rattle.td_waves.specs.Graph.{lists}
use Rattle.td_plan.specs.Steps.{step_words}
use Rattle.td_plan.specs.inner.Stepping.{parts_lines}
use Rattle.td_plan.proofs.SourceTexts.{line-then}
use Rattle.td_plan.proofs.steps.Steps.put_step.Goals as goal

pub returns-then-is_empty : goal.returns-then-is_empty
returns-then-is_empty c = λ t is within all.
    let steps = c.args.self.now in
    let none : (length c.args.firsts.now == 0) ≡ true = search rules in
    sym (ap (λ (b : Bool). string_bytes c.args.out.now ++ text_of (cond b []
    (step_words c.args.step ∷ parts_lines c.args.why steps (lists c.args.members.now)
    c.args.firsts.now))) none ∙ append-nil (string_bytes c.args.out.now))

pub returns : goal.returns
returns c = λ t is within all.
    let steps = c.args.self.now in
    let old = string_bytes c.args.out.now in
    let step = decimal c.args.step in
    let lines = parts_lines c.args.why steps (lists c.args.members.now) c.args.firsts.now in
    let some : (length c.args.firsts.now == 0) ≡ false = search rules in
    line-then old (string_bytes c.push_str-2.new.self) (string_bytes c.put_parts.new.out)
    (step_words c.args.step) lines
    (c.in_ok-push_str-2.ensures.bytes
    ∙ ap (λ (l : List ℕ). l ++ 10 ∷ []) (c.in_ok-put_number.ensures.ok
    ∙ ap (λ (l : List ℕ). l ++ step) c.in_ok-push_str.ensures.bytes
    ∙ append_assoc old (codes "step ") step)
    ∙ append_assoc old (step_words c.args.step) (10 ∷ []))
    (c.in_ok-put_parts.ensures t is within all)
    ∙ ap (λ (b : Bool). old ++ text_of (cond b [] (step_words c.args.step ∷ lines))) (sym some)
