-- `Steps::text`: its clauses.
use Rattle.std.proofs.Common.{◌∙◌, ◌++◌, ap, cond, length, List, sym, ℕ}
use Rattle.std.specs.List.{flat_map, range_with_len}
use Rattle.td_text.specs.Lines.{text_of}
use Rattle.td_plan.specs.Steps.{part_in_line, part_with_reasons}
use Rattle.td_plan.specs.inner.Stepping.{kept_in, lines_of_steps, part_lines}
use Rattle.td_plan.proofs.AffectedSources.{affected-are}
use Rattle.td_plan.proofs.StepLines.{by-steps}
use Rattle.td_plan.proofs.steps.Steps.text.Goals as goal

pub returns-clause-parts : goal.returns-clause-parts
returns-clause-parts c = λ t is no.
    let steps = c.args.self.now in
    let all = text_of (flat_map (lines_of_steps c.args.why steps)
    (range_with_len 1 (length steps.movers.items))) in
    by-steps t steps is (part_lines c.args.why steps) part_in_line
    (λ i part. cond (no i) (part_with_reasons steps.archive.now (kept_in steps) part)
    (part_in_line part)) _
    (c.in_ok-put_steps.ensures t is ∙ ap (λ (l : List ℕ). l ++ all) c.new-out.ensures.bytes)

pub returns-clause-reasons : goal.returns-clause-reasons
returns-clause-reasons c = λ t is yes.
    let steps = c.args.self.now in
    let all = text_of (flat_map (lines_of_steps c.args.why steps)
    (range_with_len 1 (length steps.movers.items))) in
    by-steps t steps is (part_lines c.args.why steps) _
    ((λ i part. cond (yes i) (part_with_reasons steps.archive.now (kept_in steps) part)
    (part_in_line part))
    ∙ ap (part_with_reasons steps.archive.now)
    (sym (affected-are steps.archive.now t is.apart steps.movers.items is.sources))) _
    (c.in_ok-put_steps.ensures t is ∙ ap (λ (l : List ℕ). l ++ all) c.new-out.ensures.bytes)
