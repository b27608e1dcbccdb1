-- `Plan::source_text`: what it answers.
use Rattle.std.proofs.Common.{◌++◌, ◌∙◌, List, ap, ℕ}
use Rattle.td_text.specs.Lines.{text_of}
use Rattle.td_plan.specs.Plan.{source_lines}
use Rattle.td_plan.specs.inner.Planned.{placing_in}
use Rattle.td_plan.specs.inner.Waiters.{kept_of}
use Rattle.td_plan.specs.inner.Writing.{seen_words}
use Rattle.td_plan.proofs.plan.Plan.source_text.Goals as goal

pub returns : goal.returns
returns c = λ p m is at moving.
    let lines =
    source_lines (seen_words c.args.words.now) (placing_in c.args.self.now) p (kept_of m)
    in
    c.in_ok-put_source.ensures.ok p m is at moving
    ∙ ap (λ (t : List ℕ). t ++ text_of lines) c.new-text.ensures.bytes
