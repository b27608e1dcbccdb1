-- `keep_source`: what it answers.
use Rattle.std.proofs.Common.{ℕ, sym, ◌∙◌, ap, List}
use Rattle.std.specs.Borrow.{Bor}
use Rattle.td_indices.specs.declared.sourced.Sourced.{Sourced}
use Rattle.td_indices.specs.Sources.{sources_of}
use Rattle.td_indices.proofs.SourceKeeping.{source_put_stays, source_put_enters}
use Rattle.td_indices.proofs.source_keeping.keep_source.Goals as goal

pub returns-then-has_better : goal.returns-then-has_better
returns-then-has_better c =
    source_put_stays c.args.kept.now.entries c.args.name c.args.sourced
    (sym c.has_better.ensures ∙ c.if-has_better.true)

pub returns-in-Ok : goal.returns-in-Ok
returns-in-Ok c =
    ap (λ (es : List (Bor (List ℕ) × Sourced)). sources_of es) c.in-Ok.ensures.entries
    ∙ source_put_enters c.args.kept.now.entries c.args.name c.args.sourced
    (sym c.has_better.ensures ∙ c.if-has_better.false)
