-- `is_suite`: what it answers.
use Rattle.std.proofs.Common.{List, ℕ, sym, ◌∙◌}
use Rattle.std.specs.Borrow.{Bor}
use Rattle.std.specs.Str.{bytes_eq}
use Rattle.td_text.proofs.Chain.{list_any-map}
use Rattle.td_wbread.proofs.option_reading.is_suite.Goals as goal

pub returns : goal.returns
returns c = c.has_suite.ensures
    ∙ sym (list_any-map (λ (s : List ℕ). bytes_eq s c.args.name.now)
    (λ (s : Bor (List ℕ)). s.now) c.args.suites.now)
