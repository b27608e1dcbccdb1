-- `Key::source`: the clause `one_line`.
use Rattle.std.proofs.Common.{ap, sym, ◌∙◌}
use Rattle.std.specs.String.{string_bytes}
use Rattle.td_rows.specs.declared.key.Key.{Key}
use Rattle.td_rows.specs.Text.{has_newline}
use Rattle.td_rows.proofs.KeyPlaces.{has_newline-parts}
use Rattle.td_rows.proofs.key.Key.source.Goals as goal

pub returns-clause-one_line : goal.returns-clause-one_line
returns-clause-one_line c =
    ap (λ (k : Key). has_newline k.source) (sym c.self.view_is)
    ∙ (has_newline-parts c.self.inside.slash (string_bytes c.self.inside.text)
    c.self.invariant.one_line).0
