-- `Key::arch`: the clause `one_line` and the call of `range_from`.
use Rattle.std.proofs.Common.{◌+◌, ap, sym, ◌∙◌}
use Rattle.std.specs.String.{string_bytes}
use Rattle.td_rows.specs.declared.key.Key.{Key}
use Rattle.td_rows.specs.Text.{has_newline}
use Rattle.td_rows.proofs.KeyPlaces.{has_newline-parts, IsCharBoundary-behind}
use Rattle.td_rows.proofs.key.Key.arch.Goals as goal

pub range_from-requires : goal.range_from-requires
range_from-requires c _ =
    IsCharBoundary-behind (string_bytes c.self.inside.text) _ c.self.inside.slash
    c.as_str.ensures.value c.as_str.utf8 c.self.invariant

pub returns-clause-one_line : goal.returns-clause-one_line
returns-clause-one_line c =
    ap (λ (k : Key). has_newline k.arch) (sym c.self.view_is)
    ∙ (has_newline-parts (c.self.inside.slash + 1) (string_bytes c.self.inside.text)
    c.self.invariant.one_line).1
