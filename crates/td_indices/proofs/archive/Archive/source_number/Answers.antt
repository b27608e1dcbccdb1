-- `Archive::source_number`: the clause `number`.
use Rattle.std.proofs.Common.{ℕ, List, Bor, sym, ap, ◌∙◌}
use Rattle.std.specs.Str.{bytes_eq}
use Rattle.td_relation.proofs.Lists.{position-map}
use Rattle.td_indices.specs.declared.sourced.Sourced.{Sourced}
use Rattle.td_indices.specs.Archive.{Contents, number_named}
use Rattle.td_indices.specs.Sources.{KeptSource, source_of}
use Rattle.td_indices.proofs.archive.Archive.source_number.Goals as goal

pub returns-clause-number : goal.returns-clause-number
returns-clause-number c =
    let es = c.self.inside.sources.entries in
    let key : Bor (List ℕ) × Sourced → Bor (List ℕ) = λ p. p.0 in
    c.get_index_of.ensures.index
    ∙ position-map (λ (k : Bor (List ℕ)). bytes_eq c.args.name.now k.now) key es
    ∙ sym (position-map (λ (s : KeptSource). bytes_eq c.args.name.now s.head.name) source_of es)
    ∙ ap (λ (a : Contents). number_named a c.args.name.now) c.self.view_is
