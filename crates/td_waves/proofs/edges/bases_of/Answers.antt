-- `bases_of`: its clauses.
use Rattle.std.proofs.Common.{◌≡◌, ℕ, Option, Some, None, sym, ap, ◌∙◌}
use Rattle.td_waves.proofs.Finding.{builds_is, finds_is, ok_then}
use Rattle.td_waves.proofs.Names.{name_is}
use Rattle.td_waves.specs.Edges.{name_at}
use Rattle.td_waves.specs.declared.asking.Asker.{Asker}
use Rattle.td_indices.specs.Archive.{number_named}
use Rattle.td_waves.proofs.edges.bases_of.Goals as goal

pub returns-clause-bases : goal.returns-clause-bases
returns-clause-bases c =
    let names = c.args.names.now.keys in
    let own = c.index-name.result.now.now in
    let asker : Asker = record {
      archive = c.args.archive;
      names = c.args.names;
      providers = c.args.providers;
      name = c.index-name.result.now;
      number = c.in-Some.number;
    } in
    ok_then c.bases.result _ _ c.bases.ensures (λ v h t.
    h t
    ∙ finds_is asker t c.requires.providers
    ∙ builds_is c.args.archive.now names own (name_at names c.args.node) c.in-Some.number t
    (name_is names c.args.node c.index-name.result.now c.index-name.ensures)
    (sym c.source_number.ensures.number ∙ c.in-Some.is))

no_number : (n : ℕ) (o : Option ℕ) → o ≡ Some n → o ≡ None → ⊥
no_number n o some none = cc

-- a source was found
pub returns-clause-sourceless : goal.returns-clause-sourceless
returns-clause-sourceless c none =
    let names = c.args.names.now.keys in
    let here = name_is names c.args.node c.index-name.result.now c.index-name.ensures in
    absurd (no_number c.in-Some.number
    (number_named c.args.archive.now (name_at names c.args.node))
    (ap (number_named c.args.archive.now) here ∙ sym c.source_number.ensures.number
    ∙ c.in-Some.is) none)
