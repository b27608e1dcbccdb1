-- `Archive::build_relation`: the clauses `read` and `asked` and the call of `read_again`.
use Rattle.std.proofs.Common.{◌≡◌, ◌∙◌, Ok, ap, inl, inr, subst}
use Rattle.td_stanza.specs.Table.{fields_of}
use Rattle.td_indices.specs.Archive.{Contents}
use Rattle.td_indices.specs.Fields.{asked_by, relation_of}
use Rattle.td_indices.specs.Reading.{sources_at}
use Rattle.td_indices.proofs.KeptStanzas.{list_at, read_at, readable_at, source_at}
use Rattle.td_indices.proofs.archive.Archive.build_relation.Goals as goal

pub read_again-requires : goal.read_again-requires
read_again-requires c =
    let a = c.args.self.now in
    let kept = subst (λ (v : Contents). sources_at v.source_stanzas ≡ Ok v.sources) c.self.view_is
    c.self.invariant.3 in
    let fields = fields_of c.stanza_of_source.result in
    let its = readable_at a c.args.source fields kept
    (source_at a c.args.source fields c.stanza_of_source.ensures.there) in
    elim c.requires.field [
      | inl is ↦ (
        its.1.depends,
        ap (relation_of fields) is ∙ its.1.has_depends,
      )
      | inr is ↦ (
        its.1.arch_depends,
        ap (relation_of fields) is ∙ its.1.has_arch_depends,
      )
    ]

pub returns-clause-read : goal.returns-clause-read
returns-clause-read c =
    let a = c.args.self.now in
    let fields = fields_of c.stanza_of_source.result in
    read_at asked_by a c.args.source fields c.args.field
    (source_at a c.args.source fields c.stanza_of_source.ensures.there) c.read_again.result
    c.read_again.ensures

pub returns-clause-asked : goal.returns-clause-asked
returns-clause-asked c =
    let a = c.args.self.now in
    let fields = fields_of c.stanza_of_source.result in
    list_at asked_by a c.args.source fields c.args.field
    (source_at a c.args.source fields c.stanza_of_source.ensures.there) c.read_again.result
    c.read_again.ensures
