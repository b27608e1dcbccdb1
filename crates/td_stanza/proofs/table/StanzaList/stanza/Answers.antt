-- `StanzaList::stanza`: the clause `distinct` and its type's invariant.
use Rattle.std.proofs.Common.{sym, ap, ◌∙◌, map}
use Rattle.td_stanza.specs.Table.{shown, pieces}
use Rattle.std.specs.List.{slice_get}
use Rattle.td_stanza.proofs.Places.{stanza_distinct}
use Rattle.td_stanza.proofs.table.StanzaList.stanza.Goals as goal

pub invariant_of-result : goal.invariant_of-result
invariant_of-result c = record {
  distinct =
      stanza_distinct c.self.inside.fields.items c.self.inside.starts.items c.args.number
      (map shown c.in_ok-fields.fields.now) c.self.invariant
      (sym (c.in_ok-fields.ensures
      ∙ ap (λ l. slice_get (pieces (map shown l) c.as_slice-2.result.now) c.args.number)
      c.as_slice.ensures.value
      ∙ ap (λ l. slice_get (pieces (map shown c.self.inside.fields.items) l) c.args.number)
      c.as_slice-2.ensures.value));
}

pub returns-clause-distinct : goal.returns-clause-distinct
returns-clause-distinct c =
    stanza_distinct c.self.inside.fields.items c.self.inside.starts.items c.args.number
    (map shown c.in_ok-fields.fields.now) c.self.invariant
    (sym (c.in_ok-fields.ensures
    ∙ ap (λ l. slice_get (pieces (map shown l) c.as_slice-2.result.now) c.args.number)
    c.as_slice.ensures.value
    ∙ ap (λ l. slice_get (pieces (map shown c.self.inside.fields.items) l) c.args.number)
    c.as_slice-2.ensures.value))
