-- `StanzaList::is_empty`: what it answers.
use Rattle.std.proofs.Common.{◌≡◌, eqb, length, map, sym, ap, ◌∙◌, rules}
use Rattle.td_stanza.specs.Table.{shown}
use Rattle.td_stanza.proofs.Places.{length-pieces}
use Rattle.td_stanza.proofs.table.StanzaList.is_empty.Goals as goal

pub returns : goal.returns
returns c =
    let none : c.is_empty.result ≡ eqb (length c.self.inside.starts.items) 0 = search rules in
    none ∙ ap (λ n. eqb n 0)
    (sym (length-pieces (map shown c.self.inside.fields.items) c.self.inside.starts.items)
    ∙ ap length c.self.view_is)
