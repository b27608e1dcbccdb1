-- `StanzaList::len`: what it answers.
use Rattle.std.proofs.Common.{◌≡◌, length, map, sym, ap, ◌∙◌, rules}
use Rattle.td_stanza.specs.Table.{shown}
use Rattle.td_stanza.proofs.Places.{length-pieces}
use Rattle.td_stanza.proofs.table.StanzaList.len.Goals as goal

pub returns : goal.returns
returns c =
    let len : c.len.result ≡ length c.self.inside.starts.items = search rules in
    len ∙ sym (length-pieces (map shown c.self.inside.fields.items) c.self.inside.starts.items)
    ∙ ap length c.self.view_is
