-- `IndexText::into_stanzas`: a fault of the text, as that of the file.
use Rattle.std.proofs.Common.{ℕ, ◌++◌, List, MatchResult, Result, subst, sym}
use Rattle.td_text.specs.Lines.{lines_of}
use Rattle.td_stanza.specs.Field.{Entry}
use Rattle.td_stanza.specs.StanzaFaults.{IsFaultOf}
use Rattle.td_stanza.specs.StanzaGrammar.{AreStanzas}
use Rattle.td_stanza.specs.declared.fault.StanzaFault.{StanzaFault}
use Rattle.td_indices.specs.declared.archive_fault.ArchiveFault.{ArchiveFault}
use Rattle.td_indices.specs.Archive.{StanzaFaultOf}
use Rattle.td_indices.proofs.StanzaLists.{faulty_file}
use Rattle.td_indices.proofs.index_text.IndexText.into_stanzas.Goals as goal

pub returns-in-Err : goal.returns-in-Err
returns-in-Err c =
    let fault = c.in-Err.fault in
    let lines = lines_of c.args.self in
    let own = c.self.inside.front.now ++ c.self.inside.rest.now in
    let found : IsFaultOf lines fault =
    subst (λ (text : List ℕ). IsFaultOf (lines_of text) fault) c.self.view_is
    (subst (λ (r : Result (List (List Entry)) StanzaFault). MatchResult r
    (λ list. AreStanzas list (lines_of own)) (IsFaultOf (lines_of own))) c.in-Err.is
    c.self.invariant) in
    subst (λ (e : ArchiveFault). StanzaFaultOf c.args.file lines e) (sym c.in_file.ensures)
    (faulty_file c.args.file lines fault found)
