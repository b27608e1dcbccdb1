-- `FileDesk::type_in`: a line that is no command, and want of memory.
use Rattle.std.proofs.Common.{◌≡◌, true, List, ℕ, map, refl, sym, ap, subst, ◌∙◌}
use Rattle.std.specs.String.{string_bytes}
use Rattle.std.proofs.lemmas.Result.{err_from_is_err_and}
use Rattle.td_relation.specs.Arch.{ArchWords}
use Rattle.td_relation.specs.TableView.{table}
use Rattle.td_rows.proofs.Appends.{grown_by_nothing}
use Rattle.td_wbread.specs.declared.fault.CommandFault.TheVariants.{Wrong}
use Rattle.td_wbread.specs.Command.{command_at}
use Rattle.td_script.specs.Replies.{refusal_line}
use Rattle.td_script.specs.Replying.{IsPut}
use Rattle.td_lasting.specs.declared.chronicle.DeskFault.TheVariants.{NoMemory}
use Rattle.td_lasting.specs.DeskView.{DeskView, IsAtRest}
use Rattle.td_lasting.proofs.AnswerLaws.{lacking}
use Rattle.td_lasting.proofs.LineAnswers.{lacks, typed_refused}
use Rattle.td_lasting.proofs.desk.FileDesk.type_in.Goals as goal

pub returns-in_err-refuse-in-Err-Wrong : goal.returns-in_err-refuse-in-Err-Wrong
returns-in_err-refuse-in-Err-Wrong g c =
    lacks _ _ _ _ _ _ (subst IsAtRest c.self.view_is c.self.invariant.rest)
    (grown_by_nothing (string_bytes c.args.out.now) (string_bytes c.refuse.new.out)
    c.in_err-refuse-in-Err-Wrong.ensures.err)
    (err_from_is_err_and c.from_residual.result c.from_residual.ensures.1)

pub returns-in_ok-refuse-in-Err-Wrong : goal.returns-in_ok-refuse-in-Err-Wrong
returns-in_ok-refuse-in-Err-Wrong g c =
    let v = c.args.self.now in
    let before = string_bytes c.args.out.now in
    let now = string_bytes c.refuse.new.out in
    let refused = c.in_ok-refuse-in-Err-Wrong.field-0 in
    let suites = map (λ s. s.now) c.args.terms.now.suites.now in
    let line = c.args.line.now in
    let tables : table c.archs.result.now ≡ v.stock.table =
    c.archs.ensures ∙ ap (λ s. s.table) c.supply.ensures
    ∙ ap (λ (w : DeskView). w.stock.table) c.self.view_is in
    let first = rw c.in-Err-Wrong.field-0-is at c.in-Err-Wrong.ensures.fault in
    typed_refused v.stock (Wrong c.in-Err-Wrong.fault c.in-Err-Wrong.field-0-1)
    (command_at v.stock.table suites line) v before now refused
    (subst IsAtRest c.self.view_is c.self.invariant.rest) c.requires.running
    (ap (λ (t : List ArchWords). command_at t suites line) (sym tables) ∙ first)
    (subst (λ (l : List ℕ). IsPut (refusal_line l) true before now refused) c.name.ensures
    c.in_ok-refuse-in-Err-Wrong.ensures.ok)

pub returns-in-Err-NoMemory : goal.returns-in-Err-NoMemory
returns-in-Err-NoMemory g c =
    let before = string_bytes c.args.out.now in
    lacking _ _ _ _ _ NoMemory refl (subst IsAtRest c.self.view_is c.self.invariant.rest)
    (grown_by_nothing before before refl)
