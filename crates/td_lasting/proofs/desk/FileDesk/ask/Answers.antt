-- `FileDesk::ask`: a request that asks for no change.
use Rattle.std.proofs.Common.{◌≡◌, ap, subst, ◌∙◌, rules}
use Rattle.std.specs.String.{string_bytes}
use Rattle.std.proofs.lemmas.Result.{err_from_is_err_and}
use Rattle.td_supply.specs.Supply.{Stock}
use Rattle.td_core.specs.History.{History}
use Rattle.td_script.specs.declared.line.Said.TheVariants.{Asked}
use Rattle.td_script.specs.Replies.{asks}
use Rattle.td_lasting.specs.DeskView.{DeskView, IsAtRest, IsShown, OnlyAsks}
use Rattle.td_lasting.specs.Events.{undo_named}
use Rattle.td_lasting.specs.Terms.{setting_of}
use Rattle.td_lasting.proofs.LineAnswers.{answer_shown, lacks, request_stays}
use Rattle.td_lasting.proofs.desk.FileDesk.ask.Goals as goal

pub returns-in_err-put_asked-in_default : goal.returns-in_err-put_asked-in_default
returns-in_err-put_asked-in_default g c =
    lacks _ _ _ _ _ _ (subst IsAtRest c.self.view_is c.self.invariant.rest)
    c.put_asked.ensures.front
    (err_from_is_err_and c.from_residual.result c.from_residual.ensures.1)

pub returns-in_ok-put_asked-in_default : goal.returns-in_ok-put_asked-in_default
returns-in_ok-put_asked-in_default g c =
    let v = c.args.self.now in
    let before = string_bytes c.args.out.now in
    let now = string_bytes c.put_asked.new.out in
    let refused = c.in_ok-put_asked-in_default.field-0 in
    let terms = c.args.terms.now in
    let request = c.args.request.now in
    let stock : c.books.result.now.stock ≡ v.stock =
    c.books.ensures.stock ∙ ap (λ (w : DeskView). w.stock) c.self.view_is in
    let history : c.books.result.now.history ≡ v.history =
    c.books.ensures.history ∙ ap (λ (w : DeskView). w.history) c.self.view_is in
    let only : OnlyAsks request = search rules in
    answer_shown (asks (setting_of v.stock terms) v.history request)
    (undo_named (Asked request)) v before now refused
    (subst IsAtRest c.self.view_is c.self.invariant.rest) c.requires.running
    (request_stays (setting_of v.stock terms) v.history request only)
    (subst (λ (s : Stock).
    IsShown (asks (setting_of s terms) v.history request) before now refused) stock
    (subst (λ (h : History).
    IsShown (asks (setting_of c.books.result.now.stock terms) h request) before now refused)
    history c.in_ok-put_asked-in_default.ensures.ok))
