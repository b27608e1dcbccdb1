-- `FileDesk::answer_own`: the lines that change nothing, and want of memory.
use Rattle.std.proofs.Common.{◌≡◌, List, ℕ, Option, Some, None, map, sym, ap}
use Rattle.std.proofs.Common.{subst, ◌∙◌}
use Rattle.std.specs.String.{string_bytes}
use Rattle.std.proofs.lemmas.Result.{err_from_is_err_and}
use Rattle.td_text.specs.Lines.{text_of}
use Rattle.td_rows.specs.StateWriting.{state_text}
use Rattle.td_supply.specs.Supply.{Stock}
use Rattle.td_core.specs.History.{History, rows_of}
use Rattle.td_core.specs.Offers.{supply_now}
use Rattle.td_script.specs.Replies.{says}
use Rattle.td_lasting.specs.declared.own_request.OwnRequest.TheVariants.{Ready, Rows, Lines}
use Rattle.td_lasting.specs.DeskAnswers.{readies}
use Rattle.td_lasting.specs.DeskView.{DeskView, IsAtRest, IsShown}
use Rattle.td_lasting.specs.Sending.{standing_lines}
use Rattle.td_lasting.specs.Terms.{setting_of}
use Rattle.td_lasting.proofs.LineAnswers.{lacks, own_shown, ready_stays, says_stays}
use Rattle.td_lasting.proofs.desk.FileDesk.answer_own.Goals as goal

pub returns-in_err-put_ready-in-Ready-Some : goal.returns-in_err-put_ready-in-Ready-Some
returns-in_err-put_ready-in-Ready-Some g c =
    lacks _ _ _ _ _ _ (subst IsAtRest c.self.view_is c.self.invariant.rest)
    c.put_ready-in-Ready-Some.ensures.front
    (err_from_is_err_and c.from_residual-in_err-put_ready-in-Ready-Some.result
    c.from_residual-in_err-put_ready-in-Ready-Some.ensures.1)

pub returns-in_ok-put_ready-in-Ready-None : goal.returns-in_ok-put_ready-in-Ready-None
returns-in_ok-put_ready-in-Ready-None g c =
    let v = c.args.self.now in
    let before = string_bytes c.args.out.now in
    let now = string_bytes c.put_ready.new.out in
    let refused = c.in_ok-put_ready-in-Ready-None.field-0 in
    let s = setting_of v.stock c.args.terms.now in
    let stock : c.books.result.now.stock ≡ v.stock =
    c.books.ensures.stock ∙ ap (λ (w : DeskView). w.stock) c.self.view_is in
    let history : c.books.result.now.history ≡ v.history =
    c.books.ensures.history ∙ ap (λ (w : DeskView). w.history) c.self.view_is in
    own_shown s c.args.request (Ready None) v before now refused
    (subst IsAtRest c.self.view_is c.self.invariant.rest) c.requires.running
    (c.in-Ready-None.is ∙ ap (λ (o : Option (List ℕ)). Ready o) c.in-Ready-None.field-0-is)
    (ready_stays s v.history None)
    (subst (λ (h : History). IsShown (readies s h None) before now refused) history
    (c.in_ok-put_ready-in-Ready-None.ensures.ok s (sym stock)))

pub returns-in_ok-put_ready-in-Ready-Some : goal.returns-in_ok-put_ready-in-Ready-Some
returns-in_ok-put_ready-in-Ready-Some g c =
    let v = c.args.self.now in
    let before = string_bytes c.args.out.now in
    let now = string_bytes c.put_ready-in-Ready-Some.new.out in
    let refused = c.in_ok-put_ready-in-Ready-Some.field-0 in
    let s = setting_of v.stock c.args.terms.now in
    let arch = c.in-Ready-Some.arch in
    let stock : c.books-in-Ready-Some.result.now.stock ≡ v.stock =
    c.books-in-Ready-Some.ensures.stock ∙ ap (λ (w : DeskView). w.stock) c.self.view_is in
    let history : c.books-in-Ready-Some.result.now.history ≡ v.history =
    c.books-in-Ready-Some.ensures.history ∙ ap (λ (w : DeskView). w.history) c.self.view_is in
    own_shown s c.args.request (Ready (Some arch)) v before now refused
    (subst IsAtRest c.self.view_is c.self.invariant.rest) c.requires.running
    (c.in-Ready-Some.is ∙ ap (λ (o : Option (List ℕ)). Ready o) c.in-Ready-Some.field-0-is)
    (ready_stays s v.history (Some arch))
    (subst (λ (a : List ℕ). IsShown (readies s v.history (Some a)) before now refused)
    c.as_str.ensures.text
    (subst (λ (h : History).
    IsShown (readies s h (Some c.as_str.result.now)) before now refused) history
    (c.in_ok-put_ready-in-Ready-Some.ensures.ok s (sym stock))))

pub returns-in_ok-put_rows-in-Rows : goal.returns-in_ok-put_rows-in-Rows
returns-in_ok-put_rows-in-Rows g c =
    let v = c.args.self.now in
    let before = string_bytes c.args.out.now in
    let now = string_bytes c.put_rows.new.out in
    let refused = c.in_ok-put_rows-in-Rows.field-0 in
    let s = setting_of v.stock c.args.terms.now in
    let history : c.books-in-Rows.result.now.history ≡ v.history =
    c.books-in-Rows.ensures.history ∙ ap (λ (w : DeskView). w.history) c.self.view_is in
    own_shown s c.args.request Rows v before now refused
    (subst IsAtRest c.self.view_is c.self.invariant.rest) c.requires.running c.in-Rows.is
    (says_stays v.history (state_text (rows_of v.history)))
    (subst (λ (h : History). IsShown (says h (state_text (rows_of h))) before now refused) history
    c.in_ok-put_rows-in-Rows.ensures.ok)

pub returns-in_ok-put_standing-in-Lines : goal.returns-in_ok-put_standing-in-Lines
returns-in_ok-put_standing-in-Lines g c =
    let v = c.args.self.now in
    let before = string_bytes c.args.out.now in
    let now = string_bytes c.put_standing.new.out in
    let refused = c.in_ok-put_standing-in-Lines.field-0 in
    let s = setting_of v.stock c.args.terms.now in
    let suites = map (λ x. x.now) c.args.terms.now.suites.now in
    let books = c.books-in-Lines.result.now in
    let stock : books.stock ≡ v.stock =
    c.books-in-Lines.ensures.stock ∙ ap (λ (w : DeskView). w.stock) c.self.view_is in
    let history : books.history ≡ v.history =
    c.books-in-Lines.ensures.history ∙ ap (λ (w : DeskView). w.history) c.self.view_is in
    own_shown s c.args.request Lines v before now refused
    (subst IsAtRest c.self.view_is c.self.invariant.rest) c.requires.running c.in-Lines.is
    (says_stays v.history
    (text_of (standing_lines (supply_now v.stock v.history) suites v.history.journal)))
    (subst (λ (x : Stock). IsShown (says v.history
    (text_of (standing_lines (supply_now x v.history) suites v.history.journal))) before now
    refused) stock
    (subst (λ (h : History). IsShown (says h
    (text_of (standing_lines (supply_now books.stock h) suites h.journal))) before now refused)
    history c.in_ok-put_standing-in-Lines.ensures.ok))
