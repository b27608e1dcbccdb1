-- `put_report`: the report is told, or that there is no tracker.
use Rattle.std.proofs.Common.{◌≡◌, ◌++◌, ℕ, List, Option, false, refl, sym, ap, subst, option_map}
use Rattle.std.proofs.Common.{◌∙◌}
use Rattle.std.specs.Prelude.{IfSome, codes}
use Rattle.std.specs.Borrow.{Bor}
use Rattle.std.specs.String.{string_bytes}
use Rattle.std.proofs.lemmas.Result.{IfOk-weaker}
use Rattle.td_report.specs.TransitionView.{IsMade, contents_of, depth_of, level_of, tracking_of}
use Rattle.td_report.specs.declared.transition.Transition.{Transition}
use Rattle.td_script.specs.Replies.{reports}
use Rattle.td_script.specs.Reporting.{report_by}
use Rattle.td_script.proofs.ReportLaws.{report_once}
use Rattle.td_lasting.specs.DeskView.{IsShown}
use Rattle.td_lasting.proofs.Asked.{refusal_shown}
use Rattle.td_lasting.proofs.asking.put_report.Goals as goal

pub returns-in_ok-push_str-in-Some-clause-ok : goal.returns-in_ok-push_str-in-Some-clause-ok
returns-in_ok-push_str-in-Some-clause-ok c =
    let x = c.in-Some.transition.now in
    let h = c.args.books.now.history in
    let before = string_bytes c.args.out.now in
    let made : IsMade x =
    subst (λ (o : Option (Bor Transition)). IfSome o (λ r. IsMade r.now)) c.in-Some.is c.requires in
    let is : string_bytes c.in_ok-text-in-Some.text ≡ report_by x c.rows.result.now =
    report_once (contents_of x) (tracking_of x) (level_of x) (depth_of x) c.rows.result.now
    (string_bytes c.in_ok-text-in-Some.text) made.leveled c.in_ok-text-in-Some.ensures in
    subst (λ (o : Option (Bor Transition)).
    IsShown (reports h (option_map (λ r. report_by r.now) o)) before
    (string_bytes c.push_str.new.self) false) (sym c.in-Some.is)
    (record {
      text = c.in_ok-push_str-in-Some.ensures.bytes
          ∙ ap (λ (l : List ℕ). before ++ l) (c.as_str.ensures.value ∙ is
          ∙ ap (report_by x) c.rows.ensures.rows);
      refusal = refl;
    })

pub returns-in-None-clause-ok : goal.returns-in-None-clause-ok
returns-in-None-clause-ok c =
    let h = c.args.books.now.history in
    let before = string_bytes c.args.out.now in
    let now = string_bytes c.refuse.new.out in
    IfOk-weaker c.refuse.result _ _
    (λ refused put. subst (λ (o : Option (Bor Transition)).
    IsShown (reports h (option_map (λ r. report_by r.now) o)) before now refused)
    (sym c.in-None.is)
    (refusal_shown h (codes "NoTracker") before now refused put)) c.refuse.ensures.ok
