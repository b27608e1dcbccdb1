-- `given_tracker`: its clauses.
use Rattle.std.proofs.Common.{Some, ap, option_map, refl}
use Rattle.std.proofs.lemmas.Result.{IfOk-weaker}
use Rattle.td_query.specs.Tracking.{IsTracker, tracking}
use Rattle.td_inputs.specs.declared.form_fault.FormFault.TheVariants as form
use Rattle.td_inputs.specs.Opened.{IsGivenTracker, of_form}
use Rattle.td_inputs.specs.inner.Reading.{StopsAtTracker}
use Rattle.td_inputs.proofs.Handing.{handed_err, handed_ok}
use Rattle.td_inputs.proofs.OpeningLaws.{tracker_given, tracker_unread}
use Rattle.td_inputs.proofs.opening.given_tracker.Goals as goal

pub returns-clause-tracker : goal.returns-clause-tracker
returns-clause-tracker c =
    let given = option_map (λ s. s.now) c.args.text in
    handed_ok (λ t. Some (record { tracker = t; text = c.in-Some.text }))
    (λ e. of_form (form.Tracker e)) (IsGivenTracker given) c.read-read.result c.tracker_of.result
    (c.tracker_of.ensures.read, c.tracker_of.ensures.fault)
    (IfOk-weaker c.read-read.result (λ t. IsTracker c.in-Some.text.now (tracking t)) _
    (λ t found. tracker_given given c.in-Some.text.now _
    (ap (option_map (λ s. s.now)) c.in-Some.is) refl found) c.read-read.ensures.found)

pub returns-clause-stops : goal.returns-clause-stops
returns-clause-stops c =
    let given = option_map (λ s. s.now) c.args.text in
    handed_err (λ t. Some (record { tracker = t; text = c.in-Some.text }))
    (λ e. of_form (form.Tracker e)) (StopsAtTracker given) c.read-read.result c.tracker_of.result
    (c.tracker_of.ensures.read, c.tracker_of.ensures.fault)
    (tracker_unread given c.in-Some.text.now c.read-read.result
    (ap (option_map (λ s. s.now)) c.in-Some.is) c.read-read.ensures.fault
    c.read-read.ensures.only)
