-- `Plan::put_left_at`: nothing where the row isn't wanted or is due, else its comment.
use Rattle.std.proofs.Common.{◌≡◌, ◌∙◌, None, Some, false, refl, string_bytes, sym}
use Rattle.std.proofs.Common.{true}
use Rattle.std.proofs.lemmas.Result.{on_ok_weaker}
use Rattle.td_query.specs.Statuses.{row_status}
use Rattle.td_plan.specs.Due.{is_due}
use Rattle.td_plan.specs.inner.Reasons.{reason_of}
use Rattle.td_plan.specs.inner.Waiters.{kept_of}
use Rattle.td_plan.proofs.LeftSteps.{left-due, left-is, left-unwanted}
use Rattle.td_plan.proofs.MovingSources.{due-at}
use Rattle.td_plan.proofs.OnInputs.{status_numbered}
use Rattle.td_plan.proofs.PlanLines.{line-only, nothing-then}
use Rattle.td_plan.proofs.plan.Plan.put_left_at.Goals as goal

pub returns-in_default-clause-ok : goal.returns-in_default-clause-ok
returns-in_default-clause-ok c = λ p is low mover row.
    let m = c.args.mover.now in
    let place = c.args.place in
    let status : None ≡ row_status p.archive p.tracker (kept_of m) place =
    sym c.in_default.is ∙ c.status.ensures p is.inputs
    ∙ status_numbered p.archive p.tracker m.number place (kept_of m) mover.at in
    nothing-then (string_bytes c.args.out.now) _
    (left-unwanted p (kept_of m) place c.args.key.now c.args.row.now None status refl)

pub returns-then-not-asks_rebuild-clause-ok : goal.returns-then-not-asks_rebuild-clause-ok
returns-then-not-asks_rebuild-clause-ok c = λ p is low mover row.
    let m = c.args.mover.now in
    let place = c.args.place in
    let status : Some c.in-Some.status ≡ row_status p.archive p.tracker (kept_of m) place =
    sym c.in-Some.is ∙ c.status.ensures p is.inputs
    ∙ status_numbered p.archive p.tracker m.number place (kept_of m) mover.at in
    nothing-then (string_bytes c.args.out.now) _
    (left-unwanted p (kept_of m) place c.args.key.now c.args.row.now (Some c.in-Some.status) status
    (sym c.asks_rebuild.ensures ∙ c.if-not-asks_rebuild.true))

pub returns-then-is_due-clause-ok : goal.returns-then-is_due-clause-ok
returns-then-is_due-clause-ok c = λ p is low mover row.
    let m = c.args.mover.now in
    let place = c.args.place in
    let due : is_due p (kept_of m) place ≡ true =
    sym (due-at p (kept_of m) m.motions mover.motions place low) ∙ sym c.is_due.ensures
    ∙ c.if-is_due.true in
    nothing-then (string_bytes c.args.out.now) _
    (left-due p (kept_of m) place c.args.key.now c.args.row.now due)

pub returns-clause-ok : goal.returns-clause-ok
returns-clause-ok c =
    let m = c.args.mover.now in
    let place = c.args.place in
    let status = c.in-Some.status in
    on_ok_weaker c.put_left.result (λ line p is low mover row.
    let at : Some status ≡ row_status p.archive p.tracker (kept_of m) place =
    sym c.in-Some.is ∙ c.status.ensures p is.inputs
    ∙ status_numbered p.archive p.tracker m.number place (kept_of m) mover.at in
    let due : is_due p (kept_of m) place ≡ false =
    sym (due-at p (kept_of m) m.motions mover.motions place low) ∙ sym c.is_due.ensures
    ∙ c.if-is_due.false in
    line-only (string_bytes c.args.out.now) _ _ _
    (left-is p (kept_of m) place c.args.key.now c.args.row.now status
    (reason_of c.reason_of-reason.result) at
    (sym c.asks_rebuild.ensures ∙ c.if-not-asks_rebuild.false) due
    (c.reason_of-reason.ensures p is.inputs mover.motions row)) line) c.put_left.ensures.ok
