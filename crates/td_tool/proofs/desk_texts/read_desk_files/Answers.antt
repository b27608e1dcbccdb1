-- `read_desk_files`: its clauses.
use Rattle.td_tool.specs.DeskInside.{desk_files_at}
use Rattle.td_tool.specs.RunInside.{HasRunFailed}
use Rattle.td_tool.proofs.UnreadRuns.{passed_on, run_fails_first, run_fails_state}
use Rattle.td_tool.proofs.UnreadRuns.{run_fails_tracker}
use Rattle.td_tool.proofs.desk_texts.read_desk_files.Goals as goal

pub returns-in_err-indices-clause-failed : goal.returns-in_err-indices-clause-failed
returns-in_err-indices-clause-failed g c =
    let files = desk_files_at (g.T.Texts.bytes c.args.texts.now)
    (g.T.Texts.can_fail c.args.texts.now) c.args.request.now in
    passed_on (HasRunFailed files) c.in_err-indices.field-0.0 c.from_residual.result
    c.from_residual.ensures.1
    (run_fails_first files c.in_err-indices.field-0.0 c.in_err-indices.ensures.failed)

pub returns-in_err-state-clause-failed : goal.returns-in_err-state-clause-failed
returns-in_err-state-clause-failed g c =
    let files = desk_files_at (g.T.Texts.bytes c.args.texts.now)
    (g.T.Texts.can_fail c.args.texts.now) c.args.request.now in
    passed_on (HasRunFailed files) c.in_err-state.field-0.0 c.from_residual-in_err-state.result
    c.from_residual-in_err-state.ensures.1
    (run_fails_state files c.in_err-state.field-0.0 _ _ _ c.in_ok-indices.ensures.texts
    c.in_err-state.ensures.failed)

pub returns-in_err-tracker-clause-failed : goal.returns-in_err-tracker-clause-failed
returns-in_err-tracker-clause-failed g c =
    let files = desk_files_at (g.T.Texts.bytes c.args.texts.now)
    (g.T.Texts.can_fail c.args.texts.now) c.args.request.now in
    passed_on (HasRunFailed files) c.in_err-tracker.field-0.0 c.from_residual-in_err-tracker.result
    c.from_residual-in_err-tracker.ensures.1
    (run_fails_tracker files c.in_err-tracker.field-0.0 _ _ _ _ c.in_ok-indices.ensures.texts
    c.in_ok-state.ensures.text c.in_err-tracker.ensures.failed)

pub returns-clause-texts : goal.returns-clause-texts
returns-clause-texts g c = (
  (
    ((c.in_ok-indices.ensures.texts, c.in_ok-state.ensures.text), c.in_ok-tracker.ensures.text),
    tt,
  ),
  tt,
)
