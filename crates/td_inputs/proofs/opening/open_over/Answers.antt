-- `open_over`: the call of the closure, and its clauses.
use Rattle.std.proofs.Common.{option_map, refl, subst, sym}
use Rattle.td_inputs.specs.Opened.{IsGivenTracker}
use Rattle.td_inputs.proofs.OpeningLaws.{stopped_at_rows, stopped_at_tracker}
use Rattle.td_inputs.proofs.opening.open_over.Goals as goal

pub returns-in-Err-clause-stops : goal.returns-in-Err-clause-stops
returns-in-Err-clause-stops g c =
    stopped_at_rows c.args.archive.now (option_map (λ s. s.now) c.args.state)
    (option_map (λ s. s.now) c.args.tracker) c.in-Err.fault c.in-Err.ensures.stops

pub returns-in-Err-given_tracker-clause-stops : goal.returns-in-Err-given_tracker-clause-stops
returns-in-Err-given_tracker-clause-stops g c =
    stopped_at_tracker c.args.archive.now (option_map (λ s. s.now) c.args.state)
    (option_map (λ s. s.now) c.args.tracker) c.in-Ok.rows c.in-Err-given_tracker.fault
    c.in-Ok.ensures.rows c.in-Err-given_tracker.ensures.stops

pub returns-clause-made : goal.returns-clause-made
returns-clause-made g c = (
  _,
  record {
    archive = refl;
    rows = c.in-Ok.ensures.rows;
    tracker = subst (IsGivenTracker (option_map (λ s. s.now) c.args.tracker))
        (sym c.as_ref.ensures.value) c.in-Ok-given_tracker.ensures.tracker;
  },
  c.f.ensures,
)
