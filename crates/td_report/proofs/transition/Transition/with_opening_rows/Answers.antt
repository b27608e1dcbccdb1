-- `Transition::with_opening_rows`: the clauses `made` and `rows`.
use Rattle.std.proofs.Common.{ℕ, List, IfOk, map, subst, ap, ◌∙◌}
use Rattle.td_indices.specs.Choosing.{AreOpenedOf, flagged}
use Rattle.td_indices.specs.Sources.{KeptSource}
use Rattle.td_query.specs.Statuses.{is_affected}
use Rattle.td_query.specs.Tracking.{tracking}
use Rattle.td_query.proofs.AffectedSources.{flagged-map}
use Rattle.td_waves.specs.Levels.{IsDepth, StandsAt}
use Rattle.td_waves.specs.Waves.{BuildsOn, IsAffected}
use Rattle.td_waves.specs.WavesView.{depth_of, level_of}
use Rattle.td_report.proofs.Items.{are_levels}
use Rattle.td_report.proofs.Opened.{opened_stand}
use Rattle.td_report.proofs.transition.Transition.with_opening_rows.Goals as goal

pub returns-clause-made : goal.returns-clause-made
returns-clause-made g c =
    let a = c.args.archive.now in
    let t = tracking c.args.tracker.now in
    let names = c.deref-3.result.now in
    let w = c.in_ok-waves.field-0 in
    record {
      marked = c.in_ok-marks.ensures.marks;
      leveled = are_levels a t names (level_of w) (depth_of w)
          (ap (map (λ name. name.now)) c.deref-3.ensures.value ∙ c.in_ok-names.ensures
          ∙ ap (λ fs. map (λ (s : KeptSource). s.head.name) (flagged fs a.sources))
          (c.deref.ensures.value ∙ c.in_ok-flags.ensures.flags t c.in_ok-marks.ensures.marks)
          ∙ ap (map (λ (s : KeptSource). s.head.name)) (flagged-map (is_affected a t) a.sources))
          (subst (λ r. IfOk r (λ v. (source : List ℕ) → StandsAt (IsAffected names) (BuildsOn a)
          source (level_of v source))) c.in_ok-waves.was c.rows_and_waves-rows.ensures.levels)
          (subst (λ r. IfOk r (λ v. IsDepth (level_of v) (depth_of v))) c.in_ok-waves.was
          c.rows_and_waves-rows.ensures.depth);
    }

pub returns-clause-rows : goal.returns-clause-rows
returns-clause-rows g c =
    let a = c.args.archive.now in
    let t = tracking c.args.tracker.now in
    let flags = c.deref-2.result.now in
    opened_stand _ c.in_ok-rows.field-0 flags
    (c.deref-2.ensures.value ∙ c.in_ok-flags.ensures.flags t c.in_ok-marks.ensures.marks)
    (subst (λ r. IfOk r (AreOpenedOf a (flagged flags a.sources))) c.in_ok-rows.was
    c.rows_and_waves-rows.ensures.rows)
