-- `Transition::of`: the clause `made`.
use Rattle.std.proofs.Common.{map, ap, ◌∙◌}
use Rattle.td_query.specs.Tracking.{tracking}
use Rattle.td_waves.specs.WavesView.{depth_of, level_of}
use Rattle.td_report.proofs.Items.{are_levels}
use Rattle.td_report.proofs.transition.Transition.of.Goals as goal

pub returns-clause-made : goal.returns-clause-made
returns-clause-made g c =
    let t = tracking c.args.tracker.now in
    let w = c.in_ok-waves.waves in
    record {
      marked = c.in_ok-marks.ensures.marks;
      leveled = are_levels c.args.archive.now t c.deref.result.now (level_of w) (depth_of w)
          (ap (map (λ name. name.now)) c.deref.ensures.value
          ∙ c.in_ok-names.ensures.names t c.in_ok-marks.ensures.marks)
          c.in_ok-waves.ensures.levels c.in_ok-waves.ensures.depth;
    }
