-- `answer_all`: its loop.
use Rattle.std.proofs.Common.{[], ◌++◌, ◌∷◌, ap, sym, ◌∙◌}
use Rattle.td_core.specs.Worlds.{WorldView}
use Rattle.td_core.specs.Steps.{answer_to, after, answers_to}
use Rattle.td_core.proofs.Running.{after_all-push, answers_to-push}
use Rattle.td_core.proofs.runs.answer_all.Goals as goal

pub loop-step-preserved : goal.loop-step-preserved
loop-step-preserved c =
    let start = c.args.world.now in
    let step = c.in-Some.step in
    record {
      world = c.in_ok-try_step.ensures.ok
          ∙ ap (λ (w : WorldView). after w step) c.loop-step.invariant.world
          ∙ sym (after_all-push start c.loop-step.yielded step);
      answers =
          c.in_ok-push.ensures.items
          ∙ (λ j. c.loop-step.invariant.answers j ++ c.in_ok-try_step.ensures.answer j ∷ [])
          ∙ ap (λ (w : WorldView). answers_to start c.loop-step.yielded ++ answer_to w step ∷ [])
          c.loop-step.invariant.world
          ∙ sym (answers_to-push start c.loop-step.yielded step);
    }
