-- `Steps::grouped`: its loop, and what it answers.
use Rattle.std.proofs.Common.{◌≡◌, ◌+◌, ◌∙◌, List, Some, ap, arith, length, refl, slice_get}
use Rattle.std.proofs.lemmas.List.{take_all}
use Rattle.std.proofs.lemmas.Option.{slice_get_read}
use Rattle.td_indices.specs.Archive.{places_from}
use Rattle.td_report.specs.Report.{is_level}
use Rattle.td_waves.specs.WavesView.{level_of}
use Rattle.td_waves.specs.declared.level.Level.{Level}
use Rattle.td_waves.specs.declared.level.Level.TheVariants.{At, Cyclic}
use Rattle.td_plan.specs.declared.movers.Mover.{Mover}
use Rattle.td_plan.specs.inner.Movers.{mover_name}
use Rattle.td_plan.proofs.LevelSources.{placed-next}
use Rattle.td_plan.proofs.steps.Steps.grouped.Goals as goal

pub loop-number-preserved : goal.loop-number-preserved
loop-number-preserved c =
    let ms = c.args.self.now.movers.items in
    let w = c.args.waves.now in
    let i = c.loop-number.number in
    let m = c.index.result.now in
    let at : slice_get ms i ≡ Some m =
    slice_get_read ms (length ms) i m refl (omega arith) c.index.ensures in
    let passes = λ (k : Level). ap (is_level k) c.level-level.ensures in
    record {
      len = c.in_ok-push.ensures.len ∙ c.loop-number.invariant.len;
      levels = λ n low.
          placed-next (λ m. is_level (At (n + 1)) (level_of w (mover_name m))) ms i m _ _ _ at
          (passes (At (n + 1)))
          (c.in_ok-push.ensures.levels n (omega (arith, low, c.loop-number.invariant.len)))
          (c.loop-number.invariant.levels n low);
      cyclic =
          placed-next (λ m. is_level Cyclic (level_of w (mover_name m))) ms i m _ _ _ at
          (passes Cyclic) c.in_ok-push.ensures.cyclic c.loop-number.invariant.cyclic;
    }

pub returns : goal.returns
returns c =
    let ms = c.args.self.now.movers.items in
    let w = c.args.waves.now in
    let all = take_all c.loop-number.number ms (omega arith) in
    record {
      len = c.loop-number.invariant.len;
      levels = λ n low.
          c.loop-number.invariant.levels n low
          ∙ ap (λ (l : List Mover). places_from
          (λ m. is_level (At (n + 1)) (level_of w (mover_name m))) 0 l) all;
      cyclic = c.loop-number.invariant.cyclic
          ∙ ap (λ (l : List Mover). places_from
          (λ m. is_level Cyclic (level_of w (mover_name m))) 0 l) all;
    }
