-- `Steps::put_whys`: its loop.
use Rattle.std.proofs.Common.{◌<◌, get_or, string_bytes}
use Rattle.std.specs.Prelude.{length}
use Rattle.std.proofs.lemmas.List.{get_or_default}
use Rattle.std.proofs.lemmas.List.Elements.{All-get_or}
use Rattle.td_plan.specs.inner.Stepping.{kept_in}
use Rattle.td_plan.proofs.StepTexts.{whys-next}
use Rattle.td_plan.proofs.steps.Steps.put_whys.Goals as goal

pub loop-number-preserved : goal.loop-number-preserved
loop-number-preserved c = λ t is all.
    let steps = c.args.self.now in
    let ms = steps.movers.items in
    let ns = c.args.numbers.now in
    let i = c.loop-number.number-index in
    let n = get_or ns i 0 in
    let low = c.loop-number-test.true in
    whys-next steps.archive.now (kept_in steps) ms ns i n (string_bytes c.args.out.now)
    (string_bytes c.loop-number.out) (string_bytes c.put_why.new.out) low
    (get_or_default ns i 0 n low) (c.loop-number.invariant t is all)
    (c.in_ok-put_why.ensures t is (All-get_or (λ k. k < length ms) ns i 0 low all))
