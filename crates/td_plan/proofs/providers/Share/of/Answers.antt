-- `Share::of`: its loop.
use Rattle.std.proofs.Common.{◌∙◌, ◌||◌, Bool, ap, sym}
use Rattle.td_text.proofs.Anywhere.{any-range}
use Rattle.td_plan.specs.inner.Providing.{shared_passes}
use Rattle.td_plan.proofs.providers.Share.of.Goals as goal

pub loop-owner-preserved : goal.loop-owner-preserved
loop-owner-preserved c = λ q test.
    let passes = shared_passes c.args.archive.now c.args.movers.now q test c.args.share in
    let owner = c.loop-owner.owner in
    c.in_ok-push_shared.ensures q test
    ∙ ap (λ (b : Bool). b || passes owner) (c.loop-owner.invariant q test)
    ∙ sym (any-range passes owner)
