-- `renew_each`: its loop.
use Rattle.std.proofs.Common.{◌+◌, set, ap, sym, ◌∙◌, arith}
use Rattle.td_naming.specs.Skips.{renewed}
use Rattle.td_naming.proofs.Skipping.{set_mapped}
use Rattle.td_naming.proofs.skips.renew_each.Goals as goal

pub loop-skip-preserved : goal.loop-skip-preserved
loop-skip-preserved c =
    ap (set c.loop-skip.skip-items c.loop-skip.skip-index)
    (c.renew.ensures ∙ ap (renewed c.args.rows.now) (sym c.skip-item.is))
    ∙ set_mapped (renewed c.args.rows.now) c.args.skips.now.items c.loop-skip.skip-items
    c.loop-skip.skip-index (c.loop-skip.skip-index + 1) c.skip-item.result
    (omega arith) c.loop-skip.invariant (omega arith) c.skip-item.is
