-- `Providers::of`: its loop.
use Rattle.td_waves.specs.Named.{texts}
use Rattle.td_waves.proofs.Finding.{below_more}
use Rattle.td_waves.proofs.Names.{name_is}
use Rattle.td_waves.proofs.providers.Providers.of.Goals as goal

pub loop-owner-preserved : goal.loop-owner-preserved
loop-owner-preserved c = λ q test.
    below_more c.args.archive.now (texts c.args.sources.now.keys) q test c.loop-owner.owner
    c.index-source.result.now.now _ _
    (name_is c.args.sources.now.keys c.loop-owner.owner c.index-source.result.now
    c.index-source.ensures) (c.in_ok-push_source.ensures q test)
    (c.loop-owner.invariant q test)
