-- `put`: what it answers.
use Rattle.std.proofs.Common.{ap, ◌∙◌}
use Rattle.td_waves.specs.Named.{is_among}
use Rattle.td_waves.proofs.Names.{inserted}
use Rattle.td_waves.proofs.named.put.Goals as goal

pub returns-in-Ok : goal.returns-in-Ok
returns-in-Ok c = λ q. ap (λ ks. is_among ks q) c.in-Ok.ensures.keys
    ∙ inserted c.args.set.now.keys c.args.name q
