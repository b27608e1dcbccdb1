-- `Command::is_bare`: what it answers.
use Rattle.std.proofs.Common.{◌∙◌}
use Rattle.td_wbread.specs.inner.Places.{is_without_version}
use Rattle.td_wbread.proofs.Names.{has_bare}
use Rattle.td_wbread.proofs.PackagePlaces.{answered}
use Rattle.td_wbread.proofs.command.Command.is_bare.Goals as goal

pub returns : goal.returns
returns c =
    c.has_bare.ensures
    ∙ answered c.args.self.now.packages.items _ _ c.args.self.now.places c.args.self.now.found
    c.as_slice.ensures.value c.args.source.now c.of.ensures is_without_version
    ∙ has_bare c.args.self.now c.args.source.now
