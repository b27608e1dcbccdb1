-- `Command::is_matched`: what it answers.
use Rattle.std.proofs.Common.{◌∙◌}
use Rattle.td_version.specs.Version.{parts_of as version_of}
use Rattle.td_wbread.specs.inner.Places.{is_matching}
use Rattle.td_wbread.proofs.Names.{has_package}
use Rattle.td_wbread.proofs.PackagePlaces.{answered}
use Rattle.td_wbread.proofs.command.Command.is_matched.Goals as goal

pub returns : goal.returns
returns c =
    let version = version_of c.args.version.now in
    c.has_match.ensures
    ∙ answered c.args.self.now.packages.items _ _ c.args.self.now.places c.args.self.now.found
    c.as_slice.ensures.value c.args.source.now c.of.ensures (is_matching version c.args.number)
    ∙ has_package c.args.self.now c.args.source.now version c.args.number
