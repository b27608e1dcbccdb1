-- `matches_at`: what it answers.
use Rattle.std.proofs.Common.{ap, ◌∙◌}
use Rattle.td_version.specs.Version.{parts_of as version_of}
use Rattle.td_wbread.specs.Naming.{version_matches}
use Rattle.td_wbread.specs.inner.Places.{is_matching}
use Rattle.td_wbread.proofs.naming.matches_at.Goals as goal

pub returns-in-Some : goal.returns-in-Some
returns-in-Some c =
    let version = version_of c.args.version.now in
    c.version_matches.ensures ∙ ap (version_matches version c.args.number) c.as_deref.ensures.value
    ∙ ap (is_matching version c.args.number) c.in-Some.ensures

pub returns-in-None : goal.returns-in-None
returns-in-None c = ap (is_matching (version_of c.args.version.now) c.args.number) c.in-None.ensures
