-- `Archive::of_indices`: what it answers, and what `of_kept` asks for.
use Rattle.std.proofs.Common.{Err}
use Rattle.td_relation.specs.TableView.{table}
use Rattle.td_indices.proofs.Refusals.{is_read}
use Rattle.td_indices.proofs.archive.Archive.of_indices.Goals as goal

pub of_kept-requires-clause-binaries : goal.of_kept-requires-clause-binaries
of_kept-requires-clause-binaries g c =
    (c.in-Ok.ensures.found (table c.args.archs.now) c.requires.packages.0 c.requires.sources.0
    c.requires.packages.1 c.requires.sources.1).binaries

pub of_kept-requires-clause-sources : goal.of_kept-requires-clause-sources
of_kept-requires-clause-sources g c =
    (c.in-Ok.ensures.found (table c.args.archs.now) c.requires.packages.0 c.requires.sources.0
    c.requires.packages.1 c.requires.sources.1).sources

pub returns-in-Ok : goal.returns-in-Ok
returns-in-Ok g c p s of_packages of_sources =
    let kept = c.in-Ok.ensures.found (table c.args.archs.now) p s of_packages of_sources in
    is_read (table c.args.archs.now) p s c.of_kept.result
    (c.of_kept.ensures.found p s kept.package_stanzas kept.source_stanzas)
    (c.of_kept.ensures.fault p s kept.package_stanzas kept.source_stanzas)

pub returns-in-Err : goal.returns-in-Err
returns-in-Err g c p s of_packages of_sources =
    is_read (table c.args.archs.now) p s (Err c.in-Err.fault) tt
    (c.in-Err.ensures.fault (table c.args.archs.now) p s of_packages of_sources)
