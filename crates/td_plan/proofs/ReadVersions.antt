-- In an archive that was read, each source's version is that of how it is written.
use Rattle.std.proofs.Common.{◌≡◌, [], Ok}
use Rattle.td_version.specs.Reading.{reading}
use Rattle.td_version.proofs.Outcomes.{read_only}
use Rattle.td_indices.specs.declared.archive_fault.IndexFile.TheVariants.{Sources}
use Rattle.td_indices.specs.Sources.{KeptSource, kept_source_at, lower_source, same_source}
use Rattle.td_indices.proofs.LegalNames.{all_at, all_over}
use Rattle.td_indices.proofs.SourceStanzas.{source_found}
use Rattle.td_plan.specs.SoundLaws.{VersionsOfArchivesAreRead}
use Rattle.td_plan.proofs.Named.{placed-at}

-- the version of a source is read as its parts
abbrev IsReadAs : KeptSource → Type 0
IsReadAs s = reading s.head.version ≡ Ok s.head.parts

pub versions-of-archives : VersionsOfArchivesAreRead
versions-of-archives p read s has =
    let a = p.archive in
    all_at IsReadAs a.sources has.0 s
    (all_over same_source lower_source kept_source_at Sources IsReadAs
    (λ number fields t is. read_only t.head.version t.head.parts
    (source_found number fields t is).readable) 0 [] a.source_stanzas a.sources tt
    read.is_archive.sources)
    (placed-at a.sources s has)
