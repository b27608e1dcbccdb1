-- `Archive::of_kept`: the fault of sources that have too many rows.
use Rattle.td_relation.specs.TableView.{table}
use Rattle.td_indices.specs.Kept.{binaries_of}
use Rattle.td_indices.specs.Sources.{sources_of}
use Rattle.td_indices.proofs.ArchiveFaults.{counting_fault}
use Rattle.td_indices.proofs.archive.Archive.of_kept.Goals as goal

pub returns-in-Err-clause-fault : goal.returns-in-Err-clause-fault
returns-in-Err-clause-fault c =
    counting_fault (table c.args.archs.now) c.args.kept.packages c.args.kept.source_stanzas
    (binaries_of c.args.kept.binaries) (sources_of c.args.kept.sources.entries) c.args.counted
    c.in-Err.fault c.in-Err.is c.requires.fault c.requires.binaries c.requires.sources
