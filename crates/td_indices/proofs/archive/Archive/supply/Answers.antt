-- `Archive::supply`: the call of `stocked`.
use Rattle.td_indices.specs.Sources.{sources_of}
use Rattle.td_indices.proofs.CountingLaws.{greatest_sources}
use Rattle.td_indices.proofs.OpeningLaws.{all_read}
use Rattle.td_indices.proofs.archive.Archive.supply.Goals as goal

pub stocked-requires : goal.stocked-requires
stocked-requires c =
    let stanzas = c.self.inside.source_stanzas in
    let sources = sources_of c.self.inside.sources.entries in
    record {
      apart = (greatest_sources stanzas sources c.self.invariant.3).2.apart;
      read = all_read stanzas sources c.self.invariant.3;
    }
