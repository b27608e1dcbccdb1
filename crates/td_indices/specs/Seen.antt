-- Binary packages and sources as an archive shows them, without where their texts lie in memory.
-- This project's own.
use Rattle.std.specs.Prelude.{ℕ}
use Rattle.td_version.specs.Version.{parts_of}
use Rattle.td_indices.specs.declared.packaged.Binary.{Binary}
use Rattle.td_indices.specs.declared.sourced.Source.{Source}
use Rattle.td_indices.specs.Binaries.{BinaryPackage}
use Rattle.td_indices.specs.Kept.{KeptBinary}
use Rattle.td_indices.specs.Sources.{KeptSource, SourcePackage}

-- a binary package and the number of its stanza
pub record BinarySeen : Type 0 where
  pub head : BinaryPackage
  pub stanza : ℕ

-- what a `Binary` holds
abbrev pub seen_binary : Binary → BinarySeen
seen_binary b = record {
  head = record {
    name = b.name.now;
    home = b.arch;
    version = b.version.now;
    parts = parts_of b.parts;
    source = b.source.now;
    source_parts = parts_of b.source_parts;
  };
  stanza = b.stanza;
}

-- what the archive shows of a binary package
abbrev pub shown_binary : KeptBinary → BinarySeen
shown_binary b = record { head = b.head; stanza = b.stanza }

-- a source and the number of its stanza
pub record SourceSeen : Type 0 where
  pub head : SourcePackage
  pub stanza : ℕ

-- what a `Source` holds
abbrev pub seen_source : Source → SourceSeen
seen_source s = record {
  head = record
      { name = s.name.now; version = s.version.now; parts = parts_of s.parts; archs = s.archs.now };
  stanza = s.stanza;
}

-- what the archive shows of a source
abbrev pub shown_source : KeptSource → SourceSeen
shown_source s = record { head = s.head; stanza = s.stanza }
