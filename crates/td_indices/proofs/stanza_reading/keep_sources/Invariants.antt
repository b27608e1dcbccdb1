-- What the loop of `keep_sources` keeps.
use Rattle.std.proofs.Common.{◌≡◌, drop}
use Rattle.td_indices.specs.Sources.{sources_of}
use Rattle.td_indices.specs.Reading.{over_stanzas, source_step, sources_at}
use Rattle.td_indices.proofs.stanza_reading.keep_sources.Given as goal

-- what is left decides
abbrev pub invariant-loop-number : goal.invariant-loop-number
invariant-loop-number l =
    over_stanzas source_step l.number (sources_of l.kept.entries) (drop l.number l.stanzas)
    ≡ sources_at l.stanzas
