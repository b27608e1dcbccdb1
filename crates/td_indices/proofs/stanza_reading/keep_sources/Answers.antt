-- `keep_sources`: its loop and the clauses `err` and `ok`.
use Rattle.std.proofs.Common.{ℕ, List, Bor, ◌<◌, Ok, length, ap, sym, ◌∙◌, arith}
use Rattle.std.specs.declared.hash.FoldHasher.{FoldHasher}
use Rattle.std.specs.declared.hash.BuildHasherDefault.{BuildHasherDefault}
use Rattle.indexmap.specs.IndexMap.{IndexMap}
use Rattle.td_rows.proofs.Lists.{slice_get-none}
use Rattle.td_indices.specs.declared.sourced.Sourced.{Sourced}
use Rattle.td_stanza.specs.Table.{fields_of}
use Rattle.td_indices.specs.Sources.{sources_of}
use Rattle.td_indices.specs.Reading.{source_step}
use Rattle.td_indices.proofs.Steps.{stepped, faulted, ended}
use Rattle.td_indices.proofs.stanza_reading.keep_sources.Goals as goal
use Rattle.td_indices.proofs.stanza_reading.keep_sources.Goals.{in-Some+in-Ok-take_source}
use Rattle.td_indices.proofs.stanza_reading.keep_sources.Goals.{in_default-stanza}

pub returns-in-Err-clause-err : goal.returns-in-Err-clause-err
returns-in-Err-clause-err c =
    faulted source_step c.args.stanzas.now c.loop-number.number
    (sources_of c.loop-number.kept.entries) (fields_of c.in-Some.stanza) c.in-Err.fault _
    (sym c.in-Some.ensures.value) c.in-Err.ensures.err c.loop-number.invariant

pub loop-number-preserved : goal.loop-number-preserved
loop-number-preserved c = elim c.match-stanza.branch [
  | in-Some+in-Ok-take_source w ↦
      stepped source_step c.args.stanzas.now c.loop-number.number
      (sources_of c.loop-number.kept.entries) (sources_of c.match-stanza.kept.entries)
      (fields_of w.in-Some.stanza) _ (sym w.in-Some.ensures.value)
      (w.in-Ok-take_source.ensures.ok
      ∙ ap (λ (m : IndexMap (Bor (List ℕ)) Sourced (BuildHasherDefault FoldHasher)).
      Ok (sources_of m.entries)) (sym w.kept-is)) c.loop-number.invariant
  | in_default-stanza w ↦
      let within : c.loop-number.number < length c.args.stanzas.now = omega arith in
      absurd (slice_get-none c.args.stanzas.now c.loop-number.number
      (sym w.in_default-stanza.ensures.value) within)
]

pub returns-clause-ok : goal.returns-clause-ok
returns-clause-ok c =
    ended source_step c.args.stanzas.now c.loop-number.number
    (sources_of c.loop-number.kept.entries) _ (omega arith) c.loop-number.invariant
