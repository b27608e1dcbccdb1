-- `read_part`: its loop, and the fault of a stanza.
use Rattle.std.proofs.Common.{◌<◌, Ok, length, ap, sym, ◌∙◌, arith}
use Rattle.std.specs.Global.{Vec}
use Rattle.td_rows.proofs.Lists.{slice_get-none}
use Rattle.td_relation.specs.TableView.{table}
use Rattle.td_stanza.specs.Table.{fields_of}
use Rattle.td_indices.specs.declared.packaged.PackageKey.{PackageKey}
use Rattle.td_indices.specs.declared.packaged.Packaged.{Packaged}
use Rattle.td_indices.specs.Kept.{binaries_of}
use Rattle.td_indices.specs.Reading.{binary_step}
use Rattle.td_indices.specs.inner.Parts.{put_all}
use Rattle.td_indices.proofs.Steps.{stepped, faulted}
use Rattle.td_indices.proofs.part_reading.read_part.Goals as goal
use Rattle.td_indices.proofs.part_reading.read_part.Goals.{in-Some+in-Ok-take_binary}
use Rattle.td_indices.proofs.part_reading.read_part.Goals.{in_default-stanza}

pub returns-in-Err : goal.returns-in-Err
returns-in-Err c seen =
    let before = put_all seen (binaries_of c.loop-number.packages.items) in (
      faulted (binary_step (table c.args.archs.now)) c.args.stanzas.now c.loop-number.number before
          (fields_of c.in-Some.stanza) c.in-Err.fault _ (sym c.in-Some.ensures.value)
          (c.in-Err.ensures.err before) (c.loop-number.invariant seen),
      c.in-Err.ensures.entry,
    )

pub loop-number-preserved : goal.loop-number-preserved
loop-number-preserved c seen = elim c.match-stanza.branch [
  | in-Some+in-Ok-take_binary w ↦
      stepped (binary_step (table c.args.archs.now)) c.args.stanzas.now c.loop-number.number
      (put_all seen (binaries_of c.loop-number.packages.items))
      (put_all seen (binaries_of c.match-stanza.packages.items))
      (fields_of w.in-Some.stanza) _ (sym w.in-Some.ensures.value)
      (w.in-Ok-take_binary.ensures.ok seen
      ∙ ap (λ (v : Vec (PackageKey × Packaged)). Ok (put_all seen (binaries_of v.items)))
      (sym w.packages-is)) (c.loop-number.invariant seen)
  | in_default-stanza w ↦
      let within : c.loop-number.number < length c.args.stanzas.now =
      omega (arith, c.loop-number-test.true, c.requires.within) in
      absurd (slice_get-none c.args.stanzas.now c.loop-number.number
      (sym w.in_default-stanza.ensures.value) within)
]
