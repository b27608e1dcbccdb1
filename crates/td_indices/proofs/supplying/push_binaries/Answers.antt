-- `push_binaries`: its loop.
use Rattle.std.proofs.Common.{◌≡◌, ◌<◌, ◌+◌, Some, option_map, slice_get, drop, length, sym, ap}
use Rattle.std.proofs.Common.{◌∙◌}
use Rattle.td_rows.proofs.Lists.{drop-next, slice_get-map, slice_get-none}
use Rattle.td_indices.specs.declared.packaged.PackageKey.{PackageKey}
use Rattle.td_indices.specs.declared.packaged.Packaged.{Packaged}
use Rattle.td_indices.specs.Kept.{binaries_of, binary_of}
use Rattle.td_indices.specs.Sources.{sources_of}
use Rattle.td_indices.specs.Supplying.{offers_by}
use Rattle.td_indices.proofs.Filling.{offered_next}
use Rattle.td_indices.proofs.supplying.push_binaries.Goals as goal
use Rattle.td_indices.proofs.supplying.push_binaries.Goals.{in-Some+in_ok-push_binary, in_default}

pub loop-number-preserved : goal.loop-number-preserved
loop-number-preserved c = elim c.match-get_index.branch [
  | in-Some+in_ok-push_binary w ↦
      let bs = binaries_of c.args.binaries.now in
      let n = c.loop-number.number in
      let p : PackageKey × Packaged = (w.in-Some.key.now, w.in-Some.packaged.now) in
      let at : slice_get bs n ≡ Some (binary_of p) =
      slice_get-map binary_of c.args.binaries.now n
      ∙ ap (option_map binary_of) (sym w.in-Some.ensures.entry) in
      offered_next (offers_by (sources_of c.args.sources.now.entries)) c.loop-number.supply
      c.match-get_index.supply _ (binary_of p) (drop (n + 1) bs) (drop n bs)
      (drop-next bs n (binary_of p) at)
      (w.supply-is ∙ w.in_ok-push_binary.ensures) c.loop-number.invariant
  | in_default w ↦
      let within : c.loop-number.number < length c.args.binaries.now =
      rw (← c.len-number-end.ensures) c.loop-number-test.true in
      absurd (slice_get-none c.args.binaries.now c.loop-number.number
      (sym w.in_default.ensures.entry) within)
]
