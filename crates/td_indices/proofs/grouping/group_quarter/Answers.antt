-- `group_quarter`: what it answers and its loop.
use Rattle.std.proofs.Common.{◌≡◌, ◌<◌, ◌≤◌, List, length, option_map, take, sym, ap, ◌∙◌, refl}
use Rattle.std.proofs.Common.{arith}
use Rattle.std.proofs.Math.Seq.{take-length}
use Rattle.std.proofs.lemmas.List.{length-map}
use Rattle.td_rows.proofs.Lists.{slice_get-none, slice_get-map}
use Rattle.td_indices.specs.declared.packaged.PackageKey.{PackageKey}
use Rattle.td_indices.specs.declared.packaged.Packaged.{Packaged}
use Rattle.td_supply.specs.declared.numbers.Numbers.{Numbers}
use Rattle.td_supply.specs.Numbers.{numbers_of}
use Rattle.td_indices.specs.Archive.{is_of, places_from}
use Rattle.td_indices.specs.Kept.{KeptBinary, binary_of, binaries_of}
use Rattle.td_indices.proofs.Places.{grouped}
use Rattle.td_indices.proofs.grouping.group_quarter.Goals as goal
use Rattle.td_indices.proofs.grouping.group_quarter.Goals.{in-Some+in_ok-push_in_quarter, in_default}

pub loop-number-preserved : goal.loop-number-preserved
loop-number-preserved c = elim c.match-get_index.branch [
  | in-Some+in_ok-push_in_quarter w ↦ λ q its.
      let es = c.args.binaries.now in
      let p : PackageKey × Packaged = (w.in-Some.field-0-0.now, w.in-Some.packaged.now) in
      let within : c.loop-number.number ≤ length (binaries_of es) =
      omega
      (arith, c.loop-number-test.true, c.len-number-end.ensures, length-map es binary_of) in
      grouped q w.in-Some.packaged.now.source.now (numbers_of c.loop-number.numbers q) _
      c.loop-number.number (binaries_of es) (binary_of p) within
      (slice_get-map binary_of es c.loop-number.number
      ∙ ap (option_map binary_of) (sym w.in-Some.ensures.entry)) refl
      (ap (λ (g : Numbers). numbers_of g q) w.numbers-is ∙ w.in_ok-push_in_quarter.ensures q its)
      (c.loop-number.invariant q its)
  | in_default w ↦
      let within : c.loop-number.number < length c.args.binaries.now =
      rw (← c.len-number-end.ensures) c.loop-number-test.true in
      absurd (slice_get-none c.args.binaries.now c.loop-number.number
      (sym w.in_default.ensures.entry) within)
]

pub returns : goal.returns
returns c = λ q its.
    let bs = binaries_of c.args.binaries.now in
    let all : c.loop-number.number ≡ length bs =
    omega (arith, c.len-number-end.ensures, length-map c.args.binaries.now binary_of) in
    c.loop-number.invariant q its
    ∙ ap (λ (xs : List KeptBinary). places_from (is_of q) 0 xs)
    (ap (λ k. take k bs) all ∙ take-length bs)
