-- `own_counts`: one package more.
use Rattle.std.proofs.Common.{◌<◌, ◌+◌, ℕ, Bool, Option, Some, ap, sym, ◌∙◌, arith, count_by}
use Rattle.std.proofs.Common.{if◌then◌else◌, length, slice_get, take}
use Rattle.td_indices.specs.PackageKeys.{same_home}
use Rattle.td_details.specs.Counts.{is_own}
use Rattle.td_details.proofs.Counting.{counted_more, own_home}
use Rattle.td_details.proofs.owning.own_counts.Goals as goal

pub loop-number-preserved : goal.loop-number-preserved
loop-number-preserved c =
    let n = c.loop-number.number in
    let bs = c.args.archive.now.binaries in
    let within : n < length bs =
    omega (arith, c.loop-number-test.true, c.binary_count-number-end.ensures) in
    record {
      each = λ p there.
          let before : ℕ = count_by (is_own p) (take n bs) in
          c.count_at.ensures.counts p (omega (arith, there, c.loop-number.invariant.len))
          ∙ ap (λ (k : ℕ). k + (if same_home c.home_of.result (Some p) then 1 else 0))
          (c.loop-number.invariant.each p there)
          ∙ ap (λ (h : Option ℕ). before + (if same_home h (Some p) then 1 else 0))
          c.home_of.ensures
          ∙ ap (λ (b : Bool). before + (if b then 1 else 0)) (own_home p (slice_get bs n))
          ∙ sym (counted_more (is_own p) bs n within);
      len = c.count_at.ensures.len ∙ c.loop-number.invariant.len;
    }
