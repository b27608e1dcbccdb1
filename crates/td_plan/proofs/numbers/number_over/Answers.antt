-- `number_over`: what it answers and its loop.
use Rattle.std.proofs.Common.{◌≡◌, ◌∙◌, ℕ, None, false, ap, arith, get_or, length, max, sym}
use Rattle.std.specs.List.{range_with_len}
use Rattle.td_indices.specs.Archive.{Contents}
use Rattle.td_plan.specs.Numbers.{numbers_at}
use Rattle.td_plan.specs.inner.Inputs.{kept_source}
use Rattle.td_plan.proofs.Numbering.{least-more, least_over, number-places, raised-greatest}
use Rattle.td_plan.proofs.numbers.number_over.Goals as goal

pub loop-place-preserved : goal.loop-place-preserved
loop-place-preserved c =
    let s = kept_source c.args.source.now in
    let place = c.loop-place.place in
    let test = λ (k : ℕ). get_or c.args.flags.now k false in
    record {
      is = λ p of.
          c.max-number.ensures
          ∙ ap (λ (n : ℕ). max n c.least_at.result) (c.loop-place.invariant.is p of)
          ∙ ap (max (least_over test (numbers_at p s) (range_with_len 0 place)))
          (c.least_at.ensures.is p of
          ∙ raised-greatest (test place) None (numbers_at p s place))
          ∙ sym (least-more test (numbers_at p s) place);
      within = omega (arith, c.max-number.ensures, c.least_at.ensures.within);
    }

pub returns : goal.returns
returns c =
    let x = c.args.inputs.now in
    let s = kept_source c.args.source.now in
    let test = λ (k : ℕ). get_or c.args.flags.now k false in
    record {
      is = λ p of.
          let same : length x.archive.now.table ≡ length p.archive.table =
          ap (λ (a : Contents). length a.table) of.archive in
          let all : c.loop-place.place ≡ length p.archive.table = omega (arith, same) in
          c.loop-place.invariant.is p of
          ∙ ap (λ (n : ℕ). least_over test (numbers_at p s) (range_with_len 0 n)) all
          ∙ sym (number-places test p s);
      within = c.loop-place.invariant.within;
    }
