-- `skip`: the clause `value` and its loop.
use Rattle.std.proofs.Common.{◌∙◌, length, ap, sym, arith}
use Rattle.td_text.specs.Lines.{left_len}
use Rattle.td_query.proofs.Skips.{skipped_left, skipped_left-is, skipped_here, skipped_on}
use Rattle.td_query.proofs.tokens.skip.Goals as goal

pub returns-in-None-clause-value : goal.returns-in-None-clause-value
returns-in-None-clause-value c =
    sym (skipped_here c.in-Some.text.now c.trimmed-at.result.now c.trimmed-at.ensures.value
    (sym c.in-None.ensures.value))
    ∙ sym (ap skipped_left c.in-Some.is) ∙ c.loop-left.invariant.decides

pub loop-left-preserved : goal.loop-left-preserved
loop-left-preserved c = record {
  decides =
      skipped_left-is c.after_line-left.result _ c.after_line-left.ensures.value
      ∙ sym (skipped_on c.in-Some.text.now c.trimmed-at.result.now c.in-Some-strip.comment.now
      c.trimmed-at.ensures.value (sym c.in-Some-strip.ensures.value))
      ∙ sym (ap skipped_left c.in-Some.is) ∙ c.loop-left.invariant.decides;
  small = omega (
    arith,
    c.after_line-left.ensures.shorter,
    ap length c.in-Some-strip.ensures.found,
    c.trimmed-at.ensures.shorter,
    ap left_len c.in-Some.is,
    c.loop-left.invariant.small,
  );
}
