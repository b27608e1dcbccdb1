-- `read_words`: the clauses `words` and `end`, its loop and its sums.
use Rattle.std.proofs.Common.{◌<◌, ◌-◌, refl, length, sym, subst, List, rules, arith}
use Rattle.td_wbread.specs.declared.word.Word.{Word}
use Rattle.td_wbread.specs.Taking.{IsFront}
use Rattle.td_wbread.proofs.Scans.{IsLeft, all_left, trimmed_left, trimmed_unspaced, word_left}
use Rattle.td_wbread.proofs.Scans.{word_shorter, words_end, closed_end, words_before, open_end}
use Rattle.td_wbread.proofs.scanning.read_words.Goals as goal

pub loop-rest-init : goal.loop-rest-init
loop-rest-init c = record {
  left = trimmed_left c.args.line.now _ c.args.line.now _ c.trimmed-rest.ensures.value
      (subst (λ (ws : List Word). IsLeft c.args.line.now ws c.args.line.now) (search rules)
      (all_left c.args.line.now));
  unspaced = trimmed_unspaced c.args.line.now _ c.trimmed-rest.ensures.value;
  utf8 = search rules;
}

pub overflow_sub-place : goal.overflow_sub-place
overflow_sub-place c = let l = c.loop-rest.invariant.left.counted in omega arith

pub returns-in-Open-clause-words : goal.returns-in-Open-clause-words
returns-in-Open-clause-words c =
    words_before c.args.line.now _ _ c.in-Open.quote c.loop-rest.invariant.left
    (subst (IsFront c.loop-rest.rest.now) c.in-Open.is c.in_ok-quote.ensures)

pub returns-in-Open-clause-end : goal.returns-in-Open-clause-end
returns-in-Open-clause-end c =
    open_end c.args.line.now _ _ c.in-Open.quote c.loop-rest.invariant.left
    (subst (IsFront c.loop-rest.rest.now) c.in-Open.is c.in_ok-quote.ensures)

pub loop-rest-smaller : goal.loop-rest-smaller
loop-rest-smaller c =
    let front = subst (IsFront c.loop-rest.rest.now) c.in-Whole.is c.in_ok-quote.ensures in
    let some : 0 < length c.loop-rest.rest.now = search rules in
    word_shorter c.loop-rest.rest.now _ _ c.in-Whole.after.now _
    c.trimmed-rest-in-Whole.ensures.value c.loop-rest.invariant.unspaced some front.0 front.1

pub loop-rest-preserved : goal.loop-rest-preserved
loop-rest-preserved c =
    let front = subst (IsFront c.loop-rest.rest.now) c.in-Whole.is c.in_ok-quote.ensures in
    let some : 0 < length c.loop-rest.rest.now = search rules in
    let place = length c.args.line.now - length c.loop-rest.rest.now in
    record {
      left = trimmed_left c.args.line.now _ c.in-Whole.after.now _
          c.trimmed-rest-in-Whole.ensures.value
          (subst (λ (ws : List Word). IsLeft c.args.line.now ws c.in-Whole.after.now)
          (sym c.in_ok-push-in-Whole.ensures.items)
          (word_left c.args.line.now _ c.loop-rest.rest.now c.in-Whole.text c.in-Whole.is_bare
          c.in-Whole.after.now place refl c.loop-rest.invariant.left
          c.loop-rest.invariant.unspaced some front.0 front.1));
      unspaced = trimmed_unspaced c.in-Whole.after.now _ c.trimmed-rest-in-Whole.ensures.value;
      utf8 = search rules;
    }

pub returns-clause-words : goal.returns-clause-words
returns-clause-words c = words_end c.args.line.now _ _ c.loop-rest.invariant.left (search rules)

pub returns-clause-end : goal.returns-clause-end
returns-clause-end c = closed_end c.args.line.now _ _ c.loop-rest.invariant.left (search rules)
