-- `members_of`: its loop, and what it answers.
use Rattle.std.proofs.Common.{◌≡◌, ◌∙◌, ◌==◌, List, Some, ap, arith, length, refl, slice_get, ℕ}
use Rattle.std.proofs.lemmas.List.{take_all}
use Rattle.std.proofs.lemmas.Option.{slice_get_read}
use Rattle.td_indices.specs.Archive.{places_from}
use Rattle.td_plan.proofs.Positions.{member-more}
use Rattle.td_plan.proofs.Turned.{lists-len}
use Rattle.td_plan.proofs.ordering.members_of.Goals as goal

pub loop-number-preserved : goal.loop-number-preserved
loop-number-preserved c =
    let firsts = c.args.parts.now.firsts.items in
    let n = c.loop-number.number in
    let first = c.index.result.now in
    let at : slice_get firsts n ≡ Some first =
    slice_get_read firsts (length firsts) n first refl
    (omega (arith, c.loop-number-test.true, c.len-number-end.ensures)) c.index.ensures in
    record {
      at = λ k low.
          member-more firsts n first k _ _ at
          (c.in_ok-push_member.ensures.lists k (omega (arith, low, c.loop-number.invariant.len)))
          (c.loop-number.invariant.at k low);
      len = c.in_ok-push_member.ensures.len ∙ c.loop-number.invariant.len;
    }

pub returns : goal.returns
returns c =
    let firsts = c.args.parts.now.firsts.items in
    record {
      len = lists-len c.loop-number.members.items ∙ c.loop-number.invariant.len;
      at = λ first low.
          c.loop-number.invariant.at first low
          ∙ ap (λ (l : List ℕ). places_from (λ (f : ℕ). f == first) 0 l)
          (take_all c.loop-number.number firsts
          (omega (arith, c.loop-number-test.false, c.len-number-end.ensures)));
    }
