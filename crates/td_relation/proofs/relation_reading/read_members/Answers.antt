-- `read_members`: the clauses `err` and `ok` and its loop.
use Rattle.std.proofs.Common.{◌≡◌, ◌∙◌, map, rules, subst, true, false}
use Rattle.td_relation.specs.Asked.{asked}
use Rattle.td_relation.specs.Members.{chunked}
use Rattle.td_text.specs.Runs.{is_blank}
use Rattle.td_relation.specs.RelationGrammar.{member_step}
use Rattle.td_relation.proofs.MemberTexts.{member_step-blank, member_step-filled, member_step-fails}
use Rattle.td_relation.proofs.PieceLaws.{taken, stepped, faulted, ends, pieces_lack, LeftLacks}
use Rattle.td_relation.proofs.relation_reading.read_members.Goals as goal

pub returns-in-Err-push_member-clause-err : goal.returns-in-Err-push_member-clause-err
returns-in-Err-push_member-clause-err c =
    let seen = chunked c.loop-rest.sizes.items (map asked c.loop-rest.alternatives.items) in
    let filled : is_blank c.next_piece.result.0.now ≡ false = search rules in
    let h = taken member_step 44 seen c.loop-rest.rest c.in-Some.text _ _ _ c.in-Some.is
    c.next_piece.ensures.pieces c.loop-rest.invariant.decides in
    faulted member_step c.in-Err-push_member.fault seen c.next_piece.result.0.now _ _
    (member_step-fails seen c.next_piece.result.0.now c.in-Err-push_member.fault filled c.in-Err-push_member.ensures.err) h

pub loop-rest-preserved-in-Ok-push_member : goal.loop-rest-preserved-in-Ok-push_member
loop-rest-preserved-in-Ok-push_member c =
    let seen = chunked c.loop-rest.sizes.items (map asked c.loop-rest.alternatives.items) in
    let filled : is_blank c.next_piece.result.0.now ≡ false = search rules in
    let h = taken member_step 44 seen c.loop-rest.rest c.in-Some.text _ _ _ c.in-Some.is
    c.next_piece.ensures.pieces c.loop-rest.invariant.decides in
    record {
      decides = stepped member_step seen _ c.next_piece.result.0.now _ _
          (member_step-filled seen c.next_piece.result.0.now filled ∙ c.in-Ok-push_member.ensures.ok) h;
      whole = c.in-Ok-push_member.ensures.whole;
      alone = λ none. ((pieces_lack 124 44 c.in-Some.text.now c.next_piece.result.0.now
          c.next_piece.result.1 c.next_piece.ensures.text
          (subst (LeftLacks 124) c.in-Some.is (c.loop-rest.invariant.alone none))).1);
    }

pub loop-rest-preserved : goal.loop-rest-preserved
loop-rest-preserved c =
    let seen = chunked c.loop-rest.sizes.items (map asked c.loop-rest.alternatives.items) in
    let blank : is_blank c.next_piece.result.0.now ≡ true = search rules in
    let h = taken member_step 44 seen c.loop-rest.rest c.in-Some.text _ _ _ c.in-Some.is
    c.next_piece.ensures.pieces c.loop-rest.invariant.decides in
    record {
      decides = stepped member_step seen seen c.next_piece.result.0.now _ _
          (member_step-blank seen c.next_piece.result.0.now blank) h;
      whole = c.loop-rest.invariant.whole;
      alone = λ none. ((pieces_lack 124 44 c.in-Some.text.now c.next_piece.result.0.now
          c.next_piece.result.1 c.next_piece.ensures.text
          (subst (LeftLacks 124) c.in-Some.is (c.loop-rest.invariant.alone none))).1);
    }

pub returns-clause-ok : goal.returns-clause-ok
returns-clause-ok c =
    ends member_step 44 (chunked c.loop-rest.sizes.items (map asked c.loop-rest.alternatives.items))
    c.loop-rest.rest _ c.in_default.is c.loop-rest.invariant.decides

pub push_member-requires-clause-alone : goal.push_member-requires-clause-alone
push_member-requires-clause-alone c =
    λ none. ((pieces_lack 124 44 c.in-Some.text.now c.next_piece.result.0.now
    c.next_piece.result.1 c.next_piece.ensures.text
    (subst (LeftLacks 124) c.in-Some.is (c.loop-rest.invariant.alone none))).0)
