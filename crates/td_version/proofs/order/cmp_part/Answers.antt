-- `cmp_part`: what it answers, its loop and the call of `after_first`.
use Rattle.std.proofs.Common.{◌≡◌, ◌∙◌, sym, length, ◌<◌, ◌+◌}
use Rattle.std.specs.Ordering.{nat_cmp}
use Rattle.td_version.specs.Order.{end_mark}
use Rattle.td_version.specs.Comparing.{first_mark}
use Rattle.td_version.proofs.Comparing.{marks_decide, marks_same, numbers_decide, numbers_same}
use Rattle.td_version.proofs.Comparing.{numbers_shrink, nonempty_symbol, part_cmp-rests}
use Rattle.td_version.proofs.Comparing.{part_cmp-empty, some_left, some_right}
use Rattle.td_version.proofs.order.cmp_part.Goals as goal
use Rattle.td_version.proofs.order.cmp_part.Goals.{then-not-is_empty}
use Rattle.td_version.proofs.order.cmp_part.Goals.{else-not-is_empty+then-not-is_empty-2}

pub returns-then-ne : goal.returns-then-ne
returns-then-ne c =
    let marks : c.cmp-order.result
    ≡ nat_cmp (first_mark c.loop-left.left.now) (first_mark c.loop-left.right.now) = cc in
    marks_decide c.loop-left.left.now c.loop-left.right.now c.cmp-order.result marks
    (sym c.ne.ensures ∙ c.if-ne.true) ∙ c.loop-left.invariant

pub returns-then-ne-2 : goal.returns-then-ne-2
returns-then-ne-2 c =
    let marks : c.cmp-order.result
    ≡ nat_cmp (first_mark c.loop-left.left.now) (first_mark c.loop-left.right.now) = cc in
    let same = marks_same c.loop-left.left.now c.loop-left.right.now c.cmp-order.result marks
    (sym c.ne.ensures ∙ c.if-ne.false) in
    let left : first_mark c.loop-left.left.now ≡ end_mark =
    sym c.first_mark-mark.ensures ∙ c.if-mark-eq-END_MARK.true in
    numbers_decide c.loop-left.left.now c.loop-left.right.now c.split_digits.result.0.now
    c.split_digits-then-mark-eq-END_MARK.result.0.now c.cmp_digits-order.result left
    (sym same ∙ left) c.split_digits.ensures.first
    c.split_digits-then-mark-eq-END_MARK.ensures.first c.cmp_digits-order.ensures
    (sym c.ne-then-mark-eq-END_MARK.ensures ∙ c.if-ne-2.true) ∙ c.loop-left.invariant

pub loop-left-smaller-then-mark-eq-END_MARK : goal.loop-left-smaller-then-mark-eq-END_MARK
loop-left-smaller-then-mark-eq-END_MARK c =
    let marks : c.cmp-order.result
    ≡ nat_cmp (first_mark c.loop-left.left.now) (first_mark c.loop-left.right.now) = cc in
    let same = marks_same c.loop-left.left.now c.loop-left.right.now c.cmp-order.result marks
    (sym c.ne.ensures ∙ c.if-ne.false) in
    let left : first_mark c.loop-left.left.now ≡ end_mark =
    sym c.first_mark-mark.ensures ∙ c.if-mark-eq-END_MARK.true in
    let some : 0 < length c.loop-left.left.now + length c.loop-left.right.now =
    elim c.if-not-is_empty.branch [
      | then-not-is_empty w ↦
          some_left c.loop-left.left.now c.loop-left.right.now
          (sym c.is_empty.ensures ∙ w.if-not-is_empty.true)
      | else-not-is_empty+then-not-is_empty-2 w ↦
          some_right c.loop-left.left.now c.loop-left.right.now
          (sym w.is_empty-else-not-is_empty.ensures ∙ w.if-not-is_empty-2.true)
    ] in
    rw (c.split_digits.ensures.after, c.split_digits-then-mark-eq-END_MARK.ensures.after)
    (numbers_shrink c.loop-left.left.now c.loop-left.right.now left (sym same ∙ left) some)

pub loop-left-preserved-then-mark-eq-END_MARK : goal.loop-left-preserved-then-mark-eq-END_MARK
loop-left-preserved-then-mark-eq-END_MARK c =
    let marks : c.cmp-order.result
    ≡ nat_cmp (first_mark c.loop-left.left.now) (first_mark c.loop-left.right.now) = cc in
    let same = marks_same c.loop-left.left.now c.loop-left.right.now c.cmp-order.result marks
    (sym c.ne.ensures ∙ c.if-ne.false) in
    let left : first_mark c.loop-left.left.now ≡ end_mark =
    sym c.first_mark-mark.ensures ∙ c.if-mark-eq-END_MARK.true in
    rw (c.split_digits.ensures.after, c.split_digits-then-mark-eq-END_MARK.ensures.after)
    (numbers_same c.loop-left.left.now c.loop-left.right.now c.split_digits.result.0.now
    c.split_digits-then-mark-eq-END_MARK.result.0.now c.cmp_digits-order.result left
    (sym same ∙ left) c.split_digits.ensures.first
    c.split_digits-then-mark-eq-END_MARK.ensures.first c.cmp_digits-order.ensures
    (sym c.ne-then-mark-eq-END_MARK.ensures ∙ c.if-ne-2.false) ∙ c.loop-left.invariant)

pub after_first-left-requires : goal.after_first-left-requires
after_first-left-requires c =
    nonempty_symbol c.loop-left.left.now (λ e.
    c.if-mark-eq-END_MARK.false (c.first_mark-mark.ensures ∙ e))

pub after_first-right-requires : goal.after_first-right-requires
after_first-right-requires c =
    let marks : c.cmp-order.result
    ≡ nat_cmp (first_mark c.loop-left.left.now) (first_mark c.loop-left.right.now) = cc in
    let same = marks_same c.loop-left.left.now c.loop-left.right.now c.cmp-order.result marks
    (sym c.ne.ensures ∙ c.if-ne.false) in
    nonempty_symbol c.loop-left.right.now (λ e.
    c.if-mark-eq-END_MARK.false (c.first_mark-mark.ensures ∙ same ∙ e))

pub loop-left-preserved : goal.loop-left-preserved
loop-left-preserved c =
    let marks : c.cmp-order.result
    ≡ nat_cmp (first_mark c.loop-left.left.now) (first_mark c.loop-left.right.now) = cc in
    let same = marks_same c.loop-left.left.now c.loop-left.right.now c.cmp-order.result marks
    (sym c.ne.ensures ∙ c.if-ne.false) in
    rw (c.after_first-left.ensures, c.after_first-right.ensures)
    (part_cmp-rests c.loop-left.left.now c.loop-left.right.now same
    (λ e. c.if-mark-eq-END_MARK.false (c.first_mark-mark.ensures ∙ e)) ∙ c.loop-left.invariant)

pub returns : goal.returns
returns c =
    sym (part_cmp-empty c.loop-left.left.now c.loop-left.right.now
    (sym c.is_empty.ensures ∙ c.if-not-is_empty.false)
    (sym c.is_empty-else-not-is_empty.ensures ∙ c.if-not-is_empty-2.false)) ∙ c.loop-left.invariant
