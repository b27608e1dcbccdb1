-- `read_list`: the clauses `err`, `certain` and `ok`, and its loop.
use Rattle.std.proofs.Common.{◌≡◌, ◌≢◌, ◌+◌, length, subst, ap, arith, rules, sym, ◌∙◌, false, true}
use Rattle.std.proofs.Common.{map, List, Ok, ◌++◌, ◌∷◌, []}
use Rattle.std.proofs.lemmas.Result.{err_from_is_err_and}
use Rattle.td_text.specs.Lines.{left_len, lines_left}
use Rattle.td_text.proofs.Lines.{taken, stepped, skips, ends}
use Rattle.td_relation.specs.declared.arch.Arch.{Arch}
use Rattle.td_relation.specs.Arch.{words_of}
use Rattle.td_relation.specs.ArchReading.{arch_step, add_arch, arch_at}
use Rattle.td_relation.specs.Fails.{Fails}
use Rattle.td_relation.specs.Table.{is_skipped}
use Rattle.td_relation.proofs.ArchTexts.{arch_step-skipped, arch_step-kept, Fails-over_lines}
use Rattle.td_relation.proofs.FirstLines.{first_skipped_is, read_first}
use Rattle.td_relation.proofs.arch_reading.read_list.Goals as goal

pub returns-in_err-arch-clause-err : goal.returns-in_err-arch-clause-err
returns-in_err-arch-clause-err c =
    let p = err_from_is_err_and c.from_residual.result c.from_residual.ensures.1 in
    let kept : is_skipped c.next_line.result.0.now ≡ false = search rules in
    let h = taken arch_step _ _ c.loop-rest.rest c.in-Some.text _ _ _ c.in-Some.is
    c.next_line.ensures.lines c.loop-rest.invariant.decides in
    let f = subst (λ (l : List Arch).
    Fails c.in_err-arch.field-0.0
    (add_arch (c.loop-rest.number + 1) (map words_of l) (arch_at c.next_line.result.0.now)))
    c.as_slice.ensures.value c.in_err-arch.ensures.err in
    rw (p.1, p.2) (Fails-over_lines _ _ _ _ _ _ kept f h)

pub loop-rest-preserved-in-Continue-branch-2 : goal.loop-rest-preserved-in-Continue-branch-2
loop-rest-preserved-in-Continue-branch-2 c =
    let kept : is_skipped c.next_line.result.0.now ≡ false = search rules in
    let h = taken arch_step _ _ c.loop-rest.rest c.in-Some.text _ _ _ c.in-Some.is
    c.next_line.ensures.lines c.loop-rest.invariant.decides in
    let seen = c.loop-rest.list.items in
    let added : add_arch (c.loop-rest.number + 1) (map words_of seen)
    (arch_at c.next_line.result.0.now) ≡ Ok (map words_of seen ++ words_of c.in_ok-arch.arch ∷ []) =
    subst (λ (l : List Arch).
    add_arch (c.loop-rest.number + 1) (map words_of l) (arch_at c.next_line.result.0.now)
    ≡ Ok (map words_of l ++ words_of c.in_ok-arch.arch ∷ [])) c.as_slice.ensures.value
    c.in_ok-arch.ensures.ok in
    let room : length seen ≢ 32 =
    λ full. c.in_ok-arch.ensures.room
    (ap (λ (l : List Arch). length l) c.as_slice.ensures.value ∙ full) in
    record {
      decides = stepped arch_step _ _ _ _ _ _
          (arch_step-kept _ _ _ kept ∙ added ∙ ap Ok (sym c.in_ok-push_arch.ensures.ok)) h;
      small = omega (arith, ap left_len c.in-Some.is);
      few = (let longer = c.in_ok-push_arch.ensures.longer in omega arith);
      first = λ line is bad. absurd (read_first (c.loop-rest.number + 1) (map words_of seen)
          (map words_of seen ++ words_of c.in_ok-arch.arch ∷ []) (lines_left c.loop-rest.rest) _
          c.next_line.result.0.now line (ap lines_left c.in-Some.is ∙ c.next_line.ensures.lines)
          kept (c.loop-rest.invariant.first line is bad) bad added);
    }

pub loop-rest-preserved : goal.loop-rest-preserved
loop-rest-preserved c =
    let skipped : is_skipped c.next_line.result.0.now ≡ true = search rules in
    let h = taken arch_step _ _ c.loop-rest.rest c.in-Some.text _ _ _ c.in-Some.is
    c.next_line.ensures.lines c.loop-rest.invariant.decides in
    record {
      decides = skips arch_step _ _ _ _ _
          (arch_step-skipped (c.loop-rest.number + 1) (map words_of c.loop-rest.list.items)
          c.next_line.result.0.now skipped) h;
      small = omega (arith, ap left_len c.in-Some.is);
      few = omega arith;
      first = λ line is bad. first_skipped_is (lines_left c.loop-rest.rest) _
          c.next_line.result.0.now line (ap lines_left c.in-Some.is ∙ c.next_line.ensures.lines)
          skipped (c.loop-rest.invariant.first line is bad);
    }

pub returns-clause-ok : goal.returns-clause-ok
returns-clause-ok c =
    ends arch_step _ _ c.loop-rest.rest _ c.in_default.is c.loop-rest.invariant.decides

pub returns-in_err-arch-clause-certain : goal.returns-in_err-arch-clause-certain
returns-in_err-arch-clause-certain c = λ line is bad.
    let p = err_from_is_err_and c.from_residual.result c.from_residual.ensures.1 in
    rw (p.1, p.2) c.in_err-arch.ensures.certain

-- a line that is an architecture's was read
pub returns-in_err-push_arch-clause-certain : goal.returns-in_err-push_arch-clause-certain
returns-in_err-push_arch-clause-certain c = λ line is bad.
    let kept : is_skipped c.next_line.result.0.now ≡ false = search rules in
    let seen = map words_of c.as_slice.result.now in
    absurd (read_first (c.loop-rest.number + 1) seen (seen ++ words_of c.in_ok-arch.arch ∷ [])
    (lines_left c.loop-rest.rest) _ c.next_line.result.0.now line
    (ap lines_left c.in-Some.is ∙ c.next_line.ensures.lines) kept
    (c.loop-rest.invariant.first line is bad) bad c.in_ok-arch.ensures.ok)
