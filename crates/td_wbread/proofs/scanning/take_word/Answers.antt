-- `take_word`: what it answers, its loop, the call of `from_line` and its sums.
use Rattle.std.proofs.Common.{ℕ, ap, sym, ◌∙◌, subst, List, rules}
use Rattle.td_rows.specs.Text.{has_newline}
use Rattle.td_wbread.specs.Taking.{IsSeen}
use Rattle.td_wbread.proofs.Takes.{run_more, between_more, open_found, seen_line, seen_long}
use Rattle.td_wbread.proofs.Takes.{word_ends_at, shorter}
use Rattle.td_wbread.proofs.scanning.take_word.Goals as goal

pub from_line-requires : goal.from_line-requires
from_line-requires c =
    let s = run_more c.args.text.now _ _ c.pieces.rest.now _ _ _ c.pieces.invariant.seen
    c.plain_run.ensures.run c.plain_run.ensures.behind c.in_ok-push_str.ensures.bytes in
    ap has_newline c.as_str.ensures.value ∙ seen_line _ _ _ _ s

pub returns-in_default : goal.returns-in_default
returns-in_default c =
    let s = run_more c.args.text.now _ _ c.pieces.rest.now _ _ _ c.pieces.invariant.seen
    c.plain_run.ensures.run c.plain_run.ensures.behind c.in_ok-push_str.ensures.bytes in (
      subst (λ (t : List ℕ). IsSeen c.args.text.now t c.pieces.is_bare c.plain_run.result.1.now)
          (sym (c.in_ok-word.ensures.text ∙ c.as_str.ensures.value)) s,
      word_ends_at c.pieces.rest.now _ c.plain_run.ensures.behind c.in_default.ensures.none,
    )

pub returns-in_default-closed : goal.returns-in_default-closed
returns-in_default-closed c =
    let s = run_more c.args.text.now _ _ c.pieces.rest.now _ _ _ c.pieces.invariant.seen
    c.plain_run.ensures.run c.plain_run.ensures.behind c.in_ok-push_str.ensures.bytes in
    open_found _ _ _ c.in-Some.quote _ c.in-Some.inside.now c.in-Some.ensures.found.0
    c.in-Some.ensures.found.1 c.in_default-closed.ensures s

pub overflow_sub-result : goal.overflow_sub-result
overflow_sub-result c =
    let s = run_more c.args.text.now _ _ c.pieces.rest.now _ _ _ c.pieces.invariant.seen
    c.plain_run.ensures.run c.plain_run.ensures.behind c.in_ok-push_str.ensures.bytes in
    seen_long _ _ _ _ s

pub pieces-smaller : goal.pieces-smaller
pieces-smaller c = shorter c.in-Some.quote c.pieces.rest.now _ c.in-Some.inside.now _ _
    c.plain_run.ensures.behind c.in-Some.ensures.found.0 c.in-Some-closed.ensures

pub pieces-preserved : goal.pieces-preserved
pieces-preserved c =
    let s = run_more c.args.text.now _ _ c.pieces.rest.now _ _ _ c.pieces.invariant.seen
    c.plain_run.ensures.run c.plain_run.ensures.behind c.in_ok-push_str.ensures.bytes in
    record {
      seen = between_more _ _ _ c.in-Some.quote _ c.in-Some.inside.now _ _ _
          c.in-Some.ensures.found.0 c.in-Some.ensures.found.1 c.in-Some-closed.ensures
          c.in_ok-push_str-2.ensures.bytes s;
      utf8 = search rules;
    }
