-- `put_shown`: what it answers and its loop.
use Rattle.std.proofs.Common.{◌<◌, [], ◌∷◌, string_bytes, arith}
use Rattle.std.proofs.lemmas.Str.{IsUtf8-past_char, chars_past_char}
use Rattle.td_explain.proofs.Showing.{empty_chars, ok_bytes, shown_cut, shown_done, shown_step}
use Rattle.td_explain.proofs.shown.put_shown.Goals as goal

pub returns-then-left-eq0 : goal.returns-then-left-eq0
returns-then-left-eq0 c =
    let held = c.loop-c.invariant in
    let past = chars_past_char _ _ c.in-Some.c held.0 c.in-Some.ensures.steps.0 in
    ok_bytes c.push_str-then-left-eq0.result (string_bytes c.loop-c.out) (34 ∷ 46 ∷ 46 ∷ 46 ∷ []) _
    _ c.push_str-then-left-eq0.ensures.bytes
    (shown_cut c.loop-c.left c.in-Some.c _ _ _ c.if-left-eq0.true (rw past at held.1))

pub loop-c-preserved : goal.loop-c-preserved
loop-c-preserved c =
    let held = c.loop-c.invariant in
    let parts = c.in-Some.ensures.steps.0 in
    let past = chars_past_char _ _ c.in-Some.c held.0 parts in
    let some : 0 < c.loop-c.left = omega (arith, c.if-left-eq0.false) in (
      IsUtf8-past_char _ _ c.in-Some.c held.0 parts,
      rw c.in_ok-put_char.ensures
          (shown_step c.loop-c.left c.in-Some.c _ _ _ some (rw past at held.1)),
    )

pub returns : goal.returns
returns c =
    let held = c.loop-c.invariant in
    ok_bytes c.push_str-2.result (string_bytes c.loop-c.out)
    (34 ∷ []) _ _ c.push_str-2.ensures.bytes
    (shown_done c.loop-c.left _ _ _ (empty_chars _ c.in_default.ensures.steps.0.0) held.1)
