-- `put_sources`: the line of the first source is written, and its keys are cut off.
use Rattle.std.proofs.Common.{◌≡◌, ◌≢◌, ◌<◌, ◌∷◌, ◌++◌, [], ℕ, List, Some, map, length, ap, sym}
use Rattle.std.proofs.Common.{subst, ◌∙◌, arith, length-drop}
use Rattle.std.specs.Prelude.{slice_get}
use Rattle.std.specs.String.{string_bytes}
use Rattle.std.proofs.lemmas.Bool.{eqb-false, eqb-true}
use Rattle.td_rows.specs.declared.key.Key.{Key}
use Rattle.td_rows.proofs.Appends.{grown_twice}
use Rattle.td_lasting.specs.Sending.{sent_line}
use Rattle.td_lasting.proofs.SentLines.{source_lines, sources_done, sources_turn}
use Rattle.td_lasting.proofs.sending.put_sources.Goals as goal

pub loop-rest-preserved : goal.loop-rest-preserved
loop-rest-preserved c =
    let s = c.args.supply.now in
    let suites : List (List ℕ) = map (λ s. s.now) c.args.suites.now in
    let kind = c.args.entry.now.kind in
    let rest = c.loop-rest.rest.now in
    let n = c.same_source.result in
    let before = string_bytes c.loop-rest.out in
    let now = string_bytes c.put_sent_line.new.out in
    let all = string_bytes c.args.out.now ++ source_lines s suites kind c.args.entry.now.keys in
    let other : length rest ≢ 0 =
    eqb-false (length rest) 0 (sym c.is_empty.ensures ∙ c.loop-rest-test.true) in
    let some : 0 < length rest = omega arith in
    record {
      lines = ap (λ (l : List Key). now ++ source_lines s suites kind l) c.split_at.ensures.back
          ∙ sources_turn s suites kind rest n all before now some (c.same_source.ensures.some some)
          c.same_source.ensures.front c.same_source.ensures.rest c.loop-rest.invariant.lines
          (subst (λ (l : List Key). (k : Key) → slice_get l 0 ≡ Some k
          → now ≡ before ++ (sent_line s suites kind k.source l ++ 10 ∷ []))
          c.split_at.ensures.front c.in_ok-put_sent_line.ensures.ok);
      front = grown_twice (string_bytes c.args.out.now) before now c.loop-rest.invariant.front
          c.in_ok-put_sent_line.ensures.front;
    }

pub loop-rest-smaller : goal.loop-rest-smaller
loop-rest-smaller c =
    let rest = c.loop-rest.rest.now in
    let other : length rest ≢ 0 =
    eqb-false (length rest) 0 (sym c.is_empty.ensures ∙ c.loop-rest-test.true) in
    let some : 0 < length rest = omega arith in
    let more : 0 < c.same_source.result = c.same_source.ensures.some some in
    let left = ap (λ (l : List Key). length l) c.split_at.ensures.back
    ∙ length-drop c.same_source.result rest in
    omega (arith, left, more, some)

pub returns-clause-ok : goal.returns-clause-ok
returns-clause-ok c =
    let s = c.args.supply.now in
    let suites : List (List ℕ) = map (λ s. s.now) c.args.suites.now in
    let kind = c.args.entry.now.kind in
    let rest = c.loop-rest.rest.now in
    sources_done s suites kind rest
    (string_bytes c.args.out.now ++ source_lines s suites kind c.args.entry.now.keys)
    (string_bytes c.loop-rest.out)
    (eqb-true (length rest) 0 (sym c.is_empty.ensures ∙ c.loop-rest-test.false))
    c.loop-rest.invariant.lines
