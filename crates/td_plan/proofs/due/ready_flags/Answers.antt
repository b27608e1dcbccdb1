-- `ready_flags`: its loop, and what it answers.
use Rattle.std.proofs.Common.{◌≡◌, ◌+◌, ◌++◌, ◌∷◌, ◌∙◌, [], Bool, List, ap, arith, length, map}
use Rattle.std.proofs.Common.{sym, ℕ}
use Rattle.std.specs.List.{range_with_len}
use Rattle.std.proofs.lemmas.List.{length_push}
use Rattle.std.proofs.lemmas.List.FromFn.{map-range_with_len_more}
use Rattle.td_indices.specs.Archive.{Contents}
use Rattle.td_plan.specs.Due.{is_ready}
use Rattle.td_plan.specs.inner.Inputs.{kept_source}
use Rattle.td_plan.proofs.due.ready_flags.Goals as goal

pub loop-place-preserved : goal.loop-place-preserved
loop-place-preserved c =
    let s = kept_source c.args.source.now in
    let place = c.loop-place.place in
    let flags = c.loop-place.flags.items in
    let pushed = c.in_ok-push.ensures.items in
    record {
      ready = λ p of.
          pushed
          ∙ ap (λ (b : Bool). flags ++ b ∷ []) (c.is_ready.ensures p of)
          ∙ ap (λ (l : List Bool). l ++ is_ready p s place ∷ []) (c.loop-place.invariant.ready p of)
          ∙ sym (map-range_with_len_more (is_ready p s) 0 place place (omega arith));
      len = ap length pushed ∙ length_push flags c.is_ready.result
          ∙ ap (λ (n : ℕ). n + 1) c.loop-place.invariant.len;
    }

pub returns : goal.returns
returns c =
    let x = c.args.inputs.now in
    let s = kept_source c.args.source.now in
    record {
      ready = λ p of.
          let same : length x.archive.now.table ≡ length p.archive.table =
          ap (λ (a : Contents). length a.table) of.archive in
          let all : c.loop-place.place ≡ length p.archive.table = omega (arith, same) in
          c.loop-place.invariant.ready p of
          ∙ ap (λ (n : ℕ). map (is_ready p s) (range_with_len 0 n)) all;
      len =
          let all : c.loop-place.place ≡ length x.archive.now.table = omega arith in
          c.loop-place.invariant.len ∙ all;
    }
