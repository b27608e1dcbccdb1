-- `motions_of`: its loop, and what it answers.
use Rattle.std.proofs.Common.{◌≡◌, ◌+◌, ◌++◌, ◌&&◌, ◌∷◌, ◌<◌, ◌∙◌, [], Bool, List, Some, ap, ap₂}
use Rattle.std.proofs.Common.{arith, false, get_or, leb, length, map, slice_get, sym, ℕ}
use Rattle.std.specs.List.{range_with_len}
use Rattle.std.proofs.lemmas.List.{length_push}
use Rattle.std.proofs.lemmas.List.FromFn.{get_or-map-range_with_len, length-map-range_with_len}
use Rattle.std.proofs.lemmas.List.FromFn.{map-range_with_len_more}
use Rattle.std.proofs.lemmas.Option.{slice_get-get_or}
use Rattle.td_text.specs.Limits.{max_rebuild}
use Rattle.td_indices.specs.Archive.{Contents}
use Rattle.td_indices.specs.Sources.{KeptSource}
use Rattle.td_plan.specs.declared.due.Motion.{Motion}
use Rattle.td_plan.specs.declared.due.Motion.TheVariants.{Still}
use Rattle.td_plan.specs.Due.{is_due, is_ready, number_of}
use Rattle.td_plan.specs.Numbers.{number_over}
use Rattle.td_plan.specs.Premises.{Premises, places}
use Rattle.td_plan.specs.inner.Inputs.{kept_source}
use Rattle.td_plan.specs.inner.Motions.{motion_at}
use Rattle.td_plan.proofs.Numbering.{number-same}
use Rattle.td_plan.proofs.due.motions_of.Goals as goal

-- the number over flags that say which rows are due except for the number
numbered : (p : Premises) (s : KeptSource) (flags : List Bool)
    → flags ≡ map (is_ready p s) (places p)
    → number_over (λ k. get_or flags k false) p s ≡ number_of p s
numbered p s flags are =
    number-same (λ k. get_or flags k false) (is_ready p s) p s (λ k lt.
    ap (λ (l : List Bool). get_or l k false) are
    ∙ get_or-map-range_with_len (is_ready p s) 0 (length p.archive.table) k k false lt
    (omega arith))

-- a motion among all of them
motion_among : (p : Premises) (s : KeptSource) (n k : ℕ) → k < n
    → slice_get (map (motion_at p s) (range_with_len 0 n)) k ≡ Some (motion_at p s k)
motion_among p s n k lt =
    slice_get-get_or (map (motion_at p s) (range_with_len 0 n)) k Still
    (omega (arith, lt, length-map-range_with_len (motion_at p s) 0 n))
    ∙ ap (λ (m : Motion). Some m)
    (get_or-map-range_with_len (motion_at p s) 0 n k k Still lt (omega arith))

pub loop-place-preserved : goal.loop-place-preserved
loop-place-preserved c =
    let x = c.args.inputs.now in
    let s = kept_source c.args.source.now in
    let place = c.loop-place.place in
    let at = c.loop-place.at.items in
    let flags = c.in_ok-flags.flags.items in
    let pushed = c.in_ok-push.ensures.items in
    record {
      motions = λ p of.
          let same : length x.archive.now.table ≡ length p.archive.table =
          ap (λ (a : Contents). length a.table) of.archive in
          let within : place < length p.archive.table = omega (
            arith,
            same,
            c.in_ok-flags.ensures.len,
            c.len-place-end.ensures,
            c.loop-place-test.true,
          ) in
          let flag = c.index.result.now in
          let ready : flag ≡ is_ready p s place =
          c.index.ensures
          ∙ ap (λ (l : List Bool). get_or l place flag) (c.in_ok-flags.ensures.ready p of)
          ∙ get_or-map-range_with_len (is_ready p s) 0 (length p.archive.table) place place flag
          within (omega arith) in
          let number = c.number_over-rebuild.ensures.is p of
          ∙ ap (λ (l : List Bool). number_over (λ k. get_or l k false) p s) c.deref.ensures.value
          ∙ numbered p s flags (c.in_ok-flags.ensures.ready p of) in
          let due : c.is_rebuilt-due.result ≡ is_due p s place =
          c.is_rebuilt-due.ensures
          ∙ ap₂ (λ (a b : Bool). a && b) (ap (λ (n : ℕ). leb n max_rebuild) number) ready in
          pushed
          ∙ ap (λ (m : Motion). at ++ m ∷ []) (c.motion_at.ensures p of due)
          ∙ ap (λ (l : List Motion). l ++ motion_at p s place ∷ [])
          (c.loop-place.invariant.motions p of)
          ∙ sym (map-range_with_len_more (motion_at p s) 0 place place (omega arith));
      len = ap length pushed ∙ length_push at c.motion_at.result
          ∙ ap (λ (n : ℕ). n + 1) c.loop-place.invariant.len;
    }

pub returns : goal.returns
returns c =
    let x = c.args.inputs.now in
    let s = kept_source c.args.source.now in
    record {
      motions = λ p of.
          let same : length x.archive.now.table ≡ length p.archive.table =
          ap (λ (a : Contents). length a.table) of.archive in
          let all : c.loop-place.place ≡ length p.archive.table = omega
          (arith, same, c.in_ok-flags.ensures.len, c.len-place-end.ensures) in
          let number = c.number_over-rebuild.ensures.is p of
          ∙ ap (λ (l : List Bool). number_over (λ k. get_or l k false) p s) c.deref.ensures.value
          ∙ numbered p s c.in_ok-flags.flags.items (c.in_ok-flags.ensures.ready p of) in
          record {
            number = number;
            numbered = ap (λ (n : ℕ). leb n max_rebuild) number;
            len = c.loop-place.invariant.len ∙ all;
            at = λ k lt.
                ap (λ (l : List Motion). slice_get l k) (c.loop-place.invariant.motions p of
                ∙ ap (λ (n : ℕ). map (motion_at p s) (range_with_len 0 n)) all)
                ∙ motion_among p s (length p.archive.table) k lt;
          };
      len =
          let all : c.loop-place.place ≡ length x.archive.now.table = omega
          (arith, c.in_ok-flags.ensures.len, c.len-place-end.ensures) in
          c.loop-place.invariant.len ∙ all;
    }
