-- `relation_of`: its loop.
use Rattle.std.proofs.Common.{◌≡◌, ◌⊎◌, ◌++◌, ◌∷◌, ◌∙◌, ◌<◌, [], List, Some, ap, arith, codes, inl}
use Rattle.std.proofs.Common.{inr}
use Rattle.std.proofs.Common.{length, map, refl, slice_get, string_bytes, sym, take}
use Rattle.std.proofs.lemmas.List.{length-map, length-take-le, map-append}
use Rattle.std.proofs.lemmas.Option.{slice_get_read}
use Rattle.td_rows.proofs.Lists.{take-next}
use Rattle.td_plan.specs.declared.waits.Wait.{Wait}
use Rattle.td_plan.specs.Relations.{relation_of}
use Rattle.td_plan.specs.inner.Waiting.{seen}
use Rattle.td_plan.proofs.RelationTexts.{relation-next}
use Rattle.td_plan.proofs.relations.relation_of.Goals as goal
use Rattle.td_plan.proofs.relations.relation_of.Goals.{then-number-gt0+in_ok-push_str}
use Rattle.td_plan.proofs.relations.relation_of.Goals.{else-number-gt0}

pub loop-number-preserved : goal.loop-number-preserved
loop-number-preserved c =
    let waits = c.args.waits.now in
    let n = c.loop-number.number in
    let it = c.index-waits-number.result in
    let low : n < length waits = c.loop-number-test.true in
    let at : slice_get waits n ≡ Some it =
    slice_get_read waits (length waits) n it refl low c.index-waits-number.is in
    let ws = map seen (take n waits) in
    let long : length ws ≡ n =
    length-map (take n waits) seen ∙ length-take-le n waits (omega (arith, low)) in
    let old = string_bytes c.loop-number.text in
    let mid = string_bytes c.if-number-gt0.text in
    let how : ((0 < length ws) × (mid ≡ old ++ codes ", ")) ⊎ ((length ws ≡ 0) × (mid ≡ old)) =
    elim c.if-number-gt0.branch [
      | then-number-gt0+in_ok-push_str w ↦ inl (
        omega (arith, long, w.if-number-gt0.true),
        ap string_bytes w.text-is ∙ w.in_ok-push_str.ensures.bytes,
      )
      | else-number-gt0 w ↦ inr (
        omega (arith, long, w.if-number-gt0.false),
        ap string_bytes w.text-is,
      )
    ] in
    relation-next ws (seen it) old mid (string_bytes c.put_wait.new.out) c.loop-number.invariant
    c.in_ok-put_wait.ensures.ok how
    ∙ ap relation_of (sym (map-append seen (take n waits) (it ∷ [])))
    ∙ ap (λ (l : List Wait). relation_of (map seen l)) (sym (take-next waits n it at))
