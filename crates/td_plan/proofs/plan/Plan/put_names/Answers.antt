-- `Plan::put_names`: its loop.
use Rattle.std.proofs.Common.{◌≡◌, ◌++◌, ◌∷◌, [], List, None, Some, ap, get_or, slice_get, ℕ}
use Rattle.std.proofs.Common.{string_bytes, sym, ◌∙◌}
use Rattle.std.proofs.lemmas.List.{get_or_default}
use Rattle.td_plan.specs.declared.movers.Mover.{Mover}
use Rattle.td_plan.proofs.PlanLines.{name-more, name-none}
use Rattle.td_plan.proofs.SourcePlaces.{item-at}
use Rattle.td_plan.proofs.plan.Plan.put_names.Goals as goal
use Rattle.td_plan.proofs.plan.Plan.put_names.Goals.{in-Some+in_ok-push_str+in_ok-push_str-2}
use Rattle.td_plan.proofs.plan.Plan.put_names.Goals.{in_default}

pub loop-number-preserved : goal.loop-number-preserved
loop-number-preserved c =
    let ms = c.args.self.now.movers.items in
    let ns = c.args.numbers.now in
    let i = c.loop-number.number-index in
    let n = get_or ns i 0 in
    let start = string_bytes c.args.out.now in
    let old = string_bytes c.loop-number.out in
    let new = string_bytes c.match-get.out in
    let low = c.loop-number-test.true in
    let it : n ≡ get_or ns i n = get_or_default ns i 0 n low in
    let there : slice_get ms n ≡ slice_get c.deref.result.now n =
    ap (λ (l : List Mover). slice_get l n) (sym c.deref.ensures.value) in
    elim c.match-get.branch [
      | in-Some+in_ok-push_str+in_ok-push_str-2 w ↦
          name-more ms ns i n w.in-Some.mover.now start old new low it
          (there ∙ sym (item-at c.deref.result.now n (Some w.in-Some.mover)
          w.in-Some.ensures.lookup)) c.loop-number.invariant
          (ap string_bytes w.out-is ∙ w.in_ok-push_str-2.ensures.bytes
          ∙ ap (λ (l : List ℕ). l ++ 32 ∷ []) w.in_ok-push_str.ensures.bytes)
      | in_default w ↦
          name-none ms ns i n start old new low it
          (there ∙ sym (item-at c.deref.result.now n None w.in_default.ensures.lookup))
          c.loop-number.invariant (ap string_bytes w.out-is)
    ]
