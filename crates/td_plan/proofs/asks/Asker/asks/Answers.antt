-- `Asker::asks`: its loop.
use Rattle.std.proofs.Common.{◌≡◌, ◌∙◌, ◌<◌, List, ap, arith, inl, inr, length, length-set, subst}
use Rattle.std.proofs.Common.{sym}
use Rattle.std.proofs.Common.{◌+◌, ◌≢◌, [], ℕ}
use Rattle.std.specs.Global.{Vec}
use Rattle.std.specs.List.{list_any}
use Rattle.std.proofs.lemmas.List.{get_or-map}
use Rattle.td_plan.specs.declared.asks.Ask.{Ask}
use Rattle.td_plan.specs.inner.Asking.{IsByOwner, asks_at}
use Rattle.td_plan.proofs.Askings.{asks-set}
use Rattle.td_plan.proofs.asks.Asker.asks.Goals as goal

pub loop-place-preserved : goal.loop-place-preserved
loop-place-preserved c =
    let asks = c.loop-place.asks.items in
    let place = c.loop-place.place in
    let new = c.sort_by_owner.new.asks in
    let old = c.index_mut.result.now in
    let low : place < length asks = omega
    (arith, c.loop-place-test.true, c.len-place-end.ensures, c.loop-place.invariant.len) in
    let was : old.items ≡ asks_at asks place =
    ap (λ (v : Vec Ask). v.items) c.index_mut.ensures.value
    ∙ sym (get_or-map (λ (v : Vec Ask). v.items) asks place old [] low) in
    record {
      len = length-set asks place new ∙ c.loop-place.invariant.len;
      same = λ k test. elim (asks-set asks place new low k) [
        | inl here ↦
            ap (list_any test) here.1 ∙ c.sort_by_owner.ensures.same test ∙ ap (list_any test) was
            ∙ ap (λ (j : ℕ). list_any test (asks_at asks j)) here.0
            ∙ c.loop-place.invariant.same k test
        | inr other ↦ ap (list_any test) other.1 ∙ c.loop-place.invariant.same k test
      ];
      sorted = λ k lt. elim (asks-set asks place new low k) [
        | inl here ↦ subst (λ (l : List Ask). IsByOwner l) (sym here.1)
            c.sort_by_owner.ensures.in_order
        | inr other ↦ subst (λ (l : List Ask). IsByOwner l) (sym other.1)
            (c.loop-place.invariant.sorted k (below k place lt other.0))
      ];
    }
  where
    below : (k n : ℕ) → k < n + 1 → n ≢ k → k < n
    below k n lt differ = omega (arith, lt, differ)
