-- `Asker::push_found`: its loop, and the clause `asked`.
use Rattle.std.proofs.Common.{◌∙◌, ◌<◌, ◌&&◌, ◌||◌, Bool, ℕ, ap, arith}
use Rattle.std.specs.List.{list_any}
use Rattle.std.proofs.lemmas.Bool.{lt-ltb}
use Rattle.td_relation.specs.Asked.{asked}
use Rattle.td_plan.specs.inner.Asking.{asks_at, asks_one}
use Rattle.td_plan.proofs.Askings.{next-asked}
use Rattle.td_plan.proofs.asks.Asker.push_found.Goals as goal

pub loop-place-preserved : goal.loop-place-preserved
loop-place-preserved c = record {
  len = c.in_ok-push_at.ensures.len ∙ c.loop-place.invariant.len;
  asked = λ k test low.
      next-asked k c.loop-place.place
      (λ (n : ℕ). asks_one c.args.self.now n test (asked c.args.alternative.now) c.args.found.now)
      _ _ (list_any test (asks_at c.args.asks.now.items k))
      (c.in_ok-push_at.ensures.asked k test) (c.loop-place.invariant.asked k test low);
}

pub returns-clause-asked : goal.returns-clause-asked
returns-clause-asked c = λ k test low.
    let old = c.args.asks.now.items in
    let here = asks_one c.args.self.now k test (asked c.args.alternative.now) c.args.found.now in
    let below : k < c.loop-place.place = omega (arith, low) in
    c.loop-place.invariant.asked k test low
    ∙ ap (λ (b : Bool). list_any test (asks_at old k) || (b && here))
    (lt-ltb k c.loop-place.place below)
