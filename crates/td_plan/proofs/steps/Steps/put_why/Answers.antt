-- `Steps::put_why`: the line of a source.
use Rattle.std.proofs.Common.{◌≡◌, ◌∙◌, List, Some, ap, slice_get, string_bytes, sym}
use Rattle.std.specs.Global.{Vec}
use Rattle.std.proofs.lemmas.Result.{on_ok_weaker}
use Rattle.td_plan.specs.declared.asks.Ask.{Ask}
use Rattle.td_plan.proofs.SourcePlaces.{item-at}
use Rattle.td_plan.proofs.StepTexts.{why-at}
use Rattle.td_plan.proofs.Waiters.{at-below}
use Rattle.td_plan.proofs.steps.Steps.put_why.Goals as goal

pub returns : goal.returns
returns c = on_ok_weaker c.put_line.result (λ line t is low.
    let steps = c.args.self.now in
    let ms = steps.movers.items in
    let n = c.args.number in
    let m = at-below ms n low in
    let asks = c.in-Some.asks in
    let there : slice_get steps.asks.items n ≡ Some asks.now =
    ap (λ (l : List (Vec (Vec Ask))). slice_get l n) (sym c.deref.ensures.value)
    ∙ sym (item-at c.deref.result.now n (Some asks) c.in-Some.ensures.lookup) in
    why-at t steps is n m.0 m.1 c.bases-bases.result c.bases-bases.ensures.archive
    c.bases-bases.ensures.movers
    asks.now.items (is.asks.at n m.0 asks.now m.1 there) (string_bytes c.args.out.now)
    (string_bytes c.put_line.new.out) line) c.put_line.ensures
