-- `asks_among`: what it answers.
use Rattle.std.proofs.Common.{◌≡◌, ◌-◌, ◌∙◌, ap, sym, subst, length, arith}
use Rattle.std.specs.List.{AllZip, range_with_len}
use Rattle.rayon.specs.Numbers.{nat_range}
use Rattle.td_waves.proofs.MadeEdges.{ok_where}
use Rattle.td_plan.specs.inner.Askers.{AreAllAsks, AreAsksAt}
use Rattle.td_plan.specs.inner.Providing.{AreProviders}
use Rattle.td_plan.proofs.ByNumber.{asks-made}
use Rattle.td_plan.proofs.asks.asks_among.Goals as goal

pub returns : goal.returns
returns g c =
    let a = c.args.archive.now in
    let ms = c.args.movers.now in
    let ends = c.into_par_iter.ensures in
    let count = length ms in
    let whole : count - 0 ≡ count = omega arith in
    let made = c.in_ok-collect.ensures in
    let chain = made.1 in
    let range = ap (λ it. it.base) c.map.ensures.base ∙ c.with_min_len.ensures.base in
    let places = chain.1 ∙ ap (λ it. nat_range it.start it.end) range
    ∙ (λ i. nat_range (ends.0 i) (ends.1 i))
    ∙ ap (range_with_len 0) whole in
    ok_where c.in_ok-collect.field-0 _ _ _ made.2 (λ v h.
    subst (AreAllAsks a ms) (sym h.2)
    (asks-made a ms _
    (λ n w is. subst (λ f. AreProviders f.1.now f.3.now f.2.now
    → AreAsksAt f.1.now f.3.now n w.items) c.map.ensures.f is c.requires)
    chain.0 h.0 places (subst (AllZip _ chain.0) h.1 chain.2)))
