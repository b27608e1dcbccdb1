-- `shares_of`: what it answers.
use Rattle.std.proofs.Common.{◌∙◌, ap, sym, subst}
use Rattle.std.specs.List.{AllZip}
use Rattle.rayon.specs.Numbers.{nat_range}
use Rattle.td_waves.proofs.MadeEdges.{ok_where}
use Rattle.td_plan.specs.inner.Providing.{AreInShare, AreShares}
use Rattle.td_plan.proofs.ByNumber.{shares-made}
use Rattle.td_plan.proofs.providers.shares_of.Goals as goal

pub returns : goal.returns
returns g c =
    let a = c.args.archive.now in
    let ms = c.args.movers.now in
    let ends = c.into_par_iter.ensures in
    let made = c.in_ok-collect.ensures in
    let chain = made.1 in
    let places = chain.1 ∙ ap (λ it. nat_range it.start it.end) c.map.ensures.base
    ∙ (λ i. nat_range (ends.0 i) (ends.1 i)) in
    ok_where c.in_ok-collect.field-0 _ _ _ made.2 (λ v h.
    subst (AreShares a ms) (sym h.2)
    (shares-made a ms _
    (λ n w is. subst (λ f. AreInShare f.1.now f.2.now n w) c.map.ensures.f is)
    chain.0 h.0 places (subst (AllZip _ chain.0) h.1 chain.2)))
