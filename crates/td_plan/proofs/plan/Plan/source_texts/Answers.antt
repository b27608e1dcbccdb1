-- `Plan::source_texts`: what it answers.
use Rattle.std.proofs.Common.{◌≡◌, ◌-◌, ◌∙◌, ap, sym, subst, length, string_bytes, arith}
use Rattle.std.specs.List.{AllZip, range_with_len}
use Rattle.rayon.specs.Numbers.{nat_range}
use Rattle.td_waves.proofs.MadeEdges.{ok_where}
use Rattle.td_plan.specs.inner.Planned.{AreTexts, IsTextAt}
use Rattle.td_plan.specs.inner.Writing.{seen_words}
use Rattle.td_plan.proofs.PlanLines.{texts-made}
use Rattle.td_plan.proofs.plan.Plan.source_texts.Goals as goal

pub returns : goal.returns
returns g c =
    let plan = c.args.self.now in
    let words = seen_words c.args.words.now in
    let ends = c.into_par_iter.ensures in
    let count = c.len.result in
    let whole : count - 0 ≡ length plan.movers.items =
    omega (arith, c.len.ensures, plan.movers.ok.0) in
    let made = c.in_ok-collect.ensures in
    let chain = made.1 in
    let range = ap (λ it. it.base) c.map.ensures.base ∙ c.with_min_len.ensures.base in
    let places = chain.1 ∙ ap (λ it. nat_range it.start it.end) range
    ∙ (λ i. nat_range (ends.0 i) (ends.1 i))
    ∙ ap (range_with_len 0) whole in
    ok_where c.in_ok-collect.field-0 _ _ _ made.2 (λ v h.
    subst (AreTexts words plan) (sym h.2)
    (texts-made words plan _
    (λ n text is. subst (λ f. IsTextAt (seen_words f.2.now) f.0.now n (string_bytes text))
    c.map.ensures.f is)
    chain.0 h.0 places (subst (AllZip _ chain.0) h.1 chain.2)))
