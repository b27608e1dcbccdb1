-- `edges_by`: what it answers, and that each number of the chain is a source's.
use Rattle.std.proofs.Common.{◌≡◌, ◌<◌, ◌-◌, ◌∙◌, ap, sym, subst, length, arith}
use Rattle.std.specs.Prelude.{slice_index_or}
use Rattle.std.specs.List.{All, AllZip, range_with_len}
use Rattle.rayon.specs.Numbers.{nat_range}
use Rattle.rayon.proofs.ToStd.{nat_range-All}
use Rattle.td_waves.specs.Edges.{AreBases, AreEdges}
use Rattle.td_waves.specs.Providers.{AreProviders}
use Rattle.td_waves.proofs.MadeEdges.{edges_made, ok_where}
use Rattle.td_waves.proofs.edges.edges_by.Goals as goal

pub collect-requires-clause-ready : goal.collect-requires-clause-ready
collect-requires-clause-ready g c = λ κs within k d lt.
    let names = c.args.names.now.keys in
    let ends = c.into_par_iter.ensures in
    let range = ap (λ it. it.base) c.map.ensures.base ∙ c.with_min_len.ensures.base in
    let places = ap (λ it. nat_range it.start it.end) range
    ∙ (λ i. nat_range (ends.0 i) (ends.1 i)) in
    let inside = nat_range-All (λ n. n < length names) 0 c.len.result
    (λ n low high. omega (arith, high, c.len.ensures.len)) in
    let chain = c.map.result.base.base in
    let number = slice_index_or (nat_range chain.start chain.end) k d in
    let below = subst (All (λ n. n < length names)) (sym places) inside k d lt in (
      subst (λ f. (number < length f.2.now.keys) × AreProviders f.1.now f.2.now.keys f.3.now)
          (sym c.map.ensures.f) (below, c.requires),
      λ y p. tt,
    )

pub returns : goal.returns
returns g c =
    let a = c.args.archive.now in
    let names = c.args.names.now.keys in
    let ends = c.into_par_iter.ensures in
    let count = c.len.result in
    let whole : count - 0 ≡ count = omega arith in
    let made = c.in_ok-collect.ensures in
    let chain = made.1 in
    let range = ap (λ it. it.base) c.map.ensures.base ∙ c.with_min_len.ensures.base in
    let places = chain.1 ∙ ap (λ it. nat_range it.start it.end) range
    ∙ (λ i. nat_range (ends.0 i) (ends.1 i))
    ∙ ap (range_with_len 0) (whole ∙ c.len.ensures.len) in
    ok_where c.in_ok-collect.field-0 _ _ _ made.2 (λ v h.
    subst (AreEdges a names) (sym h.2)
    (edges_made a names _
    (λ n w is. subst (λ f. AreBases f.1.now f.2.now.keys n w.items) c.map.ensures.f is)
    chain.0 h.0 places (subst (AllZip _ chain.0) h.1 chain.2)))
