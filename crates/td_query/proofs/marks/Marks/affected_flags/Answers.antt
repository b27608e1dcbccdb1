-- `Marks::affected_flags`: the clause `flags`.
use Rattle.std.proofs.Common.{◌≡◌, ◌-◌, ◌∙◌, ap, arith, subst, sym}
use Rattle.std.specs.List.{range_with_len}
use Rattle.rayon.specs.Numbers.{nat_range}
use Rattle.rayon.proofs.ListFacts.{IfOk-then}
use Rattle.td_query.specs.Marks.{AreMarks}
use Rattle.td_query.specs.Statuses.{is_affected, is_affected_at}
use Rattle.td_query.proofs.AffectedSources.{flags_made}
use Rattle.td_query.proofs.marks.Marks.affected_flags.Goals as goal

pub returns : goal.returns
returns g c =
    let a = c.args.archive.now in
    let ends = c.into_par_iter.ensures in
    let count = c.source_count.result in
    let whole : count - 0 ≡ count = omega arith in
    let same = c.map.ensures.f in
    record {
      flags = λ t of. IfOk-then c.collect.result _ _ c.collect.ensures (λ v h.
          let chain = h.1 in
          let met = subst (λ f. AreMarks f.1.now t f.0.now) (sym same) of in
          let places = chain.1 ∙ ap (λ it. nat_range it.start it.end) c.map.ensures.base
          ∙ (λ i. nat_range (ends.0 i) (ends.1 i))
          ∙ ap (range_with_len 0) (whole ∙ c.source_count.ensures) in
          h.2 ∙ flags_made (is_affected a t) a.sources _ chain.0 h.0 places
          (λ n b is. is t met ∙ ap (λ f. is_affected_at f.1.now t n) same) chain.2);
    }
