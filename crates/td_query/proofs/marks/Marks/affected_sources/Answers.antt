-- `Marks::affected_sources`: the clause `names`.
use Rattle.std.proofs.Common.{◌∙◌, ap, map}
use Rattle.std.proofs.lemmas.Result.{IfOk-weaker}
use Rattle.td_indices.specs.Choosing.{flagged}
use Rattle.td_indices.specs.Sources.{KeptSource}
use Rattle.td_query.specs.Statuses.{is_affected}
use Rattle.td_query.proofs.AffectedSources.{flagged-map}
use Rattle.td_query.proofs.marks.Marks.affected_sources.Goals as goal

pub returns : goal.returns
returns g c =
    let a = c.args.archive.now in
    record {
      names = λ t of. IfOk-weaker c.names_of.result _ _
          (λ names are. are
          ∙ ap (λ fs. map (λ (s : KeptSource). s.head.name) (flagged fs a.sources))
          (c.deref.ensures.value ∙ c.in_ok-flags.ensures.flags t of)
          ∙ ap (map (λ (s : KeptSource). s.head.name)) (flagged-map (is_affected a t) a.sources))
          c.names_of.ensures;
    }
