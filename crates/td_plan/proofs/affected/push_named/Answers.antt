-- `push_named`: what it answers.
use Rattle.std.proofs.Common.{◌≡◌, ◌∙◌, Some, ap, slice_get, sym}
use Rattle.td_indices.specs.declared.sourced.Source.{Source}
use Rattle.td_query.specs.Statuses.{is_affected}
use Rattle.td_plan.specs.inner.Inputs.{kept_source}
use Rattle.td_plan.specs.inner.Movers.{IsAffectedMover}
use Rattle.td_plan.proofs.NamedMovers.{shown-more}
use Rattle.td_plan.proofs.OnInputs.{kept_found}
use Rattle.td_plan.proofs.affected.push_named.Goals as goal

pub returns : goal.returns
returns c = λ t named.
    let a = c.args.archive.now in
    let number = c.in-Some.number in
    let source = c.in-Some-source_at.source in
    let mover = c.in_ok-mover.mover in
    let same = c.in_ok-mover.ensures.source in
    let found : slice_get a.sources number ≡ Some (kept_source source) =
    kept_found a number source c.in-Some-source_at.ensures.found in
    shown-more a t (IsAffectedMover a t) c.args.name.now c.args.movers.now.items
    c.push.new.self.items mover source number c.in_ok-push.ensures.items same
    (sym c.in-Some.ensures.number) found
    (λ affected. record {
      at = ap (slice_get a.sources) c.in_ok-mover.ensures.number ∙ found
          ∙ ap (λ (x : Source). Some (kept_source x)) (sym same);
      affected = ap (λ (x : Source). is_affected a t (kept_source x)) same ∙ affected;
      moves = c.in_ok-mover.ensures.moves;
    }) named
