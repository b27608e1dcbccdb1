-- `affected_named`: its loop, and what it answers.
use Rattle.std.proofs.Common.{◌∙◌, List, ap, arith, map, subst, ℕ}
use Rattle.std.specs.Borrow.{Bor}
use Rattle.std.specs.Prelude.{option_map}
use Rattle.std.proofs.lemmas.List.{length-map, take_all}
use Rattle.std.proofs.lemmas.Option.{slice_get-get_or, slice_get-map}
use Rattle.td_plan.specs.inner.Movers.{AreNamedOf, IsAffectedMover, IsNameAffected}
use Rattle.td_plan.proofs.NamedMovers.{names-more}
use Rattle.td_plan.proofs.affected.affected_named.Goals as goal

pub loop-name-preserved : goal.loop-name-preserved
loop-name-preserved c = λ t all.
    let text = λ (name : Bor (List ℕ)). name.now in
    let a = c.args.archive.now in
    let names = c.args.names.now in
    let i = c.loop-name.name-index in
    names-more (IsNameAffected a t) (IsAffectedMover a t) (map text names) i _
    c.loop-name.movers.items c.push_named.new.movers.items
    (c.in_ok-push_named.ensures t)
    (slice_get-map text names i
    ∙ ap (option_map text) (slice_get-get_or names i _ c.loop-name-test.true)) all
    (c.loop-name.invariant t all)

pub returns : goal.returns
returns c = λ t all.
    let text = λ (name : Bor (List ℕ)). name.now in
    let names = c.args.names.now in
    subst (λ (l : List (List ℕ)). AreNamedOf (IsAffectedMover c.args.archive.now t) l
    c.loop-name.movers.items)
    (take_all c.loop-name.name-index (map text names)
    (omega (arith, c.loop-name-test.false, length-map names text)))
    (c.loop-name.invariant t all)
