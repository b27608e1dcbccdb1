-- `movers_named`: what it answers.
use Rattle.std.proofs.Common.{◌∙◌, List, Option, Result, ap, map, subst, sym, ℕ}
use Rattle.std.specs.Borrow.{Bor}
use Rattle.std.specs.List.{AllZip}
use Rattle.std.specs.declared.alloc.AllocError.{AllocError}
use Rattle.rayon.proofs.ListFacts.{AllZip-through}
use Rattle.td_waves.proofs.MadeEdges.{ok_where}
use Rattle.td_plan.specs.declared.movers.Mover.{Mover}
use Rattle.td_plan.specs.Premises.{Premises}
use Rattle.td_plan.specs.inner.Inputs.{AreFor}
use Rattle.td_plan.specs.inner.Movers.{AreNamed, IsAffectedName, IsMade, IsMover}
use Rattle.td_plan.specs.inner.Inputs.{kept_source}
use Rattle.td_plan.proofs.NamedMovers.{names-made}
use Rattle.td_plan.proofs.movers.movers_named.Goals as goal

pub returns : goal.returns
returns g c =
    let names = c.args.names.now in
    let made = c.in_ok-collect.ensures in
    let chain = made.1 in
    let base = ap (λ it. it.base) c.filter_map.ensures.base ∙ c.with_min_len.ensures.base in
    let shown = chain.2 ∙ ap (λ it. it.slice.now) base ∙ c.par_iter.ensures in
    ok_where c.in_ok-collect.field-0 _ _ _ made.2 (λ v h p of all.
    let One = λ (name : Bor (List ℕ)) (m : Option (Result Mover AllocError)).
    IsAffectedName p name.now → IsMade p name.now m in
    let each : AllZip One names chain.1 = subst (λ (l : List (Bor (List ℕ))). AllZip One l chain.1)
    shown
    (AllZip-through (λ (z : Bor (Bor (List ℕ))). z.now) _ One
    (λ z m is. subst (λ f. (q : Premises) → AreFor f.1.now q → IsAffectedName q z.now.now
    → IsMade q z.now.now m) c.filter_map.ensures.f is p of) chain.0 chain.1 chain.3) in
    subst (AreNamed p (map (λ name. name.now) names)) (sym h.2)
    (names-made (IsAffectedName p) (λ m. IsMover p m (kept_source m.source)) names chain.1 h.0 each
    (sym h.1 ∙ chain.4) all))
