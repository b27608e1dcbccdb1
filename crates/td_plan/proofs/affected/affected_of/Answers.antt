-- `affected_of`: what it answers.
use Rattle.std.proofs.Common.{List, map, subst, sym, ℕ}
use Rattle.std.specs.Borrow.{Bor}
use Rattle.std.specs.Cmp.Lexicographic.{slice_cmp}
use Rattle.std.specs.List.Sorted.{IsPermutation, IsSorted}
use Rattle.std.specs.Ordering.{nat_cmp}
use Rattle.td_query.specs.Statuses.{affected_names}
use Rattle.td_waves.proofs.Finding.{ok_then}
use Rattle.td_plan.specs.inner.Movers.{IsAffectedMover}
use Rattle.td_plan.proofs.AffectedNames.{all-affected, all-are}
use Rattle.td_plan.proofs.affected.affected_of.Goals as goal

pub returns : goal.returns
returns g c = ok_then c.affected_named.result _ _ c.affected_named.ensures
    (λ movers so t marks apart.
    let text = λ (name : Bor (List ℕ)). name.now in
    let a = c.args.archive.now in
    let names = c.deref.result.now in
    let all : IsPermutation (affected_names a t) (map text names) =
    subst (λ (l : List (Bor (List ℕ))). IsPermutation (affected_names a t) (map text l))
    (sym c.deref.ensures.value) (c.in_ok-names.ensures.all t marks) in
    let up : IsSorted (slice_cmp nat_cmp) (map text names) =
    subst (λ (l : List (Bor (List ℕ))). IsSorted (slice_cmp nat_cmp) (map text l))
    (sym c.deref.ensures.value) c.in_ok-names.ensures.in_order in
    all-are a t apart (map text names) all up (IsAffectedMover a t) (λ m is. is.at) movers.items
    (so t (all-affected a t apart (map text names) all)))
