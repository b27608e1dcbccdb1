-- `movers_of`: what it answers.
use Rattle.std.proofs.Common.{List, map, subst, sym, ℕ}
use Rattle.std.specs.Borrow.{Bor}
use Rattle.std.specs.Cmp.Lexicographic.{slice_cmp}
use Rattle.std.specs.List.Sorted.{IsPermutation, IsSorted}
use Rattle.std.specs.Ordering.{nat_cmp}
use Rattle.td_indices.specs.Archive.{Contents}
use Rattle.td_query.specs.Marks.{AreMarks}
use Rattle.td_query.specs.Statuses.{affected_names}
use Rattle.td_waves.proofs.Finding.{ok_then}
use Rattle.td_plan.proofs.AffectedNames.{movers-are, names-affected}
use Rattle.td_plan.proofs.movers.movers_of.Goals as goal

pub returns : goal.returns
returns g c = ok_then c.movers_named.result _ _ c.movers_named.ensures (λ movers so p of sound.
    let text = λ (name : Bor (List ℕ)). name.now in
    let x = c.args.inputs.now in
    let found = c.in_ok-names.names.items in
    let names = c.deref.result.now in
    let mine : IsPermutation (affected_names p.archive p.tracker) (map text found) =
    subst (λ (a : Contents). IsPermutation (affected_names a p.tracker) (map text found)) of.archive
    (c.in_ok-names.ensures.all p.tracker
    (subst (λ (a : Contents). AreMarks a p.tracker x.marks.now) (sym of.archive) of.marks)) in
    let all : IsPermutation (affected_names p.archive p.tracker) (map text names) =
    subst (λ (l : List (Bor (List ℕ))). IsPermutation (affected_names p.archive p.tracker)
    (map text l)) (sym c.deref.ensures.value) mine in
    let up : IsSorted (slice_cmp nat_cmp) (map text names) =
    subst (λ (l : List (Bor (List ℕ))). IsSorted (slice_cmp nat_cmp) (map text l))
    (sym c.deref.ensures.value) c.in_ok-names.ensures.in_order in
    movers-are p sound (map text names) all up movers.items
    (so p of (names-affected p sound (map text names) all)))
