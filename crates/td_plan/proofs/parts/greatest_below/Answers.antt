-- `greatest_below`: its loop and what it answers.
use Rattle.std.proofs.Common.{◌≡◌, ◌⊎◌, ◌<◌, ◌≤◌, ◌+◌, ◌∙◌, ℕ, List, length, get_or, take, inl, inr}
use Rattle.std.proofs.Common.{sym, ap, subst, arith}
use Rattle.std.specs.Global.{Vec}
use Rattle.std.specs.List.{All, Contains}
use Rattle.std.proofs.lemmas.List.{take_all}
use Rattle.std.proofs.lemmas.List.Elements.{All-contains, All-more, All-weaker, Contains-get_or}
use Rattle.td_waves.specs.Graph.{BuildsOn, bases_of, lists}
use Rattle.td_plan.specs.inner.Searching.{IsGreatestOf}
use Rattle.td_plan.proofs.Turned.{lists-at}
use Rattle.td_plan.proofs.parts.greatest_below.Goals as goal
use Rattle.td_plan.proofs.parts.greatest_below.Goals.{then-step-greatest, else-step-greatest}

module _ (graph : List (List ℕ)) (steps members : List ℕ) where
  -- no step below a member is greater
  abbrev IsUpTo : ℕ → ℕ → Type 0
  IsUpTo k m = (b : ℕ) → BuildsOn graph m b → get_or steps b 0 ≤ k

  abbrev IsFound : ℕ → Type 0
  IsFound k = (k ≡ 0) ⊎ ((m : ℕ) × (b : ℕ) × Contains members m × BuildsOn graph m b
      × (get_or steps b 0 ≡ k))

  above-next : (i old new step : ℕ) → i < length members → old ≤ new → step ≤ new
      → IsUpTo step (get_or members i 0) → All (IsUpTo old) (take i members)
      → All (IsUpTo new) (take (i + 1) members)
  above-next i old new step lt up over here so =
      All-more (IsUpTo new) members i 0 lt
      (All-weaker (IsUpTo old) (IsUpTo new) (λ m le b on. omega (arith, le b on, up))
      (take i members) so) (λ b on. omega (arith, here b on, over))

  module _ (i step : ℕ) (lt : i < length members) (bases : List ℕ)
      (is : bases_of graph (get_or members i 0) ≡ bases)
      (so : IsGreatestOf steps bases step) where
    here-up : IsUpTo step (get_or members i 0)
    here-up b on = All-contains (λ n. get_or steps n 0 ≤ step) bases b so.above
        (subst (λ xs. Contains xs b) is on)

    found-by : (new : ℕ) → new ≡ step
        → (step ≡ 0) ⊎ ((n : ℕ) × Contains bases n × (get_or steps n 0 ≡ step)) → IsFound new
    found-by new same (inl zero) = inl (same ∙ zero)
    found-by new same (inr found) = inr ((
      get_or members i 0,
      found.0,
      Contains-get_or members i 0 lt,
      subst (λ xs. Contains xs found.0) (sym is) found.1,
      found.2 ∙ sym same,
    ))

pub loop-member-preserved : goal.loop-member-preserved
loop-member-preserved c =
    let graph = lists c.args.graph.now in
    let members = c.args.members.now in
    let steps = c.args.steps.now in
    let i = c.loop-member.member-index in
    let lt : i < length members = c.loop-member-test.true in
    let m = get_or members i 0 in
    let v = c.index-graph-member.result in
    let bases = c.deref.result.now in
    let is : bases_of graph m ≡ bases = lists-at c.args.graph.now m v (c.requires.members i 0 lt)
    ∙ ap (λ (v : Vec ℕ). v.items) (sym c.index-graph-member.is) ∙ sym c.deref.ensures.value in
    let step = c.greatest_of-step.result in
    let so = c.greatest_of-step.ensures in
    let old = c.loop-member.greatest in
    let new = c.if-step-greatest.greatest in
    elim c.if-step-greatest.branch [
      | then-step-greatest w ↦ record {
        above = above-next graph steps members i old new step lt
            (omega (arith, w.if-step-greatest.true, w.greatest-is))
            (omega (arith, w.greatest-is))
            (here-up graph steps members i step lt bases is so) c.loop-member.invariant.above;
        found = found-by graph steps members i step lt bases is so new w.greatest-is so.found;
      }
      | else-step-greatest w ↦ record {
        above = above-next graph steps members i old new step lt (omega (arith, w.greatest-is))
            (omega (arith, w.if-step-greatest.false, w.greatest-is))
            (here-up graph steps members i step lt bases is so) c.loop-member.invariant.above;
        found = subst (IsFound graph steps members) (sym w.greatest-is)
            c.loop-member.invariant.found;
      }
    ]

pub returns : goal.returns
returns c =
    let graph = lists c.args.graph.now in
    let members = c.args.members.now in
    let steps = c.args.steps.now in
    let above : All (IsUpTo graph steps members c.loop-member.greatest) members =
    subst (λ ms. All (IsUpTo graph steps members c.loop-member.greatest) ms)
    (take_all c.loop-member.member-index members c.loop-member-test.false)
    c.loop-member.invariant.above in
    record {
      above = λ m b mine on. All-contains (IsUpTo graph steps members c.loop-member.greatest)
          members m above mine b on;
      found = c.loop-member.invariant.found;
    }
