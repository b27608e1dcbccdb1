-- `leave_from`: its loop.
use Rattle.std.proofs.Common.{◌≡◌, ◌<◌, ◌++◌, ◌∷◌, [], ◌∙◌, ℕ, Bool, true, List, length, Some}
use Rattle.std.proofs.Common.{get_or, sym, ap, subst, length-set}
use Rattle.std.specs.Global.{Vec}
use Rattle.std.specs.List.{All}
use Rattle.std.proofs.lemmas.List.Elements.{All-pop, All-push}
use Rattle.td_plan.specs.declared.search.Visit.{Visit}
use Rattle.td_plan.proofs.search.leave_from.Goals as goal
use Rattle.td_plan.proofs.search.leave_from.Goals.{then-visit-bases+in_ok-push-2+then-not-index+in_ok-push-3}
use Rattle.td_plan.proofs.search.leave_from.Goals.{then-visit-bases+in_ok-push-2+else-not-index}
use Rattle.td_plan.proofs.search.leave_from.Goals.{else-visit-bases+in_ok-push-4}

-- a visit of a node
abbrev IsOfNode : ℕ → Visit → Type 0
IsOfNode count v = v.node < count

-- one visit more
visit-push : (count : ℕ) (xs ys : List Visit) (v : Visit) → ys ≡ xs ++ v ∷ []
    → All (IsOfNode count) xs → v.node < count → All (IsOfNode count) ys
visit-push count xs ys v is all low =
    subst (λ zs. All (IsOfNode count) zs) (sym is) (All-push (IsOfNode count) xs v all low)

-- one node more
node-push : (count : ℕ) (xs ys : List ℕ) (n : ℕ) → ys ≡ xs ++ n ∷ []
    → All (λ k. k < count) xs → n < count → All (λ k. k < count) ys
node-push count xs ys n is all low =
    subst (λ zs. All (λ k. k < count) zs) (sym is) (All-push (λ k. k < count) xs n all low)

pub loop-turn-preserved : goal.loop-turn-preserved
loop-turn-preserved c =
    let vs = c.args.graph.now in
    let count = length vs in
    let visit = c.in-Some.visit in
    let v = c.index-graph-visit.result in
    let bases = c.deref-bases.result.now in
    let seen = c.loop-turn.seen.items in
    let popped = c.pop.new.self.items in
    let both = All-pop (IsOfNode count) c.loop-turn.stack.items popped (Some visit)
    c.in-Some.ensures.items c.loop-turn.invariant.stack in
    let bases-are : bases ≡ (get_or vs visit.node v).items = c.deref-bases.ensures.value
    ∙ ap (λ (w : Vec ℕ). w.items) c.index-graph-visit.is in
    let base-low : visit.gone < length bases → get_or bases visit.gone 0 < count =
    subst (λ (xs : List ℕ). visit.gone < length xs → get_or xs visit.gone 0 < count)
    (sym bases-are) (λ lt. c.requires.within visit.node v both.1 visit.gone 0 lt) in
    elim c.if-visit-bases.branch [
      | then-visit-bases+in_ok-push-2+then-not-index+in_ok-push-3 w ↦ record {
        stack = visit-push count w.push-then-visit-bases.new.self.items
            c.if-visit-bases.stack.items _
            (ap (λ (s : Vec Visit). s.items) w.stack-is ∙ w.in_ok-push-3.ensures.items)
            (visit-push count popped w.push-then-visit-bases.new.self.items _
            w.in_ok-push-2.ensures.items both.0 both.1)
            (base-low w.if-visit-bases.true);
        order = subst (λ (s : Vec ℕ). All (λ k. k < count) s.items) (sym w.order-is)
            c.loop-turn.invariant.order;
        len = ap (λ (s : Vec Bool). length s.items) w.seen-is
            ∙ length-set seen (get_or bases visit.gone 0) true ∙ c.loop-turn.invariant.len;
      }
      | then-visit-bases+in_ok-push-2+else-not-index w ↦ record {
        stack = visit-push count popped c.if-visit-bases.stack.items _
            (ap (λ (s : Vec Visit). s.items) w.stack-is ∙ w.in_ok-push-2.ensures.items)
            both.0 both.1;
        order = subst (λ (s : Vec ℕ). All (λ k. k < count) s.items) (sym w.order-is)
            c.loop-turn.invariant.order;
        len = ap (λ (s : Vec Bool). length s.items) w.seen-is ∙ c.loop-turn.invariant.len;
      }
      | else-visit-bases+in_ok-push-4 w ↦ record {
        stack = subst (λ (s : Vec Visit). All (IsOfNode count) s.items) (sym w.stack-is) both.0;
        order = node-push count c.loop-turn.order.items c.if-visit-bases.order.items visit.node
            (ap (λ (s : Vec ℕ). s.items) w.order-is ∙ w.in_ok-push-4.ensures.items)
            c.loop-turn.invariant.order both.1;
        len = ap (λ (s : Vec Bool). length s.items) w.seen-is ∙ c.loop-turn.invariant.len;
      }
    ]
