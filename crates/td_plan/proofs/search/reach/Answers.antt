-- `reach`: its loop and what it answers.
use Rattle.std.proofs.Common.{◌≡◌, ◌<◌, ◌+◌, ◌++◌, ◌∷◌, [], ◌∙◌, ℕ, List, false, length}
use Rattle.std.proofs.Common.{set, get_or, sym, ap, subst, arith}
use Rattle.std.specs.Global.{Vec}
use Rattle.std.proofs.lemmas.List.{get_or_default}
use Rattle.td_waves.specs.Graph.{bases_of, lists}
use Rattle.td_plan.proofs.Reached.{IsReaching, reached-all, reaching-more, reaching-nodes}
use Rattle.td_plan.proofs.Reached.{reaching-root}
use Rattle.td_plan.proofs.SetTo.{set-within}
use Rattle.td_plan.proofs.Turned.{lists-at}
use Rattle.td_plan.proofs.search.reach.Goals as goal

pub loop-done-init : goal.loop-done-init
loop-done-init c =
    let graph = lists c.args.graph.now in
    let root = c.args.root in
    let flags = c.args.flags.now.items in
    let new = c.push.new.self.items in
    let one : new ≡ root ∷ [] = c.in_ok-push.ensures.items
    ∙ ap (λ (xs : List ℕ). xs ++ root ∷ []) c.new-nodes.ensures.items in
    let low : root < length flags = set-within flags root c.requires.root in
    let reaching : IsReaching graph root flags new (set flags root false) 0 =
    subst (λ (xs : List ℕ). IsReaching graph root flags xs (set flags root false) 0) (sym one)
    (reaching-root graph root flags low c.requires.root) in
    record {
      reaching = reaching;
      nodes = reaching-nodes graph root flags new (set flags root false) 0 reaching
          (length c.args.graph.now) c.requires.len;
    }

pub loop-done-preserved : goal.loop-done-preserved
loop-done-preserved c =
    let vs = c.args.graph.now in
    let graph = lists vs in
    let flags = c.args.flags.now.items in
    let nodes = c.loop-done.nodes.items in
    let left = c.loop-done.flags.items in
    let done = c.loop-done.done in
    let node = c.index-node.result.now in
    let v = c.index-graph-node.result in
    let bases = c.deref.result.now in
    let new = c.push_set.new.nodes.items in
    let after = c.push_set.new.flags.items in
    let lt : done < length nodes = omega (arith, c.loop-done.nodes.ok.0, c.len.ensures) in
    let at : get_or nodes done 0 ≡ node =
    get_or_default nodes done 0 node lt ∙ sym c.index-node.ensures in
    let low : node < length vs = omega (arith, at, c.loop-done.invariant.nodes done 0 lt) in
    let is : bases_of graph (get_or nodes done 0) ≡ bases = ap (λ k. bases_of graph k) at
    ∙ lists-at vs node v low ∙ ap (λ (w : Vec ℕ). w.items) (sym c.index-graph-node.is)
    ∙ sym c.deref.ensures.value in
    let reaching : IsReaching graph c.args.root flags new after (done + 1) =
    reaching-more graph c.args.root flags nodes left done c.loop-done.invariant.reaching new after
    bases lt is c.in_ok-push_set.ensures.taken in
    record {
      reaching = reaching;
      nodes = reaching-nodes graph c.args.root flags new after (done + 1) reaching (length vs)
          c.requires.len;
    }

pub returns-clause-reached : goal.returns-clause-reached
returns-clause-reached c =
    reached-all (lists c.args.graph.now) c.args.root c.args.flags.now.items
    c.loop-done.nodes.items c.loop-done.flags.items c.loop-done.done
    c.loop-done.invariant.reaching (omega (arith, c.loop-done.nodes.ok.0))
