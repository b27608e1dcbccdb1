-- `Waves::of`: the clauses `levels` and `depth`.
use Rattle.std.proofs.Common.{sym, subst}
use Rattle.td_waves.specs.Edges.{AreEdges}
use Rattle.td_waves.proofs.Standing.{sources_deep, sources_stand}
use Rattle.td_waves.proofs.waves.Waves.of.Goals as goal

pub returns-clause-levels : goal.returns-clause-levels
returns-clause-levels g c =
    let a = c.args.archive.now in
    let keys = c.in_ok-names.names.keys in
    let graph = c.deref.result.now in
    let edges : AreEdges a keys graph =
    subst (λ g. AreEdges a keys g) (sym c.deref.ensures.value) c.in_ok-graph.ensures.edges in
    sources_stand a c.args.affected.now keys graph c.in_ok-levels.levels c.in_ok-names.ensures edges
    c.in_ok-levels.ensures.levels

pub returns-clause-depth : goal.returns-clause-depth
returns-clause-depth g c =
    let a = c.args.archive.now in
    let keys = c.in_ok-names.names.keys in
    let graph = c.deref.result.now in
    let edges : AreEdges a keys graph =
    subst (λ g. AreEdges a keys g) (sym c.deref.ensures.value) c.in_ok-graph.ensures.edges in
    sources_deep a c.args.affected.now keys graph c.in_ok-levels.levels c.in_ok-names.ensures edges
    c.in_ok-levels.ensures.levels c.in_ok-levels.ensures.depth
