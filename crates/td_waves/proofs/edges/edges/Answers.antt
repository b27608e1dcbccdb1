-- `edges`: the clause `within`.
use Rattle.td_waves.proofs.MadeEdges.{made_within}
use Rattle.td_waves.proofs.edges.edges.Goals as goal

pub returns-clause-within : goal.returns-clause-within
returns-clause-within g c =
    made_within c.args.archive.now c.args.names.now.keys c.edges_by.result c.edges_by.ensures
