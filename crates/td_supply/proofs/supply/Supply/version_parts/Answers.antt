-- `Supply::version_parts`: the call of `unreachable`.
use Rattle.td_supply.proofs.supply.Supply.version_parts.Goals as goal

pub unreachable-requires : goal.unreachable-requires
unreachable-requires c =
    let is = c.in_ok-text.ensures.reads in
    c.in-Err.ensures.only is.0 is.1
