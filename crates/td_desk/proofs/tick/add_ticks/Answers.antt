-- `add_ticks`: the clause `begun`.
use Rattle.std.proofs.Common.{rules, ◌≤◌, length}
use Rattle.std.specs.Result.{is_ok}
use Rattle.td_desk.proofs.Ticking.{resized}
use Rattle.td_desk.proofs.tick.add_ticks.Goals as goal

pub returns-clause-begun : goal.returns-clause-begun
returns-clause-begun c = λ opened begun.
    let v = c.args.ticks.now in
    let long : length v.items ≤ c.in-Some.wanted = search rules in
    resized (is_ok c.resize.result) c.args.held c.in-Some.wanted _ v.items c.resize.new.self.items
    opened begun (search rules) long c.resize.ensures.items
