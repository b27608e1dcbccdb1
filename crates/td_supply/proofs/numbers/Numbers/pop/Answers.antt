-- `Numbers::pop`: what it answers.
use Rattle.std.proofs.Common.{◌≡◌, ◌-◌, length, take, rules}
use Rattle.td_supply.specs.Numbers.{but_last}
use Rattle.td_supply.proofs.NumberWrites.{written}
use Rattle.td_supply.proofs.numbers.Numbers.pop.Goals as goal

pub returns-in-Some : goal.returns-in-Some
returns-in-Some c = λ q.
    let list = c.in-Some.list.now in
    let after = c.get_mut.follows.lender c.pop.new.self in
    let rest : c.pop.new.self.items ≡ take (length list.items - 1) list.items =
    rw (← list.ok.0) c.pop.ensures.rest in
    written c.args.name.now q c.args.self.now (record { by_name = after }) list c.pop.new.self
    but_last c.in-Some.ensures.value ((c.get_mut.follows.holds c.pop.new.self).3 (search rules))
    rest
