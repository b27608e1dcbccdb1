-- `give_back_planned`: the call of `commit`.
use Rattle.std.proofs.Common.{◌≡◌, true, List, ap, sym, subst, ◌∙◌, arith}
use Rattle.td_rows.specs.declared.key.Key.{Key}
use Rattle.td_rows.specs.declared.kind.Kind.TheVariants.{Gb}
use Rattle.td_rows.specs.Keys.{names}
use Rattle.td_change.specs.Plans.{left}
use Rattle.td_change.proofs.Plans.{plan_of-itself, left-plan_of}
use Rattle.td_core.specs.History.{rows_of}
use Rattle.td_history_tests.proofs.histories.give_back_planned.Goals as goal

pub commit-requires-clause-rows : goal.commit-requires-clause-rows
commit-requires-clause-rows c =
    plan_of-itself c.in_ok-planned.planned Gb c.in_ok-keys.keys (rows_of c.reserve.new.self.history)
    c.in_ok-planned.ensures

pub commit-requires-clause-room : goal.commit-requires-clause-room
commit-requires-clause-room c =
    let keys = ap left c.in_ok-planned.ensures
    ∙ left-plan_of Gb c.in_ok-keys.keys (rows_of c.reserve.new.self.history)
    ∙ sym c.as_slice.ensures.keys in
    let room = c.in_ok-reserve.ensures.room in
    record {
      spare = room.spare;
      places = λ k named.
          let two = room.places k (subst (λ (ks : List Key). names ks k ≡ true) keys named) in
          omega (arith, two);
    }
