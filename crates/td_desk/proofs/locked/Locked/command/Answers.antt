-- `Locked::command`: what its type keeps, the clause `told` and the call of `new`.
use Rattle.std.proofs.Common.{rules, arith, ◌≤◌, ◌+◌, ap, length, Ok, Err}
use Rattle.std.specs.Prelude.{◌≡◌}
use Rattle.td_wbread.specs.Views.{parts_of}
use Rattle.td_book.specs.Commands.{IsDone, named_by}
use Rattle.td_desk.proofs.Commanding.{told_draft, told_receipt, command_grown, command_kept}
use Rattle.td_desk.proofs.Holding.{held_grown, held_kept}
use Rattle.td_desk.proofs.Origins.{command_origin}
use Rattle.td_desk.proofs.locked.Locked.command.Goals as goal

pub invariant_of-self-in-Break-1 : goal.invariant_of-self-in-Break-1
invariant_of-self-in-Break-1 g c =
    let old = c.args.self.now in
    let p = parts_of c.args.command.now in
    let done : IsDone p old.book c.command.new.self (Err c.in_err-taken.field-0.0) = search rules in
    let k = command_kept g.N.Named.opened p c.in_err-taken.field-0.0 old.book c.command.new.self
    old.held.still done in
    let same : length c.in-Ok.draft.named.items ≡ length (named_by p old.book) =
    ap length c.in-Ok.ensures.named in
    let count : c.len.result ≡ length old.book.history.journal = search rules in
    let room : c.len.result + (length c.in-Ok.draft.named.items + 1)
    ≤ length c.add_ticks.new.ticks.items = search rules in
    record {
      held = held_kept old.held count (c.add_ticks.ensures.begun g.N.Named.opened)
          (omega (arith, room, same)) (command_origin _ _ _ _ done) k;
    }

pub invariant_of-self-2 : goal.invariant_of-self-2
invariant_of-self-2 g c =
    let old = c.args.self.now in
    let p = parts_of c.args.command.now in
    let done : IsDone p old.book c.command.new.self (Ok c.in_ok-taken.taken) = search rules in
    let k = command_grown g.N.Named.opened p old.book c.command.new.self c.in_ok-taken.taken
    old.held.still done in
    let same : length c.in-Ok.draft.named.items ≡ length (named_by p old.book) =
    ap length c.in-Ok.ensures.named in
    let count : c.len.result ≡ length old.book.history.journal = search rules in
    let room : c.len.result + (length c.in-Ok.draft.named.items + 1)
    ≤ length c.add_ticks.new.ticks.items = search rules in
    record {
      held = held_grown old.held count (c.add_ticks.ensures.begun g.N.Named.opened)
          (omega (arith, room, same)) (command_origin _ _ _ _ done) k c.add.ensures.total;
    }

pub new-requires-clause-rising : goal.new-requires-clause-rising
new-requires-clause-rising g c =
    let old = c.args.self.now in
    let p = parts_of c.args.command.now in
    let done : IsDone p old.book c.command.new.self (Ok c.in_ok-taken.taken) = search rules in
    (told_draft done c.in-Ok.ensures.rising c.in-Ok.ensures.named c.as_slice.ensures
    c.left_out-keys.ensures).rising

pub new-requires-clause-some : goal.new-requires-clause-some
new-requires-clause-some g c =
    let old = c.args.self.now in
    let p = parts_of c.args.command.now in
    let done : IsDone p old.book c.command.new.self (Ok c.in_ok-taken.taken) = search rules in
    (told_draft done c.in-Ok.ensures.rising c.in-Ok.ensures.named c.as_slice.ensures
    c.left_out-keys.ensures).some

pub returns-clause-told : goal.returns-clause-told
returns-clause-told g c =
    let old = c.args.self.now in
    let p = parts_of c.args.command.now in
    let t = c.in_ok-taken.taken in
    let done : IsDone p old.book c.command.new.self (Ok t) = search rules in
    let told = told_draft done c.in-Ok.ensures.rising c.in-Ok.ensures.named c.as_slice.ensures
    c.left_out-keys.ensures in
    let k = command_grown g.N.Named.opened p old.book c.command.new.self t old.held.still done in (
      told_receipt c.args.receipts.now.items t.number c.push_reserved.ensures.items
          c.in-Ok.ensures.kind c.new.ensures told.same,
      search rules,
      k.one,
    )
