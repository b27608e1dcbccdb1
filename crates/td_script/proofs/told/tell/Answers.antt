-- `tell`: its loop, what it answers and the call of `add_line`.
use Rattle.std.proofs.Common.{◌≡◌, subst, refl, rules, None}
use Rattle.td_script.proofs.ScriptLaws.{IsSoFar, IsSoFar-begun, IsSoFar-next, IsSoFar-done}
use Rattle.td_script.proofs.ScriptLaws.{lent_still, room, up_to_here, up_to_next}
use Rattle.td_script.proofs.told.tell.Goals as goal

pub loop-rest-init : goal.loop-rest-init
loop-rest-init g c = IsSoFar-begun _ _ c.args.script c.args.book.now _ c.new.ensures.bytes refl

pub add_line-requires-clause-lent : goal.add_line-requires-clause-lent
add_line-requires-clause-lent g c =
    lent_still g.R.Reports.fits _ _ c.args.book.now c.loop-rest.book c.requires.lent
    c.loop-rest.invariant.fixed c.loop-rest.invariant.opening

pub add_line-requires-clause-room : goal.add_line-requires-clause-room
add_line-requires-clause-room g c =
    let h = subst (IsSoFar _ _ c.args.script.now c.args.book.now c.loop-rest.book c.loop-rest.told)
    c.in-Some.is c.loop-rest.invariant in
    room _ _ c.args.script.now c.args.book.now c.loop-rest.book c.loop-rest.told c.in-Some.lines h
    c.requires.small

pub loop-rest-preserved : goal.loop-rest-preserved
loop-rest-preserved g c =
    let h = subst (IsSoFar _ _ c.args.script.now c.args.book.now c.loop-rest.book c.loop-rest.told)
    c.in-Some.is c.loop-rest.invariant in
    IsSoFar-next _ _ c.args.script.now _ c.args.book.now c.loop-rest.book c.add_line.new.book
    c.loop-rest.told c.add_line.new.told c.in-Some.lines c.next_line.result.1 h
    c.next_line.ensures.lines c.next_line.ensures.shorter c.in_ok-add_line.ensures.ok

pub returns-in_err-add_line-clause-book : goal.returns-in_err-add_line-clause-book
returns-in_err-add_line-clause-book g c =
    let h = subst (IsSoFar _ _ c.args.script.now c.args.book.now c.loop-rest.book c.loop-rest.told)
    c.in-Some.is c.loop-rest.invariant in
    up_to_next _ _ c.args.script.now _ c.args.book.now c.loop-rest.book c.add_line.new.book
    c.loop-rest.told c.in-Some.lines c.next_line.result.1 h c.next_line.ensures.lines
    c.in_err-add_line.ensures.book

pub returns-clause-told : goal.returns-clause-told
returns-clause-told g c =
    let none : c.loop-rest.rest ≡ None = search rules in
    IsSoFar-done _ _ c.args.script.now c.args.book.now c.loop-rest.book c.loop-rest.told
    c.loop-rest.rest c.loop-rest.invariant none

pub returns-clause-book : goal.returns-clause-book
returns-clause-book g c =
    up_to_here _ _ c.args.script.now c.args.book.now c.loop-rest.book c.loop-rest.told
    c.loop-rest.rest c.loop-rest.invariant
