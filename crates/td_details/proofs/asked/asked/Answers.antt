-- `asked`: one text or pattern more.
use Rattle.std.proofs.Common.{◌<◌, List, arith, length, map}
use Rattle.td_query.specs.declared.atoms.Atom.{Atom}
use Rattle.td_query.specs.Atoms.{atom_shape}
use Rattle.td_query.specs.Tracking.{tracking}
use Rattle.td_details.specs.Asked.{are_alike}
use Rattle.td_details.proofs.AskedOnce.{firsts_more}
use Rattle.td_details.proofs.asked.asked.Goals as goal

pub loop-atom-preserved : goal.loop-atom-preserved
loop-atom-preserved c =
    let all : List Atom = c.as_slice-atom-items.result.now in
    let within : c.loop-atom.atom-index < length all = omega (arith, c.loop-atom-test.true) in
    firsts_more (are_alike (tracking c.args.tracker.now)) atom_shape all c.loop-atom.atom-index _
    within (map atom_shape c.loop-atom.atoms.items) (map atom_shape c.push_new.new.atoms.items)
    c.loop-atom.invariant c.in_ok-push_new.ensures
