-- `put_no_names`: one text or pattern more.
use Rattle.std.proofs.Common.{◌<◌, List, arith, length, string_bytes}
use Rattle.td_query.specs.declared.atoms.Atom.{Atom}
use Rattle.td_query.specs.Atoms.{atom_shape}
use Rattle.td_query.specs.Tracking.{tracking}
use Rattle.td_details.specs.TrackerDetails.{no_name_at}
use Rattle.td_details.proofs.ListedTexts.{item_lines_more}
use Rattle.td_details.proofs.tracker_details.put_no_names.Goals as goal

pub loop-i-preserved : goal.loop-i-preserved
loop-i-preserved c =
    let atoms : List Atom = c.args.atoms.now in
    let within : c.loop-i.i < length atoms = omega (arith, c.loop-i-test.true) in
    item_lines_more (no_name_at (tracking c.args.tracker.now)) atom_shape atoms c.loop-i.i _ within
    (string_bytes c.args.out.now) (string_bytes c.loop-i.out) (string_bytes c.put_no_name.new.out)
    c.loop-i.invariant c.in_ok-put_no_name.ensures
