-- `put_all_found`: one text or pattern more.
use Rattle.std.proofs.Common.{◌<◌, List, arith, length, string_bytes}
use Rattle.td_query.specs.declared.atoms.Atom.{Atom}
use Rattle.td_query.specs.Tracking.{tracking}
use Rattle.td_details.proofs.ListedTexts.{found_line_more}
use Rattle.td_details.proofs.tracker_details.put_all_found.Goals as goal

pub loop-i-preserved : goal.loop-i-preserved
loop-i-preserved c =
    let atoms : List Atom = c.args.atoms.now in
    let within : c.loop-i.i < length atoms = omega (arith, c.loop-i-test.true) in
    found_line_more c.args.archive.now (tracking c.args.tracker.now) atoms c.args.counts.now
    c.loop-i.i _ _ within c.requires (string_bytes c.args.out.now) (string_bytes c.loop-i.out)
    (string_bytes c.put_found.new.out) c.loop-i.invariant c.in_ok-put_found.ensures
