-- `count_atoms`: one text or pattern more.
use Rattle.std.proofs.Common.{◌<◌, ◌∙◌, List, arith, length}
use Rattle.regex.specs.Patterns.{Re}
use Rattle.td_query.specs.declared.atoms.Atom.{Atom}
use Rattle.td_query.specs.Tracking.{tracking}
use Rattle.td_query.proofs.FoundAtoms.{found_more}
use Rattle.td_query.proofs.finding.count_atoms.Goals as goal

pub loop-atom-preserved : goal.loop-atom-preserved
loop-atom-preserved c =
    let a = c.args.archive.now in
    let ps : List Re = (tracking c.args.tracker.now).patterns in
    let atoms : List Atom = c.args.atoms.now in
    let there : c.loop-atom.atom-index < length atoms = omega (arith, c.loop-atom-test.true) in
    record {
      same = c.found_in.ensures.same ∙ c.loop-atom.invariant.same;
      counts = found_more a ps _ atoms c.loop-atom.atom-index _ there c.loop-atom.counts.items
          c.push.new.self.items c.in_ok-push.ensures.items c.loop-atom.invariant.counts
          c.found_in.ensures.found c.loop-atom.invariant.same;
    }
