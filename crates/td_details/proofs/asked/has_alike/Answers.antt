-- `has_alike`: the first that is like it, or none.
use Rattle.std.proofs.Common.{◌<◌, ◌≤◌, ◌∙◌, Bool, List, arith, length, sym}
use Rattle.td_query.specs.declared.atoms.Atom.{Atom}
use Rattle.td_query.specs.Atoms.{atom_shape}
use Rattle.td_query.specs.Query.{Shape}
use Rattle.td_query.specs.Tracking.{tracking}
use Rattle.td_details.specs.Asked.{are_alike}
use Rattle.td_details.proofs.Seeking.{seen_here, seen_not_yet, seen_nowhere}
use Rattle.td_details.proofs.asked.has_alike.Goals as goal

pub returns-then-are_alike : goal.returns-then-are_alike
returns-then-are_alike c =
    let alike : Shape → Bool =
    are_alike (tracking c.args.tracker.now) (atom_shape c.args.atom) in
    let atoms : List Atom = c.args.atoms.now in
    let within : c.loop-other.other-index < length atoms = omega (arith, c.loop-other-test.true) in
    seen_here alike atom_shape atoms c.loop-other.other-index _ within
    (sym c.are_alike.ensures ∙ c.if-are_alike.true)

pub loop-other-preserved : goal.loop-other-preserved
loop-other-preserved c =
    let alike : Shape → Bool =
    are_alike (tracking c.args.tracker.now) (atom_shape c.args.atom) in
    let atoms : List Atom = c.args.atoms.now in
    let within : c.loop-other.other-index < length atoms = omega (arith, c.loop-other-test.true) in
    seen_not_yet alike atom_shape atoms c.loop-other.other-index _ within c.loop-other.invariant
    (sym c.are_alike.ensures ∙ c.if-are_alike.false)

pub returns : goal.returns
returns c =
    let alike : Shape → Bool =
    are_alike (tracking c.args.tracker.now) (atom_shape c.args.atom) in
    let atoms : List Atom = c.args.atoms.now in
    let past : length atoms ≤ c.loop-other.other-index = omega arith in
    seen_nowhere alike atom_shape atoms c.loop-other.other-index past c.loop-other.invariant
