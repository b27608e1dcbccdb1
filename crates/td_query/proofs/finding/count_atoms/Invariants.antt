-- What the loop of `count_atoms` keeps.
use Rattle.std.proofs.Common.{◌≡◌, map, take}
use Rattle.regex.specs.Strings.{matcher_pattern}
use Rattle.td_query.specs.Atoms.{atom_shape, found_in}
use Rattle.td_query.specs.Tracking.{tracking}
use Rattle.td_query.proofs.finding.count_atoms.Given as goal

-- the texts and patterns so far
abbrev pub invariant-loop-atom : goal.invariant-loop-atom
invariant-loop-atom l = record {
  same : map matcher_pattern l.matchers.items ≡ (tracking l.tracker).patterns;
  counts : l.counts.items ≡ map (found_in l.archive (tracking l.tracker).patterns)
      (map atom_shape (take l.atom-index l.atoms));
}
