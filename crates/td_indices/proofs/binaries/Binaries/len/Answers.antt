-- `Binaries::len`: what it answers.
use Rattle.std.proofs.Common.{length, ap, sym, ◌∙◌}
use Rattle.td_indices.proofs.PlacedPackages.{length-placed}
use Rattle.td_indices.proofs.binaries.Binaries.len.Goals as goal

pub returns : goal.returns
returns c =
    c.len.ensures.len
    ∙ sym (length-placed c.self.inside.parts.items c.self.inside.places.entries c.self.invariant)
    ∙ ap length c.self.view_is
