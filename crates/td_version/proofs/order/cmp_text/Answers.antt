-- `cmp_text`: what it answers for two texts that are spelled alike.
use Rattle.std.proofs.Common.{◌∙◌, sym}
use Rattle.std.proofs.lemmas.Slice.Eq.{bytes_eq-Decides}
use Rattle.td_version.proofs.Total.{part_reflexive}
use Rattle.td_version.proofs.order.cmp_text.Goals as goal

pub returns-then-eq : goal.returns-then-eq
returns-then-eq c =
    part_reflexive c.args.a.now c.args.b.now
    ((bytes_eq-Decides c.args.a.now c.args.b.now).0 (sym c.eq.ensures ∙ c.if-eq.true))
