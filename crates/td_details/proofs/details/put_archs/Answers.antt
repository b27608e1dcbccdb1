-- `put_archs`: one architecture more.
use Rattle.std.proofs.Common.{string_bytes}
use Rattle.td_details.specs.Details.{arch_line_at}
use Rattle.td_details.proofs.Texts.{line_more}
use Rattle.td_details.proofs.details.put_archs.Goals as goal

pub loop-place-preserved : goal.loop-place-preserved
loop-place-preserved c =
    line_more (arch_line_at c.args.archive.now) (string_bytes c.args.out.now)
    (string_bytes c.loop-place.out) (string_bytes c.put_arch.new.out) c.loop-place.place
    c.loop-place.invariant c.in_ok-put_arch.ensures
