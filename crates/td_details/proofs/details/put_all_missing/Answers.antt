-- `put_all_missing`: one architecture more.
use Rattle.std.proofs.Common.{string_bytes}
use Rattle.td_details.specs.Details.{missing_at}
use Rattle.td_details.proofs.Texts.{lines_more}
use Rattle.td_details.proofs.details.put_all_missing.Goals as goal

pub loop-place-preserved : goal.loop-place-preserved
loop-place-preserved c =
    lines_more (missing_at c.args.archive.now) (string_bytes c.args.out.now)
    (string_bytes c.loop-place.out) (string_bytes c.put_missing.new.out) c.loop-place.place
    c.loop-place.invariant c.in_ok-put_missing.ensures
