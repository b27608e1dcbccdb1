-- `put_no_field_line`: words, the field and the line's end.
use Rattle.std.proofs.Common.{string_bytes}
use Rattle.std.proofs.lemmas.Result.{on_ok_weaker}
use Rattle.td_details.specs.TrackerDetails.{no_field_line}
use Rattle.td_details.proofs.Texts.{one_line}
use Rattle.td_details.proofs.tracker_details.put_no_field_line.Goals as goal

pub returns : goal.returns
returns c =
    on_ok_weaker c.put_end.result
    (one_line (string_bytes c.args.out.now) (no_field_line c.args.field.now)
    (string_bytes c.put_named.new.out) (string_bytes c.put_end.new.out)
    c.in_ok-put_named.ensures)
    c.put_end.ensures
