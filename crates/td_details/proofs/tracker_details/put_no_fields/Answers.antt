-- `put_no_fields`: one field more.
use Rattle.std.proofs.Common.{◌<◌, ℕ, Bor, List, arith, length, string_bytes}
use Rattle.td_details.specs.TrackerDetails.{no_field_at}
use Rattle.td_details.proofs.ListedTexts.{item_lines_more}
use Rattle.td_details.proofs.tracker_details.put_no_fields.Goals as goal

pub loop-i-preserved : goal.loop-i-preserved
loop-i-preserved c =
    let fields : List (Bor (List ℕ)) = c.args.fields.now in
    let within : c.loop-i.i < length fields = omega (arith, c.loop-i-test.true) in
    item_lines_more (no_field_at c.args.archive.now) (λ (f : Bor (List ℕ)). f.now) fields c.loop-i.i
    _ within (string_bytes c.args.out.now) (string_bytes c.loop-i.out)
    (string_bytes c.put_no_field.new.out) c.loop-i.invariant c.in_ok-put_no_field.ensures
