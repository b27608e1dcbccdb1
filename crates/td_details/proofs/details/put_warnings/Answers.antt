-- `put_warnings`: both kinds of warnings.
use Rattle.std.proofs.Common.{string_bytes}
use Rattle.std.proofs.lemmas.Result.{on_ok_weaker}
use Rattle.td_details.specs.Details.{missing_lines, swapped_lines}
use Rattle.td_details.proofs.Texts.{two_texts}
use Rattle.td_details.proofs.details.put_warnings.Goals as goal

pub returns : goal.returns
returns c =
    on_ok_weaker c.put_swapped.result
    (two_texts (missing_lines c.args.archive.now) (swapped_lines c.args.archive.now)
    (string_bytes c.args.out.now) (string_bytes c.put_all_missing.new.out)
    (string_bytes c.put_swapped.new.out)
    c.in_ok-put_all_missing.ensures)
    c.put_swapped.ensures
