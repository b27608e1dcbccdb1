-- `put_details`: architectures, and then warnings.
use Rattle.std.proofs.Common.{string_bytes}
use Rattle.std.proofs.lemmas.Result.{on_ok_weaker}
use Rattle.td_details.specs.Details.{arch_lines, warning_lines}
use Rattle.td_details.proofs.Texts.{two_texts}
use Rattle.td_details.proofs.details.put_details.Goals as goal

pub returns : goal.returns
returns c =
    on_ok_weaker c.put_warnings.result
    (two_texts (arch_lines c.args.archive.now) (warning_lines c.args.archive.now)
    (string_bytes c.args.out.now) (string_bytes c.put_archs.new.out)
    (string_bytes c.put_warnings.new.out)
    c.in_ok-put_archs.ensures)
    c.put_warnings.ensures
