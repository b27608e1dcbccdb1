-- `put_swapped`: the lines of both indices.
use Rattle.std.proofs.Common.{string_bytes}
use Rattle.std.proofs.lemmas.Result.{on_ok_weaker}
use Rattle.td_details.specs.Details.{swapped_package_lines, swapped_source_lines}
use Rattle.td_details.proofs.Texts.{two_texts}
use Rattle.td_details.proofs.details.put_swapped.Goals as goal

pub returns : goal.returns
returns c =
    on_ok_weaker c.put_swapped_sources.result
    (two_texts (swapped_package_lines c.args.archive.now) (swapped_source_lines c.args.archive.now)
    (string_bytes c.args.out.now) (string_bytes c.put_swapped_packages.new.out)
    (string_bytes c.put_swapped_sources.new.out)
    c.in_ok-put_swapped_packages.ensures)
    c.put_swapped_sources.ensures
