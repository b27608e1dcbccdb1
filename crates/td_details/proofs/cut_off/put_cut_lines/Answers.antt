-- `put_cut_lines`: the lines of both indices.
use Rattle.std.proofs.Common.{codes, string_bytes}
use Rattle.std.proofs.lemmas.Result.{on_ok_weaker}
use Rattle.td_details.specs.CutOff.{cut_at}
use Rattle.td_details.proofs.Texts.{two_texts}
use Rattle.td_details.proofs.cut_off.put_cut_lines.Goals as goal

pub returns : goal.returns
returns c =
    on_ok_weaker c.put_cut-2.result
    (two_texts (cut_at (codes "Packages") c.args.packages) (cut_at (codes "Sources") c.args.sources)
    (string_bytes c.args.out.now) (string_bytes c.put_cut.new.out)
    (string_bytes c.put_cut-2.new.out) c.in_ok-put_cut.ensures)
    c.put_cut-2.ensures
