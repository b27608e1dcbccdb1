-- `put_arch_line`: its parts are one line.
use Rattle.std.proofs.Common.{◌++◌, codes, decimal, string_bytes}
use Rattle.std.proofs.lemmas.Result.{on_ok_weaker}
use Rattle.td_details.proofs.Texts.{four_parts}
use Rattle.td_details.proofs.lines.put_arch_line.Goals as goal

pub returns : goal.returns
returns c =
    let n = c.args.counts in
    on_ok_weaker c.put_end.result
    (four_parts (string_bytes c.args.out.now) (codes "arch " ++ c.args.name.now)
    (codes " binaries ") (decimal n.binaries) (codes " rows ") (decimal n.rows)
    (codes " needs-build ") (decimal n.queued) (string_bytes c.put_named.new.out)
    (string_bytes c.put_counted.new.out) (string_bytes c.put_counted-2.new.out)
    (string_bytes c.put_counted-3.new.out) (string_bytes c.put_end.new.out)
    c.in_ok-put_named.ensures c.in_ok-put_counted.ensures c.in_ok-put_counted-2.ensures
    c.in_ok-put_counted-3.ensures)
    c.put_end.ensures
