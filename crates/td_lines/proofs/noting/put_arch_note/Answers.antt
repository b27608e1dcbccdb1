-- `put_arch_note`: what it appends.
use Rattle.std.proofs.Common.{string_bytes}
use Rattle.std.specs.Prelude.{codes}
use Rattle.td_lines.specs.Faults.{of_word}
use Rattle.td_lines.proofs.Counting.{is_note}
use Rattle.td_lines.proofs.noting.put_arch_note.Goals as goal

pub returns : goal.returns
returns c =
    is_note c.push_str.result c.args.number
    (of_word c.args.arch.now (codes "no architecture of the table"))
    (string_bytes c.args.out.now) (string_bytes c.put_front.new.out)
    (string_bytes c.put_word.new.out) (string_bytes c.push_str.new.self)
    c.in_ok-put_front.ensures c.in_ok-put_word.ensures c.push_str.ensures.bytes
