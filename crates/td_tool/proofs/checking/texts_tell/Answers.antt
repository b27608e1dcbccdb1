-- `texts_tell`: what it answers.
use Rattle.std.proofs.Common.{string_bytes}
use Rattle.td_inputs.specs.Opened.{texts_of as texts_opened}
use Rattle.td_tool.specs.Counted.{check_text}
use Rattle.td_tool.proofs.Counting.{counted_of_opened, lent_texts, none_counted_of}
use Rattle.td_tool.proofs.checking.texts_tell.Goals as goal

pub returns-in-Ok : goal.returns-in-Ok
returns-in-Ok g c =
    let t = c.args.texts in
    let lent = texts_opened c.lend-lent.result in
    counted_of_opened (check_text c.args.details t.cut) lent (string_bytes t.archs) t.packages
    t.sources c.in-Ok.made c.or_no_memory.result c.in-Ok.ensures.made.0
    (lent_texts lent c.as_str.result.now (string_bytes t.archs) t.packages t.sources
    c.lend-lent.ensures c.as_str.ensures.value)
    c.in-Ok.ensures.made.1 c.in-Ok.ensures.made.2.1
    c.or_no_memory.ensures.ok c.or_no_memory.ensures.err

pub returns : goal.returns
returns g c =
    let t = c.args.texts in
    let lent = texts_opened c.lend-lent.result in
    none_counted_of (check_text c.args.details t.cut) lent (string_bytes t.archs) t.packages
    t.sources c.in-Err.fault c.ending_of_opening.result
    (lent_texts lent c.as_str.result.now (string_bytes t.archs) t.packages t.sources
    c.lend-lent.ensures c.as_str.ensures.value)
    c.in-Err.ensures.refused c.in-Err.ensures.only c.ending_of_opening.ensures
