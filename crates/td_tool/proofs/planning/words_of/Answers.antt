-- `words_of`: lines can have the words, so they are never refused.
use Rattle.td_tool.proofs.Plans.{never_refused}
use Rattle.td_tool.proofs.planning.words_of.Goals as goal

pub unreachable-requires : goal.unreachable-requires
unreachable-requires c =
    never_refused c.args.words.now c.as_str.result.now c.as_str-2.result.now c.in-Err.field-0
    c.new.result c.in-Err.is c.as_str.ensures.value c.as_str-2.ensures.value
    c.new.ensures.bad_message c.new.ensures.bad_suite
