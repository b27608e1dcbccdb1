-- `bare_word`: where it cuts.
use Rattle.std.proofs.Common.{◌∙◌, ap, subst, sym}
use Rattle.std.specs.List.{prefix_len}
use Rattle.std.specs.Str.{IsCharBoundary}
use Rattle.td_wbread.proofs.Quotes.{boundary_before}
use Rattle.td_script.specs.Reading.{is_word_byte}
use Rattle.td_script.proofs.Words.{others_are_ascii}
use Rattle.td_lines.proofs.pieces.bare_word.Goals as goal

pub split_at-requires : goal.split_at-requires
split_at-requires c =
    subst (IsCharBoundary c.args.text.now)
    (sym (c.word_len.ensures ∙ ap (prefix_len is_word_byte) c.as_bytes.ensures.value))
    (boundary_before is_word_byte others_are_ascii c.args.text.now)
