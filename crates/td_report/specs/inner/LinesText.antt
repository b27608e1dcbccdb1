-- The lines of some rows. This project's own.
use Rattle.std.specs.Prelude.{ℕ, List, filter, map}
use Rattle.td_text.specs.Lines.{text_of}
use Rattle.td_report.specs.declared.item.Item.{Item}
use Rattle.td_report.specs.declared.shown.Shown.{Shown}
use Rattle.td_report.specs.inner.ItemLines.{is_shown, item_line}

-- the lines of those rows that are shown, each with its newline
abbrev pub lines_text : Shown → List Item → List ℕ
lines_text shown items = text_of (map item_line (filter (is_shown shown) items))
