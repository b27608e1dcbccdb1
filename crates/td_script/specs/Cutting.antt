-- A script that is cut in two after a line: the second part over the journal that the first one
-- leaves. This project's own.
use Rattle.std.specs.Prelude.{◌≡◌, ℕ, ◌+◌, ◌<◌, ◌^◌, List, [], ◌∷◌, ◌++◌, Some, length}
use Rattle.td_journal.specs.JournalFile.{IsJournalText}
use Rattle.td_core.specs.History.{History, rows_of}
use Rattle.td_book.specs.Reopening.{returns_of}
use Rattle.td_script.specs.Openings.{IsBegun}
use Rattle.td_script.specs.Replies.{Setting}
use Rattle.td_script.specs.Script.{Told, script}

-- the answers to two scripts, the second after the first
abbrev pub joined : Told → Told → Told
joined t u = record { text = t.text ++ u.text; after = u.after; refused = t.refused + u.refused }

-- the text, shorter than memory can be, is that of the history's journal, and no row is left with a
-- builder
pub record IsLeftAs (h : History) (text : List ℕ) : Type 0 where
  pub small : length text < 2 ^ 64
  pub is_text : IsJournalText h.opening text h.journal
  pub none_left : returns_of (rows_of h) ≡ []

-- from the journal that the first part leaves, the second one is answered as after it: the answers
-- to both are those to the whole script
abbrev pub CutScriptsTellTheSame : Type 0
CutScriptsTellTheSame =
    (s : Setting) (h g : History) (front back text : List ℕ)
    → IsLeftAs (script s h front).after text
    → IsBegun (Some text) (script s h front).after.opening g
    → script s h (front ++ 10 ∷ back) ≡ joined (script s h front) (script s g back)
