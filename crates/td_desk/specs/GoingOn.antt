-- How the journal of a desk's book goes on with the one that the desk was opened with. This
-- project's own.
use Rattle.std.specs.Prelude.{◌≡◌, ℕ, List, Some, length, map, take}
use Rattle.td_journal.specs.declared.entry.Marked.{Marked}
use Rattle.td_journal.specs.JournalFile.{IsJournalText}
use Rattle.td_core.specs.History.{history_of}
use Rattle.td_book.specs.Reopening.{given_back}
use Rattle.td_desk.specs.Names.{Origin}

-- the first entries of a journal are those of another, whatever their marks
abbrev pub GoesOn : List Marked → List Marked → Type 0
GoesOn before now = take (length before) (map (λ m. m.entry) now) ≡ map (λ m. m.entry) before

-- a journal begins with the one that a desk was opened with, if any, in which each build that was
-- left is given back
abbrev pub Begins : Origin → List Marked → Type 0
Begins origin now = (text : List ℕ) (before : List Marked) → origin.journal ≡ Some text
    → IsJournalText origin.rows text before
    → GoesOn (given_back (history_of origin.rows before)).journal now
