-- The changes of a book since its opening, as a list of receipts. This project's own.
use Rattle.std.specs.Prelude.{ℕ, suc, Bool, true, false, not, List, [], ◌∷◌, ◌++◌, ◌&&◌, ◌||◌}
use Rattle.std.specs.Prelude.{if◌then◌else◌, Option, Some, None}
use Rattle.td_rows.specs.declared.key.Key.{Key}
use Rattle.td_rows.specs.declared.kind.Kind.{Kind}
use Rattle.td_journal.specs.declared.entry.Mark.{Mark}
use Rattle.td_journal.specs.declared.entry.Marked.{Marked}
use Rattle.td_journal.specs.Entries.{is_standing}
use Rattle.td_book.specs.Desk.{BookModel}
use Rattle.td_book.specs.Seen.{is_desks}
use Rattle.td_desk.specs.declared.receipt.Receipt.{Receipt}
use Rattle.td_desk.specs.declared.receipt.Receipt.TheVariants.{Undid}
use Rattle.td_desk.specs.Receipts.{made_of}

-- what a clerk made by entry n of this kind on these keys: claims and outcomes are no clerk's
abbrev pub made_by : ℕ → Kind → List Key → List Receipt
made_by n kind keys = if is_desks kind then made_of n kind keys ∷ [] else []

-- the receipt of an undo since then, for an entry that was standing and isn't now
abbrev pub undone_since : ℕ → Bool → Mark → List Receipt
undone_since n stood mark = if stood && not (is_standing mark) then Undid n ∷ [] else []

-- the changes of entry n, which was made since the opening, or had a mark then
abbrev pub changes_at : ℕ → Option Mark → Marked → List Receipt
changes_at n None m = made_by n m.entry.kind m.entry.keys ++ undone_since n true m.mark
changes_at n (Some was) m = undone_since n (is_standing was) m.mark

-- the changes of the entries from number n on; the marks are those that the first of them had at
-- the opening
abbrev pub changes_from : ℕ → List Marked → List Mark → List Receipt
changes_from n [] opened = []
changes_from n (m ∷ ms) [] = changes_at n None m ++ changes_from (suc n) ms []
changes_from n (m ∷ ms) (was ∷ opened) = changes_at n (Some was) m ++ changes_from (suc n) ms opened

-- the changes of a book that was opened with these marks: its entries since except claims and
-- outcomes, and the entries that were undone since
abbrev pub changes : List Mark → BookModel → List Receipt
changes opened b = changes_from 1 b.history.journal opened

-- what was undone at the opening is undone still, and every entry of then is there
abbrev pub still_undone : List Marked → List Mark → Bool
still_undone ms [] = true
still_undone [] (was ∷ opened) = false
still_undone (m ∷ ms) (was ∷ opened) =
    (is_standing was || not (is_standing m.mark)) && still_undone ms opened
