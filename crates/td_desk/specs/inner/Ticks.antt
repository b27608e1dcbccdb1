-- What is left of a book's changes once some have found their receipts. This project's own.
use Rattle.std.specs.Prelude.{◌≡◌, ◌+◌, ◌-◌, ◌<◌, ◌≤◌, ℕ, suc, Bool, true, false, not, List, []}
use Rattle.std.specs.Prelude.{◌∷◌, ◌++◌, ◌&&◌, ◌||◌, if◌then◌else◌, length, map, replicate}
use Rattle.std.specs.Prelude.{IsPermutation}
use Rattle.td_journal.specs.declared.entry.Mark.{Mark}
use Rattle.td_journal.specs.declared.entry.Marked.{Marked}
use Rattle.td_journal.specs.Entries.{is_standing}
use Rattle.td_book.specs.Desk.{BookModel}
use Rattle.td_book.specs.Seen.{is_desks}
use Rattle.td_desk.specs.declared.receipt.Receipt.{Receipt}
use Rattle.td_desk.specs.declared.receipt.Receipt.TheVariants.{Undid}
use Rattle.td_desk.specs.declared.tick.Tick.{Tick}
use Rattle.td_desk.specs.Receipts.{made_of}
use Rattle.td_desk.specs.inner.Matching.{same_receipt}

-- the tick of an entry made since the opening, before any receipt was found
abbrev pub unticked : Tick
unticked = record { made = false; undone = false }

-- the tick of an entry that was there at the opening: it wasn't made since, and if it was undone
-- then, that isn't a change
abbrev pub begun_at : Mark → Tick
begun_at was = record { made = true; undone = not (is_standing was) }

-- ticks of a book that was opened with these marks, for at least n entries
abbrev pub AreBegun : List Mark → ℕ → List Tick → Type 0
AreBegun opened n ts =
    (ts ≡ map begun_at opened ++ replicate (length ts - length opened) unticked) × (n ≤ length ts)

-- whether what a clerk made by the entry isn't ticked yet
abbrev pub is_made_left : Marked → Tick → Bool
is_made_left m t = is_desks m.entry.kind && not t.made

-- whether the entry is undone, and its undo isn't ticked yet
abbrev pub is_undo_left : Marked → Tick → Bool
is_undo_left m t = not (is_standing m.mark) && not t.undone

-- the receipt, if the change is left
abbrev pub one : Bool → Receipt → List Receipt
one b r = if b then r ∷ [] else []

-- the changes of entry n that aren't ticked
abbrev pub left_at : ℕ → Marked → Tick → List Receipt
left_at n m t =
    one (is_made_left m t) (made_of n m.entry.kind m.entry.keys) ++ one (is_undo_left m t) (Undid n)

-- the changes of the entries from number n on that aren't ticked
abbrev pub left_from : ℕ → List Marked → List Tick → List Receipt
left_from n [] ts = []
left_from n (m ∷ ms) [] = []
left_from n (m ∷ ms) (t ∷ ts) = left_at n m t ++ left_from (suc n) ms ts

-- the changes of a book that aren't ticked
abbrev pub left : BookModel → List Tick → List Receipt
left b ts = left_from 1 b.history.journal ts

-- whether each change of an entry is ticked
abbrev pub is_ticked_at : Marked → Tick → Bool
is_ticked_at m t = not (is_made_left m t) && not (is_undo_left m t)

-- whether each change of these entries is ticked
abbrev pub are_ticked : List Marked → List Tick → Bool
are_ticked [] ts = true
are_ticked (m ∷ ms) [] = true
are_ticked (m ∷ ms) (t ∷ ts) = is_ticked_at m t && are_ticked ms ts

-- whether a receipt is in a list
abbrev pub is_in : Receipt → List Receipt → Bool
is_in r [] = false
is_in r (c ∷ cs) = same_receipt r c || is_in r cs

-- whether a list has no receipts
abbrev pub is_nil : List Receipt → Bool
is_nil [] = true
is_nil (c ∷ cs) = false

-- how often a receipt is in a list
abbrev pub times : Receipt → List Receipt → ℕ
times r [] = 0
times r (c ∷ cs) = (if same_receipt r c then 1 else 0) + times r cs

-- these receipts are what went from one list to the other
abbrev pub Takes : List Receipt → List Receipt → List Receipt → Type 0
Takes rs old new = IsPermutation (rs ++ new) old

-- some receipt is oftener among these than in the list
abbrev pub TooMany : List Receipt → List Receipt → Type 0
TooMany rs old = (r : Receipt) × (times r old < times r rs)
