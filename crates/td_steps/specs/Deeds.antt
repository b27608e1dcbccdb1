-- What a book's journal says of each builder, against what that builder did. This project's own.
use Rattle.std.specs.Prelude.{◌≡◌, ◌⊎◌, ℕ, List, [], ◌∷◌, ◌++◌, drop}
use Rattle.td_board.specs.declared.views.Deed.{Deed}
use Rattle.td_board.specs.declared.views.DeskView.{DeskView}
use Rattle.td_board.specs.declared.views.BuilderView.{BuilderView}
use Rattle.td_board.specs.Seats.{DeskModel}
use Rattle.td_board.specs.Steps.{Moment, DeskKnows, BuilderKnows, Reached}
use Rattle.td_rows.specs.declared.key.Key.{Key}
use Rattle.td_journal.specs.declared.entry.Marked.{Marked}
use Rattle.td_rows.specs.Table.{keys_of}
use Rattle.td_book.specs.AtRest.{IsAtRest}
use Rattle.td_book.specs.Deeds.{IsInside, deeds_of}
use Rattle.td_book.specs.Desk.{BookModel}

-- a builder's own list is the journal's, or has one more deed at its end
abbrev pub AreOwn : List Deed → List Deed → Type 0
AreOwn mine told = (mine ≡ told) ⊎ ((last : Deed) × (mine ≡ told ++ last ∷ []))

-- at every moment of every schedule of a board: if the desk's lists are those of a journal after
-- its first entries, as every book keeps them (the invariant of its inside), the claims and
-- outcomes of each builder there are its own, in order, none invented, dropped or changed; only the
-- builder's last deed may not have come there yet
abbrev pub JournalsTellDeeds : Type 0
JournalsTellDeeds = (rows : ℕ) (m : Moment) → Reached rows m
    → (d : DeskView) → DeskKnows m d
    → (every : List Key) (since : ℕ) (ms : List Marked) → IsInside d.noted every since ms
    → (b : ℕ) (v : BuilderView) → BuilderKnows m b v
    → AreOwn v.mine (deeds_of b every (drop since ms))

-- what the journal of a book says of a builder, after the entries of before
abbrev pub told_of : ℕ → BookModel → List Deed
told_of b book =
    deeds_of b (keys_of book.history.opening) (drop book.fixed.since book.history.journal)

-- at every moment of every schedule of a board: what the journal of a book at rest says of each
-- builder is that builder's own, except the last deed at most; `Book::seat` ensures of its seat
-- what this asks
abbrev pub BooksTellDeeds : Type 0
BooksTellDeeds = (rows : ℕ) (m : Moment) → Reached rows m
    → (seat : DeskModel) → DeskKnows m seat.desk
    → (book : BookModel) → IsAtRest seat book
    → (b : ℕ) (v : BuilderView) → BuilderKnows m b v → AreOwn v.mine (told_of b book)
