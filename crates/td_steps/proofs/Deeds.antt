-- A builder's deeds in the journal are its own.
use Rattle.std.proofs.Common.{◌≡◌, ℕ, zero, suc, ◌-◌, ◌<◌, ◌≤◌, List, drop, length}
use Rattle.std.proofs.Common.{ap, subst, ◌∙◌, arith}
use Rattle.td_board.specs.declared.views.Deed.{Deed}
use Rattle.td_board.specs.declared.views.DeskView.{DeskView}
use Rattle.td_board.specs.Knowledge.{list_at, noted_of}
use Rattle.td_board.proofs.PromiseLaws.{nothing_invented}
use Rattle.td_rows.specs.declared.key.Key.{Key}
use Rattle.td_journal.specs.declared.entry.Marked.{Marked}
use Rattle.td_book.specs.Deeds.{IsInside, deeds_of}
use Rattle.td_book.proofs.Deeds.{at_list_at}
use Rattle.td_rows.specs.Table.{keys_of}
use Rattle.td_steps.specs.Deeds.{AreOwn, JournalsTellDeeds, BooksTellDeeds}

-- what the desk has noted of a builder is what the journal says
noted-told : (d : DeskView) (every : List Key) (since : ℕ) (ms : List Marked)
    → IsInside d.noted every since ms → (b : ℕ) → 0 < b → b ≤ length d.noted
    → noted_of d b ≡ deeds_of b every (drop since ms)
noted-told d every since ms inside zero some there = absurd (omega (arith, some))
noted-told d every since ms inside (suc k) some there =
    let same : suc k - 1 ≡ k = omega arith in
    ap (list_at d.noted) same
    ∙ inside.deeds k (list_at d.noted k) (at_list_at d.noted k (omega (arith, there)))

-- a list of deeds that is another's own, of an equal list
own_too : (mine a b : List Deed) → a ≡ b → AreOwn mine a → AreOwn mine b
own_too mine a b same own = subst (AreOwn mine) same own

pub journals_tell : JournalsTellDeeds
journals_tell rows m reached d desk every since ms inside b v mine =
    let law : (v.number ≡ b) × (0 < b) × (b ≤ length d.noted) × AreOwn v.mine (noted_of d b)
    = nothing_invented rows m reached b d v desk mine in
    own_too v.mine (noted_of d b) (deeds_of b every (drop since ms))
    (noted-told d every since ms inside b law.1 law.2) law.3

pub books_tell : BooksTellDeeds
books_tell rows m reached seat desk book rest b v mine =
    journals_tell rows m reached seat.desk desk (keys_of book.history.opening) book.fixed.since
    book.history.journal rest.noted b v mine
