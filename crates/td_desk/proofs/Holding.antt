-- What is kept of the book under the lock, over each call.
use Rattle.std.proofs.Common.{◌≡◌, ℕ, ◌+◌, ◌≤◌, List, true, length, ap, sym, subst, ◌∙◌, arith}
use Rattle.atomic_table.specs.Seated.{TableId}
use Rattle.td_journal.specs.declared.entry.Mark.{Mark}
use Rattle.td_book.specs.Desk.{BookModel, Fixed}
use Rattle.td_desk.specs.declared.receipt.Receipt.{Receipt}
use Rattle.td_desk.specs.declared.tick.Tick.{Tick}
use Rattle.td_desk.specs.Changes.{changes, still_undone}
use Rattle.td_desk.specs.Names.{Origin}
use Rattle.td_desk.specs.inner.Held.{IsHeld}
use Rattle.td_desk.specs.inner.Ticks.{AreBegun}
use Rattle.td_desk.proofs.Counting.{one_more}
use Rattle.td_desk.proofs.GoingOn.{Extends, begins-on}
use Rattle.td_desk.proofs.Growing.{Kept, Grown}

-- the journal gets at most this many entries, and there are ticks for these
held_on : {table : TableId} {origin : Origin} {opened : List Mark} {old new : BookModel}
    {total sum n : ℕ} {had has : List Tick} (most : ℕ) → IsHeld table origin opened old total had
    → n ≡ length old.history.journal → (AreBegun opened n had → AreBegun opened n has)
    → n + most ≤ length has → new.history.opening ≡ old.history.opening → new.fixed ≡ old.fixed
    → still_undone new.history.journal opened ≡ true
    → length new.history.journal ≤ length old.history.journal + most
    → Extends old.history.journal new.history.journal → length (changes opened new) ≡ sum
    → IsHeld table origin opened new sum has
held_on {table} {origin} {opened} {old} {new} most h count more room same fixed still long on
    counted =
    let few = h.ticked.1 in
    record {
      at = ap (λ (f : Fixed). f.table) fixed ∙ h.at;
      over = same ∙ h.over;
      stocked = ap (λ (f : Fixed). f.stock) fixed ∙ h.stocked;
      staffed = ap (λ (f : Fixed). f.builders) fixed ∙ h.staffed;
      began = begins-on origin old.history.journal new.history.journal h.began on;
      still = still;
      counted = counted;
      ticked = ((more (h.ticked.0, omega (arith, count, few))).0, omega (arith, count, long, room));
    }

-- the changes stay as they were
pub held_kept : {table : TableId} {origin : Origin} {opened : List Mark} {old new : BookModel}
    {total most n : ℕ} {had has : List Tick} → IsHeld table origin opened old total had
    → n ≡ length old.history.journal → (AreBegun opened n had → AreBegun opened n has)
    → n + most ≤ length has → new.history.opening ≡ old.history.opening → Kept opened old new most
    → IsHeld table origin opened new total has
held_kept h count more room same k =
    held_on _ h count more room same k.fixed k.still k.long k.on (ap length k.same ∙ h.counted)

-- there is one change more, and the ledger counts it
pub held_grown : {table : TableId} {origin : Origin} {opened : List Mark} {old new : BookModel}
    {total sum most n : ℕ} {had has : List Tick} {r : Receipt}
    → IsHeld table origin opened old total had
    → n ≡ length old.history.journal → (AreBegun opened n had → AreBegun opened n has)
    → n + most ≤ length has → new.history.opening ≡ old.history.opening
    → Grown opened r old new most → sum ≡ total + 1 → IsHeld table origin opened new sum has
held_grown h count more room same k added =
    held_on _ h count more room same k.fixed k.still k.long k.on
    (one_more _ _ _ k.one ∙ (ap (λ n. n + 1) h.counted ∙ sym added))

-- the ledger is read, and counts as much
pub held_audited : (table : TableId) (origin : Origin) (opened : List Mark) (book : BookModel)
    (total sum : ℕ) (ticks : List Tick) → IsHeld table origin opened book total ticks
    → sum ≡ total → IsHeld table origin opened book sum ticks
held_audited table origin opened book total sum ticks h same =
    subst (λ (n : ℕ). IsHeld table origin opened book n ticks) (sym same) h
