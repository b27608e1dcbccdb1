-- The claim of a builder: it applies on the row, and can be written; and what it comes to.
use Rattle.std.proofs.Common.{◌≡◌, ℕ, true, List, [], ◌∷◌, Result, sym, subst, arith}
use Rattle.td_rows.specs.declared.key.Key.{Key}
use Rattle.td_rows.specs.declared.kind.Kind.TheVariants as kinds
use Rattle.td_rows.specs.Keys.{names}
use Rattle.td_rows.specs.KeyText.{KeyFits}
use Rattle.td_rows.specs.Table.{AppliesOn, IsAt, keys_of}
use Rattle.td_journal.specs.declared.entry.Entry.{Entry}
use Rattle.td_journal.specs.declared.version.Version.TheVariants.{Two}
use Rattle.td_journal.specs.Entries.{standing_entry}
use Rattle.td_journal.specs.EntryFits.{EntryFits, IsBuilder}
use Rattle.td_core.specs.History.{History, rows_of}
use Rattle.td_lasting.specs.declared.chronicle.DeskFault.{DeskFault}
use Rattle.td_lasting.specs.declared.event.Event.TheVariants.{Entered}
use Rattle.td_lasting.specs.DeskAnswers.{claim_entry}
use Rattle.td_lasting.specs.DeskView.{DeskView, IsDone}
use Rattle.td_lasting.specs.inner.Answered.{IsClaimable}
use Rattle.td_lasting.specs.Telling.{is_lawful_entry}
use Rattle.td_lasting.proofs.Entering.{applies_one, entry_fits, is_one, keys_fit, lawful_claim}
use Rattle.td_lasting.proofs.Entering.{opening_keys}

-- the entry of a claim on these keys
abbrev pub claim_on : ℕ → List Key → Entry
claim_on b keys = record { kind = kinds.Claim b; keys = keys }

-- what the making of the entry of a claim asks
pub record CanClaim (h : History) (b : ℕ) (keys : List Key) : Type 0 where
  pub applied : AppliesOn (rows_of h) (kinds.Claim b) keys
  pub lawful : is_lawful_entry (rows_of h) (claim_on b keys) ≡ true
  pub line : EntryFits Two (standing_entry (claim_on b keys))

-- a row that a builder may take, as the desk's view has it and as its parts do
pub claimable_inside : (inside view : DeskView) (b number : ℕ) (k : Key) → inside ≡ view
    → IsClaimable (rows_of view.history) b k number
    → IsClaimable (rows_of inside.history) b k number
claimable_inside inside view b number k seen can =
    subst (λ (w : DeskView). IsClaimable (rows_of w.history) b k number) (sym seen) can

pub can_claim : (h : History) (b number : ℕ) (k : Key) (keys : List Key) → IsBuilder b
    → IsClaimable (rows_of h) b k number → keys ≡ k ∷ []
    → ((q : Key) → names (keys_of h.opening) q ≡ true → KeyFits q) → CanClaim h b keys
can_claim h b number k keys builder can same each =
    subst (CanClaim h b) (sym same)
    (let t = rows_of h in
    let applied = applies_one t (kinds.Claim b) k can.row can.found can.fit in
    record {
      applied = applied;
      lawful = lawful_claim t b k applied can.free;
      line = entry_fits (kinds.Claim b) (k ∷ []) builder (is_one k)
          (keys_fit t (kinds.Claim b) (k ∷ []) applied (opening_keys h each)) (omega arith);
    })

-- the claim as it was entered is that of the key
pub claim_done : (inside view new : DeskView) (b : ℕ) (k : Key) (keys : List Key)
    (result : Result (Unit {0}) DeskFault) → inside ≡ view → keys ≡ k ∷ []
    → IsDone {A = Unit {0}} (Entered (claim_on b keys) ∷ []) inside new result
    → IsDone {A = Unit {0}} (Entered (claim_entry b k) ∷ []) view new result
claim_done inside view new b k keys result seen same done =
    subst (λ (w : DeskView).
    IsDone {A = Unit {0}} (Entered (claim_entry b k) ∷ []) w new result) seen
    (subst (λ (l : List Key).
    IsDone {A = Unit {0}} (Entered (claim_on b l) ∷ []) inside new result) same done)

-- the row is there under its number
pub claim_at : (h : History) (b number : ℕ) (k : Key) → IsClaimable (rows_of h) b k number
    → IsAt (rows_of h) k number
claim_at h b number k can = record { row = can.row; at = can.at }
