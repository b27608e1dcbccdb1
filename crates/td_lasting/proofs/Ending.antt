-- The end of a builder's build: it applies on the keys of its row, and can be written.
use Rattle.std.proofs.Common.{◌≡◌, ℕ, true, List, [], ◌∷◌, Some, refl, subst, arith}
use Rattle.td_rows.specs.declared.key.Key.{Key}
use Rattle.td_rows.specs.declared.kind.Kind.TheVariants as kinds
use Rattle.td_rows.specs.declared.outcome.Outcome.{Outcome}
use Rattle.td_rows.specs.declared.outcome.Outcome.TheVariants as ends
use Rattle.td_rows.specs.Keys.{ascending, names}
use Rattle.td_rows.specs.KeyText.{KeyFits}
use Rattle.td_rows.specs.Notes.{NotesFit}
use Rattle.td_rows.specs.Table.{AppliesOn, keys_of}
use Rattle.td_journal.specs.declared.version.Version.TheVariants.{Two}
use Rattle.td_journal.specs.Entries.{standing_entry}
use Rattle.td_journal.specs.EntryFits.{EntryFits, IsBuilder}
use Rattle.td_journal.specs.JournalText.{kind_notes}
use Rattle.td_core.specs.History.{History, rows_of}
use Rattle.td_lasting.specs.Hands.{held_by}
use Rattle.td_lasting.specs.Telling.{is_lawful_entry}
use Rattle.td_lasting.proofs.Entering.{end_applies, entry_fits, is_one, keys_fit, lawful_other}
use Rattle.td_lasting.proofs.Entering.{opening_keys}

-- how a build ends has no extra dependencies
end_texts : (b : ℕ) (o : Outcome) → NotesFit (kind_notes (kinds.Outcome b o))
end_texts b ends.Built = omega arith
end_texts b ends.Attempted = omega arith
end_texts b ends.GivenBack = omega arith
end_texts b (ends.Waits t) = omega arith

-- what the making of the entry asks
pub record CanEnd (h : History) (b : ℕ) (o : Outcome) (keys : List Key) : Type 0 where
  pub applied : AppliesOn (rows_of h) (kinds.Outcome b o) keys
  pub lawful : is_lawful_entry (rows_of h) (record { kind = kinds.Outcome b o; keys = keys }) ≡ true
  pub line : EntryFits Two (standing_entry (record { kind = kinds.Outcome b o; keys = keys }))

pub can_end : (h : History) (b : ℕ) (o : Outcome) (k : Key) (keys : List Key)
    → ascending (keys_of (rows_of h)) ≡ true → IsBuilder b → held_by (rows_of h) b ≡ Some k
    → k ∷ [] ≡ keys → ((q : Key) → names (keys_of h.opening) q ≡ true → KeyFits q)
    → CanEnd h b o keys
can_end h b o k keys up builder held same each =
    subst (CanEnd h b o) same
    (let t = rows_of h in
    let applied = end_applies t b o k up held in
    record {
      applied = applied;
      lawful = lawful_other t (record { kind = kinds.Outcome b o; keys = k ∷ [] }) applied refl
          refl;
      line = entry_fits (kinds.Outcome b o) (k ∷ []) builder (is_one k)
          (keys_fit t (kinds.Outcome b o) (k ∷ []) applied (opening_keys h each)) (end_texts b o);
    })
