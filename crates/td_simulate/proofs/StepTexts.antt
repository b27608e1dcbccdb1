-- No newline stands in the texts of a step that is read from a line.
use Rattle.std.proofs.Common.{◌≡◌, ℕ, false, List, ◌∷◌, ◌++◌, Some, subst}
use Rattle.std.specs.Prelude.{decimal}
use Rattle.td_text.specs.Cut.{Without}
use Rattle.td_text.proofs.Cut.{Without-right}
use Rattle.td_rows.specs.Notes.{notes_at}
use Rattle.td_rows.specs.Text.{has_newline}
use Rattle.td_rows.proofs.NoteTexts.{notes_exact}
use Rattle.td_rows.proofs.NoteLines.{notes_lack}
use Rattle.td_journal.specs.EntryReading.{keys_at}
use Rattle.td_journal.specs.JournalText.{spaced_keys}
use Rattle.td_journal.proofs.KeyWords.{keys_found}
use Rattle.td_simulate.specs.StepReading.{builder_at}
use Rattle.td_simulate.proofs.StepWords.{builder_found}

notes_at-lack : (t : List ℕ) (n : List ℕ × List ℕ) → Without 10 t → notes_at t ≡ Some n
    → (has_newline n.0 ≡ false) × (has_newline n.1 ≡ false)
notes_at-lack t n w is = notes_lack n (subst (Without 10) (notes_exact.found t n is).0 w)

-- of a command
pub commit_lacks : (rest : List ℕ) (n : List ℕ × List ℕ) → Without 10 rest
    → notes_at (keys_at rest).1 ≡ Some n → (has_newline n.0 ≡ false) × (has_newline n.1 ≡ false)
commit_lacks rest n w is =
    let whole : Without 10 (spaced_keys (keys_at rest).0 ++ (keys_at rest).1) =
    subst (Without 10) (keys_found rest).0 w in
    notes_at-lack (keys_at rest).1 n
    (Without-right 10 (spaced_keys (keys_at rest).0) (keys_at rest).1 whole) is

-- behind the builder of a build's end
pub finish_lacks : (t : List ℕ) (p : ℕ × List ℕ) → Without 10 t → builder_at t ≡ Some p
    → Without 10 p.1
finish_lacks t p w builder =
    (Without-right 10 (decimal p.0) (32 ∷ p.1)
    (subst (Without 10) (builder_found t p builder).0 w)).1
