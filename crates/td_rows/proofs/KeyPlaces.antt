-- The parts of a key within the text that holds it.
use Rattle.std.proofs.Common.{◌≡◌, ℕ, ◌+◌, ◌==◌, false, List, take, drop, ap}
use Rattle.std.proofs.Common.{sym, ◌∙◌, arith}
use Rattle.std.specs.Str.{IsUtf8, IsCharBoundary}
use Rattle.std.proofs.lemmas.List.{take-append-drop}
use Rattle.std.proofs.lemmas.List.Folds.{list_any-append}
use Rattle.std.proofs.lemmas.Str.{IsCharBoundary-after_ascii}
use Rattle.td_text.proofs.Chain.{or-false}
use Rattle.td_rows.specs.Text.{has_newline}
use Rattle.td_rows.specs.KeyModel.{IsKeyText}

-- no newline stands in a part of a line
pub has_newline-parts : (n : ℕ) (text : List ℕ) → has_newline text ≡ false
    → (has_newline (take n text) ≡ false) × (has_newline (drop n text) ≡ false)
has_newline-parts n text h =
    or-false _ _ (sym (list_any-append (λ c. c == 10) (take n text) (drop n text))
    ∙ ap has_newline (take-append-drop n text) ∙ h)

-- a text may be cut behind its slash
pub IsCharBoundary-behind : (text bytes : List ℕ) (slash : ℕ) → bytes ≡ text → IsUtf8 bytes
    → IsKeyText text slash → IsCharBoundary bytes (slash + 1)
IsCharBoundary-behind text bytes slash e utf8 is =
    IsCharBoundary-after_ascii bytes slash utf8 (rw e is.within) (rw (e, is.parted) (omega arith))
