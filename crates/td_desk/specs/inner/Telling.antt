-- What a clerk's call does to the clerk's receipts and share, and to the changes. This project's
-- own.
use Rattle.std.specs.Prelude.{◌≡◌, ℕ, ◌+◌, List, [], ◌∷◌, ◌++◌, IsPermutation}
use Rattle.td_desk.specs.declared.receipt.Receipt.{Receipt}

-- a clerk gets the receipt of a change: it comes after those that the clerk had, the amount of its
-- share is one more, and the receipt is what the changes of the book have more than before
abbrev pub IsTold : Receipt → List Receipt → List Receipt → ℕ → ℕ → List Receipt → List Receipt
    → Type 0
IsTold r had has amount after before now =
    (has ≡ had ++ r ∷ []) × (after ≡ amount + 1) × IsPermutation (r ∷ before) now

-- a clerk gets no receipt: its receipts and the amount stay as they were
abbrev pub IsUntold : List Receipt → List Receipt → ℕ → ℕ → Type 0
IsUntold had has amount after = (has ≡ had) × (after ≡ amount)
