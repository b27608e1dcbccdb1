-- What contracts see of a clerk, and of several. This project's own.
use Rattle.std.specs.Prelude.{ℕ, ◌+◌, List, [], ◌∷◌, ◌++◌}
use Rattle.td_desk.specs.declared.receipt.Receipt.{Receipt}

-- how many parts of the ledger a clerk has, and its receipts in the order in which it got them
pub record ClerkModel : Type 0 where
  pub parts : ℕ
  pub receipts : List Receipt

-- the clerk with one receipt more
abbrev pub with_receipt : Receipt → ClerkModel → ClerkModel
with_receipt r c = record c { receipts = c.receipts ++ r ∷ [] }

-- the receipts of all, one clerk's after the other's
abbrev pub all_receipts : List ClerkModel → List Receipt
all_receipts [] = []
all_receipts (c ∷ cs) = c.receipts ++ all_receipts cs

-- how many parts the clerks have together
abbrev pub all_parts : List ClerkModel → ℕ
all_parts [] = 0
all_parts (c ∷ cs) = c.parts + all_parts cs
