-- What a receipt says of an entry. This project's own.
use Rattle.std.specs.Prelude.{ℕ, List}
use Rattle.td_rows.specs.declared.key.Key.{Key}
use Rattle.td_rows.specs.declared.kind.Kind.{Kind}
use Rattle.td_rows.specs.declared.kind.Kind.TheVariants as kinds
use Rattle.td_desk.specs.declared.receipt.Receipt.{Receipt}
use Rattle.td_desk.specs.declared.receipt.Receipt.TheVariants.{Made, Swept, Undid}

-- the receipt of entry n of this kind on these keys: a sweep's has no keys, since its clerk names
-- none
abbrev pub made_of : ℕ → Kind → List Key → Receipt
made_of n kinds.Sweep keys = Swept n
made_of n kind keys = Made n kind keys

-- the number of the entry that a receipt is about
abbrev pub number_of : Receipt → ℕ
number_of (Made n kind keys) = n
number_of (Swept n) = n
number_of (Undid n) = n
