-- Whether two receipts are equal, as the code finds it. This project's own.
use Rattle.std.specs.Prelude.{ℕ, Bool, true, false, List, [], ◌∷◌, ◌==◌, ◌&&◌, Option, Some, None}
use Rattle.std.specs.Prelude.{if◌then◌else◌}
use Rattle.std.specs.Ordering.{int_eq}
use Rattle.std.specs.Cmp.Lexicographic.{pointwise}
use Rattle.td_rows.specs.declared.key.Key.{Key}
use Rattle.td_rows.specs.declared.kind.Kind.{Kind}
use Rattle.td_rows.specs.declared.kind.Kind.TheVariants as kinds
use Rattle.td_rows.specs.declared.outcome.Outcome.{Outcome}
use Rattle.td_rows.specs.declared.outcome.Outcome.TheVariants as ends
use Rattle.td_rows.specs.Keys.{same_key}
use Rattle.td_desk.specs.declared.receipt.Receipt.{Receipt}
use Rattle.td_desk.specs.declared.receipt.Receipt.TheVariants.{Made, Swept, Undid}
use Rattle.td_desk.specs.Receipts.{made_of}

-- whether two texts are equal
abbrev pub same_text : List ℕ → List ℕ → Bool
same_text s t = pointwise ◌==◌ s t

-- whether two numbers are equal, or both are left out
abbrev pub same_number : Option ℕ → Option ℕ → Bool
same_number None None = true
same_number None (Some m) = false
same_number (Some n) None = false
same_number (Some n) (Some m) = n == m

-- whether two outcomes are equal, with the relations that builds wait for
abbrev pub same_outcome : Outcome → Outcome → Bool
same_outcome ends.Built ends.Built = true
same_outcome ends.Attempted ends.Attempted = true
same_outcome ends.GivenBack ends.GivenBack = true
same_outcome (ends.Waits s) (ends.Waits t) = same_text s t
same_outcome o p = false

-- whether two kinds are equal, with all that they say
abbrev pub same_kind : Kind → Kind → Bool
same_kind kinds.Gb kinds.Gb = true
same_kind (kinds.Nmu n e t) (kinds.Nmu m f u) = same_number n m && (same_text e f && same_text t u)
same_kind (kinds.Bp p) (kinds.Bp q) = int_eq p q
same_kind (kinds.Dw s) (kinds.Dw t) = same_text s t
same_kind (kinds.Claim a) (kinds.Claim b) = a == b
same_kind (kinds.Outcome a o) (kinds.Outcome b p) = (a == b) && same_outcome o p
same_kind kinds.Arrive kinds.Arrive = true
same_kind kinds.Sweep kinds.Sweep = true
same_kind k j = false

-- whether two lists have the same keys in the same order
abbrev pub same_keys : List Key → List Key → Bool
same_keys [] [] = true
same_keys [] (k ∷ ks) = false
same_keys (j ∷ js) [] = false
same_keys (j ∷ js) (k ∷ ks) = same_key j k && same_keys js ks

-- whether two receipts are equal
abbrev pub same_receipt : Receipt → Receipt → Bool
same_receipt (Made n k ks) (Made m j js) = (n == m) && (same_kind k j && same_keys ks js)
same_receipt (Swept n) (Swept m) = n == m
same_receipt (Undid n) (Undid m) = n == m
same_receipt q r = false

-- the receipt of entry n, or of its undo
abbrev pub change_of : ℕ → Kind → List Key → Bool → Receipt
change_of n kind keys undo = if undo then Undid n else made_of n kind keys

-- the keys without those of a second list in the same order
abbrev pub left_out : List Key → List Key → List Key
left_out [] ss = []
left_out (k ∷ ks) [] = k ∷ left_out ks []
left_out (k ∷ ks) (s ∷ ss) = if same_key s k then left_out ks ss else k ∷ left_out ks (s ∷ ss)

-- whether the first of the keys, if there is one, is this
abbrev pub is_next : List Key → Key → Bool
is_next [] k = false
is_next (s ∷ ss) k = same_key s k
