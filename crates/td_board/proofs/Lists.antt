-- Lists that are read at a place.
use Rattle.std.proofs.Common.{◌≡◌, ◌⊎◌, ℕ, zero, suc, ◌<◌, List, [], ◌∷◌, ◌++◌, length, replicate}
use Rattle.std.proofs.Common.{get_or, sym, refl, ap, ◌∙◌, ⊎_elim, inl, inr, arith}
use mathlib.Core.Option.{some, some-injective, some-ne-none}
use lib.ListN.{get_elem?}
use Rattle.td_board.specs.declared.views.Deed.{Deed}
use Rattle.td_board.specs.Knowledge.{list_at}

-- a place where something stands is within the list
pub at_less : {A : Type 0} (l : List A) (i : ℕ) (a : A) → get_elem? l i ≡ some a → i < length l
at_less [] i a e = absurd (some-ne-none a (sym e))
at_less (x ∷ xs) zero a e = omega arith
at_less (x ∷ xs) (suc i) a e = let h = at_less xs i a e in omega arith

-- one thing stands at a place
pub one_at : {A : Type 0} (l : List A) (i : ℕ) (a b : A) → get_elem? l i ≡ some a
    → get_elem? l i ≡ some b → a ≡ b
one_at l i a b e f = some-injective a b (sym e ∙ f)

-- something stands at a place within the list
pub there_is : {A : Type 0} (l : List A) (i : ℕ) → i < length l → (a : A) × (get_elem? l i ≡ some a)
there_is [] i h = absurd (omega arith)
there_is (x ∷ xs) zero h = (x, refl)
there_is (x ∷ xs) (suc i) h = there_is xs i (omega arith)

-- what stands in a list of copies
pub at_replicate : {A : Type 0} (n i : ℕ) (a b : A) → get_elem? (replicate n a) i ≡ some b → a ≡ b
at_replicate zero i a b e = absurd (some-ne-none b (sym e))
at_replicate (suc n) zero a b e = some-injective a b e
at_replicate (suc n) (suc i) a b e = at_replicate n i a b e

-- one copy more
pub replicate-snoc : {A : Type 0} (n : ℕ) (a : A) → replicate n a ++ a ∷ [] ≡ replicate (suc n) a
replicate-snoc zero a = refl
replicate-snoc (suc n) a = ap (λ l. a ∷ l) (replicate-snoc n a)

-- a place of a longer list is a place of the list, or the new one
pub at_snoc_or_end : {A : Type 0} (l : List A) (a b : A) (j : ℕ)
    → get_elem? (l ++ a ∷ []) j ≡ some b → (j < length l) ⊎ ((j ≡ length l) × (a ≡ b))
at_snoc_or_end [] a b zero e = inr (refl, some-injective a b e)
at_snoc_or_end [] a b (suc j) e = absurd (some-ne-none b (sym e))
at_snoc_or_end (x ∷ xs) a b zero e = inl (omega arith)
at_snoc_or_end (x ∷ xs) a b (suc j) e =
    ⊎_elim (λ h. inl (omega arith)) (λ t. let h = t.0 in inr (omega arith, t.1))
    (at_snoc_or_end xs a b j e)

-- the two ways to read a place
pub get_or-at : {A : Type 0} (l : List A) (i : ℕ) (a d : A) → get_elem? l i ≡ some a
    → get_or l i d ≡ a
get_or-at [] i a d e = absurd (some-ne-none a (sym e))
get_or-at (x ∷ xs) zero a d e = some-injective x a e
get_or-at (x ∷ xs) (suc i) a d e = get_or-at xs i a d e

-- the same for the desk's lists
pub list_at-at : (ls : List (List Deed)) (k : ℕ) (l : List Deed) → get_elem? ls k ≡ some l
    → list_at ls k ≡ l
list_at-at [] k l e = absurd (some-ne-none l (sym e))
list_at-at (x ∷ xs) zero l e = some-injective x l e
list_at-at (x ∷ xs) (suc k) l e = list_at-at xs k l e
