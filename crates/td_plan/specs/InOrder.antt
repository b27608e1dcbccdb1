-- Things in an order, and the first of some. This project's own.
use Rattle.std.specs.Prelude.{ℕ, Bool, List, [], ◌∷◌, Option, Some, None, filter, fold}
use Rattle.std.specs.Prelude.{if◌then◌else◌}
use Rattle.std.specs.Cmp.Lexicographic.{slice_cmp}
use Rattle.std.specs.Ordering.{is_lt, nat_cmp}

-- a text is before another in the order of their bytes
abbrev pub is_before : List ℕ → List ℕ → Bool
is_before a b = is_lt (slice_cmp nat_cmp a b)

-- a list with one item more, before the first item that it is before
unfoldable pub put_in : {A : Type 0} → (A → A → Bool) → A → List A → List A
put_in before x [] = x ∷ []
put_in before x (y ∷ ys) = if before x y then x ∷ (y ∷ ys) else y ∷ put_in before x ys

-- things in an order, which says of two whether the one is before the other
unfoldable pub in_order : {A : Type 0} → (A → A → Bool) → List A → List A
in_order before [] = []
in_order before (x ∷ xs) = put_in before x (in_order before xs)

-- the item that was found, unless the next is before it
abbrev pub earlier : {A : Type 0} → (A → List ℕ) → Option A → A → Option A
earlier name None x = Some x
earlier name (Some y) x = if is_before (name x) (name y) then Some x else Some y

-- the first, by the bytes of their names, of those that pass a test
abbrev pub first_where : {A : Type 0} → (A → List ℕ) → (A → Bool) → List A → Option A
first_where name test xs = fold (earlier name) None (filter test xs)
