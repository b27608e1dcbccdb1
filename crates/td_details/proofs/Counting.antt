-- Counts of what passes a test, with one item more.
use Rattle.std.proofs.Common.{◌≡◌, ◌<◌, ◌+◌, ℕ, Bool, false, List, Option, Some, None, count_by}
use Rattle.std.proofs.Common.{if◌then◌else◌, length, refl, ap, ◌∙◌, slice_get, take}
use Rattle.std.specs.Option.{option_map_or}
use Rattle.std.proofs.lemmas.List.Sums.{sum_by_push}
use Rattle.td_rows.proofs.Lists.{slice_get-none, take-next}
use Rattle.td_indices.specs.Kept.{KeptBinary}
use Rattle.td_indices.specs.PackageKeys.{same_home}
use Rattle.td_details.specs.Counts.{is_own}

-- the items before the next number have as many that pass as those before this one, and the item
-- with this number
more_at : {A : Type 0} (p : A → Bool) (xs : List A) (n : ℕ) (o : Option A) → slice_get xs n ≡ o
    → n < length xs
    → count_by p (take (n + 1) xs) ≡ count_by p (take n xs) + (if option_map_or p o false
    then 1 else 0)
more_at p xs n None is within = absurd (slice_get-none xs n is within)
more_at p xs n (Some x) is within =
    ap (count_by p) (take-next xs n x is)
    ∙ sum_by_push (λ y. if p y then 1 else 0) (take n xs) x

pub counted_more : {A : Type 0} (p : A → Bool) (xs : List A) (n : ℕ) → n < length xs
    → count_by p (take (n + 1) xs) ≡ count_by p (take n xs)
    + (if option_map_or p (slice_get xs n) false then 1 else 0)
counted_more p xs n within = more_at p xs n (slice_get xs n) refl within

-- whether a package is an architecture's own, by where it is
pub own_home : (place : ℕ) (o : Option KeptBinary)
    → same_home (option_map_or (λ (b : KeptBinary). b.head.home) o None) (Some place)
    ≡ option_map_or (is_own place) o false
own_home place None = refl
own_home place (Some b) = refl
