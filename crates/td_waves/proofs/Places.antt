-- Items by their numbers.
use Rattle.std.proofs.Common.{◌≡◌, ◌&&◌, Bool, false, List, slice_get, refl, ap}
use Rattle.std.specs.List.{list_any}
use Rattle.std.specs.Option.{option_map_or}
use Rattle.td_indices.specs.Archive.{places_from}
use Rattle.td_indices.proofs.Places.{any-places}

-- a test on the items with the numbers of those selected
pub any-selected : {A : Type 0} (test sel : A → Bool) (xs : List A)
    → list_any (λ k. option_map_or test (slice_get xs k) false) (places_from sel 0 xs)
    ≡ list_any (λ x. sel x && test x) xs
any-selected test sel xs =
    any-places sel (λ k. option_map_or test (slice_get xs k) false) test xs xs 0
    (λ k x at. ap (λ o. option_map_or test o false) at) refl
