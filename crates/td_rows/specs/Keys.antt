-- Keys, their order, and lists of keys that strictly rise. This project's own.
use Rattle.std.specs.Prelude.{Bool, true, false, List, [], ◌∷◌, ◌&&◌, if◌then◌else◌}
use Rattle.std.specs.Bool.{◌==◌}
use Rattle.std.specs.Cmp.Lexicographic.{slice_cmp, pointwise}
use Rattle.std.specs.Ordering.{nat_cmp, ordering_then, is_lt}
use Rattle.std.specs.declared.cmp.Ordering.{Ordering}
use Rattle.td_rows.specs.declared.key.Key.{Key}

-- the order of the bytes of the source, then of the architecture
abbrev pub key_cmp : Key → Key → Ordering
key_cmp a b = ordering_then (slice_cmp nat_cmp a.source b.source) (slice_cmp nat_cmp a.arch b.arch)

-- whether two keys have the same source and the same architecture
abbrev pub same_key : Key → Key → Bool
same_key a b = pointwise ◌==◌ a.source b.source && pointwise ◌==◌ a.arch b.arch

-- whether the key is among the keys
abbrev pub names : List Key → Key → Bool
names [] k = false
names (q ∷ keys) k = if same_key k q then true else names keys k

-- whether the key is below each of the keys
abbrev pub below_all : Key → List Key → Bool
below_all x [] = true
below_all x (k ∷ keys) = is_lt (key_cmp x k) && below_all x keys

-- whether the keys strictly rise
abbrev pub ascending : List Key → Bool
ascending [] = true
ascending (k ∷ keys) = below_all k keys && ascending keys
