-- The texts and patterns of several parts, and counts with one item more.
use Rattle.std.proofs.Common.{◌≡◌, ◌++◌, ◌∷◌, [], ◌<◌, ◌+◌, ℕ, Bool, List, Some, count_by}
use Rattle.std.proofs.Common.{if◌then◌else◌, get_or, length, map, refl, sym, ap, ◌∙◌}
use Rattle.std.proofs.Common.{slice_get, take}
use Rattle.std.specs.List.{flat_map}
use Rattle.std.proofs.lemmas.List.{append-nil, map-append, take_more}
use Rattle.std.proofs.lemmas.List.Sums.{sum_by_push}
use Rattle.td_rows.proofs.Lists.{take-next}
use Rattle.td_query.specs.Query.{Shape, all_from, all_of, any_from, any_of}
use Rattle.regex.specs.Patterns.{Re}
use Rattle.td_indices.specs.Archive.{Contents}
use Rattle.td_query.specs.declared.atoms.Atom.{Atom}
use Rattle.td_query.specs.declared.finding.Found.{Found}
use Rattle.td_query.specs.Atoms.{atom_shape, atoms_of, found_in}

-- ---- 1. parts

-- the texts and patterns of parts with `&` between them
all_atoms_from : (x : Shape) (xs : List Shape)
    → atoms_of (all_from x xs) ≡ atoms_of x ++ flat_map atoms_of xs
all_atoms_from x [] = sym (append-nil (atoms_of x))
all_atoms_from x (y ∷ ys) = ap (λ l. atoms_of x ++ l) (all_atoms_from y ys)

pub all_atoms : (xs : List Shape) → flat_map atoms_of xs ≡ atoms_of (all_of xs)
all_atoms [] = refl
all_atoms (x ∷ xs) = sym (all_atoms_from x xs)

-- the texts and patterns of parts with `|` between them
any_atoms_from : (x : Shape) (xs : List Shape)
    → atoms_of (any_from x xs) ≡ atoms_of x ++ flat_map atoms_of xs
any_atoms_from x [] = sym (append-nil (atoms_of x))
any_atoms_from x (y ∷ ys) = ap (λ l. atoms_of x ++ l) (any_atoms_from y ys)

pub any_atoms : (xs : List Shape) → flat_map atoms_of xs ≡ atoms_of (any_of xs)
any_atoms [] = refl
any_atoms (x ∷ xs) = sym (any_atoms_from x xs)

-- the texts and patterns of all parts, one part after the other
pub all_pushed : {new : List Shape} (old xs : List Shape) → new ≡ old ++ flat_map atoms_of xs
    → new ≡ old ++ atoms_of (all_of xs)
all_pushed old xs is = is ∙ ap (λ (l : List Shape). old ++ l) (all_atoms xs)

pub any_pushed : {new : List Shape} (old xs : List Shape) → new ≡ old ++ flat_map atoms_of xs
    → new ≡ old ++ atoms_of (any_of xs)
any_pushed old xs is = is ∙ ap (λ (l : List Shape). old ++ l) (any_atoms xs)

-- ---- 2. counts

-- what passes before the next item, and the item if it does, is what passes up to it
pub count_more : {A : Type 0} (p : A → Bool) (xs : List A) (n : ℕ) (x : A) (b : Bool)
    (old new : ℕ) → slice_get xs n ≡ Some x → b ≡ p x → old ≡ count_by p (take n xs)
    → new ≡ old + (if b then 1 else 0) → new ≡ count_by p (take (n + 1) xs)
count_more p xs n x b old new there is so_far added =
    added
    ∙ ap (λ (c : Bool). old + (if c then 1 else 0)) is
    ∙ ap (λ (k : ℕ). k + (if p x then 1 else 0)) so_far
    ∙ sym (ap (count_by p) (take-next xs n x there)
    ∙ sum_by_push (λ y. if p y then 1 else 0) (take n xs) x)

-- what each text and pattern finds, one more
pub found_more : {x : Found} (a : Contents) (ps qs : List Re) (atoms : List Atom) (i : ℕ)
    (d : Atom) → i < length atoms → (old new : List Found)
    → new ≡ old ++ x ∷ [] → old ≡ map (found_in a ps) (map atom_shape (take i atoms))
    → x ≡ found_in a qs (atom_shape (get_or atoms i d)) → qs ≡ ps
    → new ≡ map (found_in a ps) (map atom_shape (take (i + 1) atoms))
found_more {x} a ps qs atoms i d h old new pushed so_far is same =
    rw (
      take_more atoms i d h,
      map-append atom_shape (take i atoms) (get_or atoms i d ∷ []),
      map-append (found_in a ps) (map atom_shape (take i atoms))
          (atom_shape (get_or atoms i d) ∷ []),
    )
    (pushed ∙ ap (λ (l : List Found). l ++ x ∷ []) so_far
    ∙ ap (λ (y : Found). map (found_in a ps) (map atom_shape (take i atoms)) ++ y ∷ [])
    (is ∙ ap (λ (rs : List Re). found_in a rs (atom_shape (get_or atoms i d))) same))
