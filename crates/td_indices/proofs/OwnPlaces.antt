-- The place of a name in a table that names no architecture twice.
use Rattle.std.proofs.Common.{◌≡◌, ℕ, zero, suc, ◌+◌, Bool, true, false, not, ltb, List, [], ◌∷◌}
use Rattle.std.proofs.Common.{◌++◌, Some, None, length, take, slice_get, refl, sym, ap, ◌∙◌, inl}
use Rattle.std.proofs.Common.{inr, arith, append_assoc, append-nil, Option, option_map}
use Rattle.std.specs.List.{list_any, prefix_len}
use Rattle.std.specs.Str.{bytes_eq}
use Rattle.std.proofs.lemmas.Bool.{cases_Bool, lt-ltb}
use Rattle.std.proofs.lemmas.Option.{slice_get_within}
use Rattle.std.proofs.lemmas.Slice.Eq.{bytes_eq-Decides}
use Rattle.td_text.proofs.Chain.{some_is}
use Rattle.td_relation.specs.Arch.{ArchWords}
use Rattle.td_relation.specs.Table.{Fresh, IsApart, is_named, place_of}

-- where the first that passes stands
prefix_at : {A : Type 0} (test : A → Bool) (xs : List A) (n : ℕ) (x : A)
    → list_any test (take n xs) ≡ false → slice_get xs n ≡ Some x → test x ≡ true
    → prefix_len (λ y. not (test y)) xs ≡ n
prefix_at test [] n x none at is = absurd (let bad : None ≡ Some x = at in cc)
prefix_at test (y ∷ ys) zero x none at is =
    let same : y ≡ x = some_is y x at in let passes : test y ≡ true = ap test same ∙ is in
    rw passes refl
prefix_at test (y ∷ ys) (suc n) x none at is =
    elim (cases_Bool (test y)) [
      | inl bad ↦ absurd (let e : true ≡ false = sym (rw bad refl) ∙ none in cc)
      | inr other ↦
          let later = prefix_at test ys n x (sym (rw other refl) ∙ none) at is in
          rw other (let e : 1 + prefix_len (λ z. not (test z)) ys ≡ suc n = omega arith in e)
    ]

-- no architecture before a place has the name of the one at it
fresh_at : (seen table : List ArchWords) (place : ℕ) (w : ArchWords) → Fresh seen table
    → slice_get table place ≡ Some w → is_named (seen ++ take place table) w.name ≡ false
fresh_at seen [] place w fresh at = absurd (let bad : None ≡ Some w = at in cc)
fresh_at seen (a ∷ table) zero w fresh at =
    let same : a ≡ w = some_is a w at in
    ap (λ (l : List ArchWords). is_named l w.name) (append-nil seen)
    ∙ ap (λ (b : ArchWords). is_named seen b.name) (sym same) ∙ fresh.0
fresh_at seen (a ∷ table) (suc place) w fresh at =
    ap (λ (l : List ArchWords). is_named l w.name)
    (sym (append_assoc seen (a ∷ []) (take place table)))
    ∙ fresh_at (seen ++ a ∷ []) table place w fresh.1 at

pub place_own : (table : List ArchWords) (place : ℕ) (w : ArchWords) → IsApart table
    → slice_get table place ≡ Some w → place_of table w.name ≡ Some place
place_own table place w apart at =
    let named : bytes_eq w.name w.name ≡ true = (bytes_eq-Decides w.name w.name).1 refl in
    let first : prefix_len (λ (a : ArchWords). not (bytes_eq a.name w.name)) table ≡ place =
    prefix_at (λ (a : ArchWords). bytes_eq a.name w.name) table place w
    (fresh_at [] table place w apart at) at named in
    let within : ltb place (length table) ≡ true =
    lt-ltb place (length table) (slice_get_within table place w at) in
    rw (first, within) refl

-- the same by the name that stands there
pub place_of_named : (table : List ArchWords) (place : ℕ) (name : List ℕ) → IsApart table
    → option_map (λ (w : ArchWords). w.name) (slice_get table place) ≡ Some name
    → place_of table name ≡ Some place
place_of_named table place name apart named = by (slice_get table place) refl
  where
    by : (o : Option ArchWords) → slice_get table place ≡ o → place_of table name ≡ Some place
    by None e =
        absurd (let bad : None ≡ Some name =
        sym (ap (option_map (λ (w : ArchWords). w.name)) e) ∙ named in cc)
    by (Some w) e =
        let is : w.name ≡ name =
        some_is w.name name (sym (ap (option_map (λ (b : ArchWords). b.name)) e) ∙ named) in
        ap (place_of table) (sym is) ∙ place_own table place w apart e
