-- The field of a name.
use Rattle.std.proofs.Common.{◌≡◌, ℕ, suc, zero, Bool, true, false, List, [], ◌∷◌, ◌++◌, map, Some}
use Rattle.std.proofs.Common.{None, option_map, refl, sym, ap, ◌∙◌, inl, inr}
use Rattle.std.specs.Char.{to_ascii_lowercase}
use Rattle.std.specs.List.{slice_get, find}
use Rattle.std.proofs.lemmas.Bool.{cases_Bool}
use Rattle.std.proofs.lemmas.Slice.Eq.{bytes_eq-Decides}
use Rattle.td_text.proofs.Chain.{or-false, some_is}
use Rattle.td_stanza.specs.declared.entry.Field.{Field}
use Rattle.td_stanza.specs.Field.{Entry, is_same_name}
use Rattle.td_stanza.specs.StanzaGrammar.{names_of, has_name, AreNew, IsDistinct}
use Rattle.td_stanza.specs.Table.{shown, HasField}

abbrev lowered : List ℕ → List ℕ
lowered name = map to_ascii_lowercase name

same_is : (a b : List ℕ) → is_same_name a b ≡ true → lowered a ≡ lowered b
same_is a b h = (bytes_eq-Decides (lowered a) (lowered b)).0 h

-- whether a field is the one of the name
abbrev pub is_named : List ℕ → Entry → Bool
is_named name field = is_same_name name field.name

pub find-shown : (name : List ℕ) (fields : List Field)
    → option_map shown (find (λ f. is_same_name name f.name.now) fields)
    ≡ find (is_named name) (map shown fields)
find-shown name [] = refl
find-shown name (f ∷ fields) =
    elim (cases_Bool (is_same_name name f.name.now)) [
      | inl is ↦ rw is refl
      | inr other ↦ rw other (find-shown name fields)
    ]

pub find_there : (name : List ℕ) (fs : List Entry) (f : Entry) → find (is_named name) fs ≡ Some f
    → HasField fs name f.value
find_there name [] f e = absurd cc
find_there name (g ∷ fs) f e =
    elim (cases_Bool (is_named name g)) [
      | inl is ↦
          let q : g ≡ f = some_is g f (sym (rw is refl) ∙ e) in
          (0, g, refl, is, ap (λ (h : Entry). h.value) q)
      | inr other ↦
          let h = find_there name fs f (sym (rw other refl) ∙ e) in
          (suc h.0, h.1, h.2, h.3, h.4)
    ]

pub find_absent : (name : List ℕ) (fs : List Entry) → find (is_named name) fs ≡ None
    → has_name (names_of fs) name ≡ false
find_absent name [] e = refl
find_absent name (g ∷ fs) e =
    elim (cases_Bool (is_named name g)) [
      | inl is ↦ absurd (let q : Some g ≡ None = sym (rw is refl) ∙ e in cc)
      | inr other ↦ rw other (find_absent name fs (sym (rw other refl) ∙ e))
    ]

-- ---- no second field has the name

has_left : (a b : List (List ℕ)) (name : List ℕ) → has_name (a ++ b) name ≡ false
    → has_name a name ≡ false
has_left [] b name h = refl
has_left (n ∷ a) b name h =
    let p = or-false (is_same_name name n) (has_name (a ++ b) name) h in
    rw (p.0, has_left a b name p.1) refl

has_right : (a : List (List ℕ)) (n name : List ℕ) → has_name (a ++ n ∷ []) name ≡ false
    → is_same_name name n ≡ false
has_right [] n name h = (or-false (is_same_name name n) false h).0
has_right (m ∷ a) n name h =
    has_right a n name (or-false (is_same_name name m) (has_name (a ++ n ∷ []) name) h).1

-- a name that comes later is none of those seen
later_new : (seen : List (List ℕ)) (fs : List Entry) (i : ℕ) (f : Entry) → AreNew seen (names_of fs)
    → slice_get fs i ≡ Some f → has_name seen f.name ≡ false
later_new seen [] i f h e = absurd cc
later_new seen (g ∷ fs) zero f h e =
    ap (λ (k : Entry). has_name seen k.name) (sym (some_is g f e)) ∙ h.0
later_new seen (g ∷ fs) (suc i) f h e =
    has_left seen (g.name ∷ []) f.name (later_new (seen ++ g.name ∷ []) fs i f h.1 e)

apart : (seen : List (List ℕ)) (name : List ℕ) (g : Entry) (fs : List Entry) (i : ℕ) (f : Entry)
    → AreNew (seen ++ g.name ∷ []) (names_of fs) → slice_get fs i ≡ Some f → is_named name g ≡ true
    → is_named name f ≡ true → ⊥
apart seen name g fs i f h e is same =
    let other : is_same_name f.name g.name ≡ false =
    has_right seen g.name f.name (later_new (seen ++ g.name ∷ []) fs i f h e) in
    let equal : is_same_name f.name g.name ≡ true =
    (bytes_eq-Decides (lowered f.name) (lowered g.name)).1
    (sym (same_is name f.name same) ∙ same_is name g.name is) in
    (let bad = sym other ∙ equal in cc)

find_only : (seen : List (List ℕ)) (name : List ℕ) (fs : List Entry) (i : ℕ) (f : Entry)
    → AreNew seen (names_of fs) → slice_get fs i ≡ Some f → is_named name f ≡ true
    → find (is_named name) fs ≡ Some f
find_only seen name [] i f h e same = absurd cc
find_only seen name (g ∷ fs) zero f h e same =
    let is : g ≡ f = some_is g f e in
    let named : is_named name g ≡ true = ap (is_named name) is ∙ same in
    rw named (ap Some is)
find_only seen name (g ∷ fs) (suc i) f h e same =
    elim (cases_Bool (is_named name g)) [
      | inl is ↦ absurd (apart seen name g fs i f h.1 e is same)
      | inr other ↦ rw other (find_only (seen ++ g.name ∷ []) name fs i f h.1 e same)
    ]

pub only_named : (name value : List ℕ) (fs : List Entry) → IsDistinct fs → HasField fs name value
    → option_map (λ f. f.value) (find (is_named name) fs) ≡ Some value
only_named name value fs d h =
    ap (option_map (λ f. f.value)) (find_only [] name fs h.0 h.1 d h.2 h.3) ∙ ap Some h.4
