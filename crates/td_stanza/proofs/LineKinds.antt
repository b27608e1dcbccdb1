-- A field's first line is no separator and no continuation.
use Rattle.std.proofs.Common.{◌≡◌, ℕ, ◌<◌, ◌&&◌, ◌||◌, not, Bool, true, false, eqb, ltb, List, []}
use Rattle.std.proofs.Common.{◌∷◌, ◌++◌, length, get_or, refl, arith}
use Rattle.std.specs.Prelude.{IsTrue}
use Rattle.std.specs.List.{list_all, AllByRecursion}
use Rattle.std.proofs.lemmas.Bool.{and_parts, ne_eqb}
use Rattle.std.proofs.lemmas.Bool.Decides.{nat_tests}
use Rattle.td_text.specs.Cut.{Without}
use Rattle.td_text.proofs.Cut.{Without-from_test}
use Rattle.td_text.proofs.Chain.{not-true}
use Rattle.td_stanza.specs.Line.{is_blank_byte, is_separator, begins_blank, is_continuation}
use Rattle.td_stanza.specs.Field.{is_name_byte, is_field_name}
use Rattle.td_stanza.specs.StanzaFaults.{ends_apart}

name_byte_high : (x : ℕ) → is_name_byte x ≡ true → 32 < x
name_byte_high x h = grind (arith, nat_tests)

high_not_blank : (x : ℕ) → 32 < x → is_blank_byte x ≡ false
high_not_blank x h = rw (ne_eqb x 32 (λ e. omega arith), ne_eqb x 9 (λ e. omega arith)) refl

all_name_bytes : (name : List ℕ) → IsTrue (is_field_name name) → list_all is_name_byte name ≡ true
all_name_bytes name h =
    let a = and_parts (ltb 0 (length name))
    (not (eqb (get_or name 0 0) 35 || eqb (get_or name 0 0) 45) && list_all is_name_byte name) h in
    (and_parts (not (eqb (get_or name 0 0) 35 || eqb (get_or name 0 0) 45))
    (list_all is_name_byte name) a.1).1

head_not_blank : (x : ℕ) (name : List ℕ) → IsTrue (is_field_name (x ∷ name))
    → is_blank_byte x ≡ false
head_not_blank x name h =
    high_not_blank x (name_byte_high x
    (and_parts (is_name_byte x) (list_all is_name_byte name) (all_name_bytes (x ∷ name) h)).0)

pub name_lacks_colon : (name : List ℕ) → IsTrue (is_field_name name) → Without 58 name
name_lacks_colon name h = Without-from_test is_name_byte 58 name refl (all_name_bytes name h)

pub named_filled : (name rest : List ℕ) → IsTrue (is_field_name name)
    → is_separator (name ++ rest) ≡ false
named_filled [] rest h = absurd cc
named_filled (x ∷ name) rest h = rw (head_not_blank x name h) refl

pub named_begins : (name rest : List ℕ) → IsTrue (is_field_name name)
    → begins_blank (name ++ rest) ≡ false
named_begins [] rest h = absurd cc
named_begins (x ∷ name) rest h = head_not_blank x name h

pub continued_filled : (line : List ℕ) → IsTrue (is_continuation line) → is_separator line ≡ false
continued_filled line h =
    not-true (is_separator line) (and_parts (begins_blank line) (not (is_separator line)) h).1

pub continued_begins : (line : List ℕ) → IsTrue (is_continuation line) → begins_blank line ≡ true
continued_begins line h = (and_parts (begins_blank line) (not (is_separator line)) h).0

-- ---- whether lines end with a separator

pub ends_apart-append : (d : Bool) (a b : List (List ℕ))
    → ends_apart d (a ++ b) ≡ ends_apart (ends_apart d a) b
ends_apart-append d [] b = refl
ends_apart-append d (l ∷ a) b = ends_apart-append (is_separator l) a b

pub continued_apart : (more : List (List ℕ))
    → AllByRecursion (λ line. IsTrue (is_continuation line)) more → ends_apart false more ≡ false
continued_apart [] h = refl
continued_apart (l ∷ more) h = rw (continued_filled l h.0) (continued_apart more h.1)
