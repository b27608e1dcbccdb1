-- A field, and the lines that stand for it.
use Rattle.std.specs.Prelude.{◌≡◌, ℕ, ◌==◌, nat_lt, nat_le, ◌&&◌, ◌||◌, not, Bool, IsTrue, List}
use Rattle.std.specs.Prelude.{◌∷◌, ◌++◌, length, slice_index, map}
use Rattle.std.specs.List.{list_all, AllByRecursion}
use Rattle.std.specs.Char.{to_ascii_lowercase}
use Rattle.std.specs.Str.{bytes_eq}
use Rattle.td_stanza.specs.Line.{is_continuation}
use Rattle.td_stanza.specs.Value.{value_of}

-- a field as its name and its value
pub record Entry : Type 0 where
  pub name : List ℕ
  pub value : List ℕ

-- what a field's name is made of: graphic ASCII characters but the colon (Debian Policy 5.1)
abbrev pub is_name_byte : ℕ → Bool
is_name_byte b = (nat_le 33 b && nat_le b 57) || (nat_le 59 b && nat_le b 126)

-- a field's name: not empty, and beginning with neither `#` nor `-` (Debian Policy 5.1)
abbrev pub is_field_name : List ℕ → Bool
is_field_name name = nat_lt 0 (length name) &&
    (not ((slice_index name 0 == 35) || (slice_index name 0 == 45)) && list_all is_name_byte name)

-- two names are the same: the case of ASCII letters doesn't count (Debian Policy 5.1)
abbrev pub is_same_name : List ℕ → List ℕ → Bool
is_same_name a b = bytes_eq (map to_ascii_lowercase a) (map to_ascii_lowercase b)

-- these lines are the field's: its name and a colon on the first, and lines that continue it
pub record IsField (field : Entry) (lines : List (List ℕ)) : Type 0 where
  pub first : List ℕ
  pub more : List (List ℕ)
  pub parts : lines ≡ (field.name ++ 58 ∷ first) ∷ more
  pub name : IsTrue (is_field_name field.name)
  pub continued : AllByRecursion (λ line. IsTrue (is_continuation line)) more
  pub value : field.value ≡ value_of first more
