-- The words that name packages and architectures.
use Rattle.std.specs.Prelude.{ℕ, ◌==◌, nat_lt, nat_le, List, Bool, ◌&&◌, ◌||◌, length, slice_index}
use Rattle.std.specs.List.{list_all}

-- a lower-case letter or a digit
abbrev pub is_alphanumeric : ℕ → Bool
is_alphanumeric b = (nat_le 97 b && nat_le b 122) || (nat_le 48 b && nat_le b 57)

-- what a package's name is made of: also plus, minus and period (Debian Policy 5.6.1)
abbrev pub is_name_byte : ℕ → Bool
is_name_byte b = is_alphanumeric b || ((b == 43) || ((b == 45) || (b == 46)))

-- the name of a package: two characters or more, the first a letter or a digit (Debian Policy
-- 5.6.1)
abbrev pub is_name : List ℕ → Bool
is_name text = nat_lt 1 (length text) &&
    (is_alphanumeric (slice_index text 0) && list_all is_name_byte text)

-- what an architecture's name is made of: also minus (this project's own; each of dpkg's table
-- fits)
abbrev pub is_arch_byte : ℕ → Bool
is_arch_byte b = is_alphanumeric b || (b == 45)

-- the name of an architecture: one character or more (this project's own)
abbrev pub is_arch : List ℕ → Bool
is_arch text = nat_lt 0 (length text) && list_all is_arch_byte text
