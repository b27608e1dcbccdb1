-- Which texts are versions: Debian Policy 5.6.12, deb-version(7).
use Rattle.std.specs.Prelude.{◌≡◌, ℕ, ◌==◌, nat_lt, nat_le, ◌&&◌, ◌||◌, Bool, IsTrue, List, [], ◌∷◌}
use Rattle.std.specs.Prelude.{◌++◌, Option, Some, None, is_some, length}
use Rattle.std.specs.Char.{is_ascii_digit}
use Rattle.std.specs.List.{list_all}
use Rattle.std.specs.Str.{all_ascii_digits}
use Rattle.std.specs.Str.Parse.{digits_value}
use Rattle.td_text.specs.Cut.{Without}
use Rattle.td_version.specs.Order.{is_letter}
use Rattle.td_version.specs.Version.{Parts}

-- A version as it is written: `[epoch:]upstream[-revision]`.
pub record Written : Type 0 where
  pub epoch : Option (List ℕ)
  pub upstream : List ℕ
  pub revision : Option (List ℕ)

-- the epoch and its colon
abbrev pub epoch_front : Option (List ℕ) → List ℕ
epoch_front None = []
epoch_front (Some digits) = digits ++ 58 ∷ []

-- the hyphen and the revision
abbrev pub revision_back : Option (List ℕ) → List ℕ
revision_back None = []
revision_back (Some revision) = 45 ∷ revision

-- `[epoch:]upstream[-revision]` as one text
abbrev pub written_text : Written → List ℕ
written_text w = epoch_front w.epoch ++ (w.upstream ++ revision_back w.revision)

-- The epoch is what stands before the first colon; where there is no colon, there is none.
abbrev pub IsFirstColon : Option (List ℕ) → List ℕ → Type 0
IsFirstColon None rest = Without 58 rest
IsFirstColon (Some digits) rest = Without 58 digits

-- The revision is what follows the last hyphen; where there is no hyphen, there is none.
abbrev pub IsLastHyphen : List ℕ → Option (List ℕ) → Type 0
IsLastHyphen upstream None = Without 45 upstream
IsLastHyphen upstream (Some revision) = Without 45 revision

-- The text is cut into these pieces: at its first colon, and at the last hyphen after that.
pub record IsCut (text : List ℕ) (w : Written) : Type 0 where
  pub joined : text ≡ written_text w
  pub first_colon : IsFirstColon w.epoch (w.upstream ++ revision_back w.revision)
  pub last_hyphen : IsLastHyphen w.upstream w.revision

-- ASCII letters, digits, `.`, `+` and `~` may stand in a revision.
abbrev pub is_revision_byte : ℕ → Bool
is_revision_byte b = is_letter b || (is_ascii_digit b || ((b == 46) || ((b == 43) || (b == 126))))

-- What may stand in a revision may stand in an upstream part, and also `-`, and `:` where an epoch
-- is written (this project's choice, and dpkg's).
abbrev pub is_upstream_byte : Bool → ℕ → Bool
is_upstream_byte has_epoch b = is_revision_byte b || ((b == 45) || (has_epoch && (b == 58)))

-- One digit or more, of a number of at most 2,147,483,647 (this project's limit, and dpkg's).
abbrev pub is_epoch : List ℕ → Bool
is_epoch digits =
    nat_lt 0 (length digits)
    && (all_ascii_digits digits && nat_le (digits_value 10 digits) 2147483647)

-- a part with a byte or more, each of which may stand in it
abbrev pub is_part : (ℕ → Bool) → List ℕ → Bool
is_part may part = nat_lt 0 (length part) && list_all may part

-- An epoch may be missing.
abbrev pub EpochFits : Option (List ℕ) → Type 0
EpochFits None = Unit {0}
EpochFits (Some digits) = IsTrue (is_epoch digits)

-- An upstream part may not.
abbrev pub UpstreamFits : Written → Type 0
UpstreamFits w = IsTrue (is_part (is_upstream_byte (is_some w.epoch)) w.upstream)

-- A revision may be missing.
abbrev pub RevisionFits : Option (List ℕ) → Type 0
RevisionFits None = Unit {0}
RevisionFits (Some revision) = IsTrue (is_part is_revision_byte revision)

-- the epoch's number, 0 where none is written
abbrev pub epoch_number : Option (List ℕ) → ℕ
epoch_number None = 0
epoch_number (Some digits) = digits_value 10 digits

-- what a version as it is written stands for
abbrev pub parts_written : Written → Parts
parts_written w = record {
  epoch = epoch_number w.epoch;
  upstream = w.upstream;
  revision = w.revision;
}

-- The text is a version, and these are its parts.
pub record IsVersion (text : List ℕ) (p : Parts) : Type 0 where
  pub written : Written
  pub cut : IsCut text written
  pub epoch : EpochFits written.epoch
  pub upstream : UpstreamFits written
  pub revision : RevisionFits written.revision
  pub parts : p ≡ parts_written written
