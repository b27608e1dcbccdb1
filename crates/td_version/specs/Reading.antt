-- What the reader computes. proofs/Outcomes.antt joins it to the grammar and the faults.
-- This project's own.
use Rattle.std.specs.Prelude.{ℕ, ◌+◌, ◌==◌, not, Bool, false, List, [], ◌∷◌, Option, Some, None}
use Rattle.std.specs.Prelude.{is_some, option_map, Result, Ok, Err, length, position, if◌then◌else◌}
use Rattle.std.specs.Str.Parse.{digits_value}
use Rattle.td_text.specs.Cut.{cut}
use Rattle.td_version.specs.declared.version.Version.{Version}
use Rattle.td_version.specs.declared.version.VersionFault.{VersionFault}
use Rattle.td_version.specs.declared.version.VersionFault.TheVariants.{Empty, BadEpoch}
use Rattle.td_version.specs.declared.version.VersionFault.TheVariants.{BadCharacter}
use Rattle.td_version.specs.declared.reading.Pieces.{Pieces}
use Rattle.td_version.specs.Version.{Parts, parts_of}
use Rattle.td_version.specs.Grammar.{Written, is_epoch, is_upstream_byte, is_revision_byte}
use Rattle.td_version.specs.Faults.{upstream_start, revision_start}

-- the byte c itself, where none follows
abbrev pub cut_here : ℕ → ℕ → List ℕ → Option (List ℕ × List ℕ) → Option (List ℕ × List ℕ)
cut_here c x xs None = if x == c then Some ([], xs) else None
cut_here c x xs (Some p) = Some (x ∷ p.0, p.1)

-- the text before the last c, and the text after it
unfoldable pub cut_last : ℕ → List ℕ → Option (List ℕ × List ℕ)
cut_last c [] = None
cut_last c (x ∷ xs) = cut_here c x xs (cut_last c xs)

-- upstream part and revision, after an epoch or none
abbrev pub with_revision : Option (List ℕ) → List ℕ → Option (List ℕ × List ℕ) → Written
with_revision epoch rest None = record { epoch = epoch; upstream = rest; revision = None }
with_revision epoch rest (Some p) = record { epoch = epoch; upstream = p.0; revision = Some p.1 }

-- the pieces of a text, by its cut at the first colon, if it has one
abbrev pub with_epoch : List ℕ → Option (List ℕ × List ℕ) → Written
with_epoch text None = with_revision None text (cut_last 45 text)
with_epoch text (Some p) = with_revision (Some p.0) p.1 (cut_last 45 p.1)

-- the pieces of a text
unfoldable pub pieces : List ℕ → Written
pieces text = with_epoch text (cut 58 text)

-- the pieces that a `Pieces` holds
abbrev pub written_of : Pieces → Written
written_of p = record {
  epoch = option_map (λ x. x.now) p.epoch;
  upstream = p.upstream.now;
  revision = option_map (λ x. x.now) p.revision;
}

-- what a step goes on with
infixl 10 ◌>>=◌
abbrev pub ◌>>=◌ : {A B : Type 0} → Result A VersionFault → (A → Result B VersionFault)
    → Result B VersionFault
(Ok x) >>= f = f x
(Err fault) >>= f = Err fault

-- the number of an epoch that is written
unfoldable pub digits_at : List ℕ → Result ℕ VersionFault
digits_at digits = if is_epoch digits then Ok (digits_value 10 digits) else Err BadEpoch

-- the epoch's number
unfoldable pub epoch_at : Option (List ℕ) → Result ℕ VersionFault
epoch_at None = Ok 0
epoch_at (Some digits) = digits_at digits

-- no fault where there is no bad byte, else that byte's place in the text
abbrev pub placed : ℕ → Option ℕ → Result Unit VersionFault
placed start None = Ok tt
placed start (Some i) = Err (BadCharacter (start + i))

-- a part that begins at this place of the text, and where its first bad byte is
abbrev pub checked : List ℕ → ℕ → Option ℕ → Result Unit VersionFault
checked part start bad = if length part == 0 then Err Empty else placed start bad

-- a part that begins at this place of the text, by the bytes that may stand in it
abbrev pub part_at : (ℕ → Bool) → ℕ → List ℕ → Result Unit VersionFault
part_at may start part = checked part start (position (λ b. not (may b)) part)

-- a revision that begins at this place of the text, if one is written
unfoldable pub revision_at : ℕ → Option (List ℕ) → Result Unit VersionFault
revision_at start None = Ok tt
revision_at start (Some revision) = part_at is_revision_byte start revision

-- whether a part is written, and is empty
abbrev pub is_empty_part : Option (List ℕ) → Bool
is_empty_part None = false
is_empty_part (Some part) = length part == 0

-- the epoch, then the upstream part, then the revision
unfoldable pub judged : Written → Result Parts VersionFault
judged w =
    epoch_at w.epoch >>= λ epoch.
    part_at (is_upstream_byte (is_some w.epoch)) (upstream_start w) w.upstream >>= λ _.
    revision_at (revision_start w) w.revision >>= λ _.
    Ok (record { epoch = epoch; upstream = w.upstream; revision = w.revision })

-- what a text is read as
abbrev pub reading : List ℕ → Result Parts VersionFault
reading text = judged (pieces text)

-- the parts of the version that is read, or the fault
abbrev pub parts_read : Result Version VersionFault → Result Parts VersionFault
parts_read (Ok v) = Ok (parts_of v)
parts_read (Err fault) = Err fault
