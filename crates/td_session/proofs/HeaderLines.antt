-- The header of a desk's file is a line.
use Rattle.std.proofs.Common.{◌≢◌, ◌/◌, ◌%◌, ℕ, zero, suc, List, [], ◌∷◌, refl, arith}
use Rattle.std.specs.Prelude.{slice_index}
use Rattle.std.proofs.lemmas.List.Elements.{All-from_recursion}
use Rattle.hex.specs.Hex.{encode_with, lower_digits}
use Rattle.td_text.specs.Cut.{Without}
use Rattle.td_text.proofs.Cut.{Without-append, lacks}
use Rattle.td_rows.specs.Table.{Table}
use Rattle.td_indices.specs.Archive.{Contents}
use Rattle.td_ledger.specs.Lines.{IsLine}
use Rattle.td_lasting.specs.Basis.{hash_of, header_of}
use Rattle.td_lasting.specs.FileText.{header_words}

digit_lacks : (digits : List ℕ) (n : ℕ) → Without 10 digits → slice_index digits n ≢ 10
digit_lacks [] n none = λ e. omega (arith, e)
digit_lacks (x ∷ xs) zero none = none.0
digit_lacks (x ∷ xs) (suc n) none = digit_lacks xs n none.1

encoded_lacks : (digits bytes : List ℕ) → Without 10 digits → Without 10 (encode_with digits bytes)
unfolding encode_with
encoded_lacks digits [] none = tt
encoded_lacks digits (b ∷ bytes) none = (
  digit_lacks digits (b / 16) none,
  (digit_lacks digits (b % 16) none, encoded_lacks digits bytes none),
)

pub header_is_line : (c : Contents) (rows : Table) → IsLine (header_of c rows)
header_is_line c rows =
    All-from_recursion (λ b. b ≢ 10) (header_of c rows)
    (Without-append 10 header_words (hash_of c rows) (lacks 10 header_words refl)
    (encoded_lacks lower_digits _ (lacks 10 lower_digits refl)))
