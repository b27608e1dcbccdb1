-- Names, and the bytes that they don't have.
use Rattle.std.proofs.Common.{◌≡◌, ℕ, ◌&&◌, false, ltb, List, length, get_or}
use Rattle.std.specs.Prelude.{IsTrue}
use Rattle.std.specs.List.{list_all}
use Rattle.std.proofs.lemmas.Bool.{and_parts}
use Rattle.td_text.specs.Cut.{Without}
use Rattle.td_text.specs.Words.{is_alphanumeric, is_name_byte, is_arch_byte, is_name, is_arch}
use Rattle.td_text.proofs.Cut.{Without-from_test}

pub Without-name : (c : ℕ) (t : List ℕ) → is_name_byte c ≡ false → IsTrue (is_name t) → Without c t
Without-name c t out h =
    let a = and_parts (ltb 1 (length t)) (is_alphanumeric (get_or t 0 0) && list_all is_name_byte t)
    h in
    let b = and_parts (is_alphanumeric (get_or t 0 0)) (list_all is_name_byte t) a.1 in
    Without-from_test is_name_byte c t out b.1

pub Without-arch : (c : ℕ) (t : List ℕ) → is_arch_byte c ≡ false → IsTrue (is_arch t) → Without c t
Without-arch c t out h =
    Without-from_test is_arch_byte c t out
    (and_parts (ltb 0 (length t)) (list_all is_arch_byte t) h).1
