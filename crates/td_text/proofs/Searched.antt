-- What a search for a byte c says of a text's first c.
use Rattle.std.proofs.Common.{◌≡◌, ℕ, ◌<◌, Bool, true, false, not, eqb, List, length, get_or, Option}
use Rattle.std.proofs.Common.{Some, None, refl, ap, subst, arith}
use Rattle.std.specs.Prelude.{MatchOption}
use Rattle.std.proofs.lemmas.List.Sums.{prefix_len_is}
use Rattle.memchr.specs.Find.{IsFirstByte, is_byte}
use Rattle.td_text.specs.Cut.{Without}
use Rattle.td_text.proofs.Cut.{place_none, place_of}

other : (b : Bool) → ¬ (b ≡ true) → not b ≡ true
other true out = absurd (out refl)
other false out = refl

-- where the search found the first, or none
searched : (c : ℕ) (t : List ℕ) (found : Option ℕ) → IsFirstByte (is_byte c) t found
    → MatchOption found (place_of c t ≡ length t)
    (λ place. (place_of c t ≡ place) × (place < length t))
searched c t None nowhere =
    prefix_len_is (λ b. not (eqb b c)) t (length t) 0 (omega arith)
    (λ i low. other (eqb (get_or t i 0) c) (nowhere i (omega arith) low))
    (λ past. absurd (omega arith))
searched c t (Some place) first =
    let within : place < length t = first.0.high in (
      prefix_len_is (λ b. not (eqb b c)) t place 0 (omega arith)
          (λ i low. other (eqb (get_or t i 0) c) (first.0.before i (omega arith) low))
          (λ here. ap not first.1),
      within,
    )

pub byte_found : (c : ℕ) (t bytes : List ℕ) (found : Option ℕ) (place : ℕ) → bytes ≡ t
    → IsFirstByte (is_byte c) bytes found → found ≡ Some place
    → (place_of c t ≡ place) × (place < length t)
byte_found c t bytes found place same first is =
    searched c t (Some place)
    (subst (λ (l : List ℕ). IsFirstByte (is_byte c) l (Some place)) same
    (subst (IsFirstByte (is_byte c) bytes) is first))

pub byte_lacks : (c : ℕ) (t bytes : List ℕ) (found : Option ℕ) → bytes ≡ t
    → IsFirstByte (is_byte c) bytes found → found ≡ None → Without c t
byte_lacks c t bytes found same first is =
    place_none c t (searched c t None
    (subst (λ (l : List ℕ). IsFirstByte (is_byte c) l None) same
    (subst (IsFirstByte (is_byte c) bytes) is first)))
