-- Pieces appended one after the other.
use Rattle.std.proofs.Common.{◌≡◌, ◌≤◌, ℕ, List, [], ◌∷◌, ◌++◌, take, length, ap, refl, sym, subst}
use Rattle.std.proofs.Common.{◌∙◌, append_assoc, arith, length-append}
use Rattle.std.specs.Str.{IsUtf8}
use Rattle.std.specs.String.{string_bytes}
use Rattle.std.specs.String.Boundary.{IsSplitPoint}
use Rattle.std.specs.declared.string.String.{String}
use Rattle.std.proofs.lemmas.List.{append-nil}
use Rattle.std.proofs.lemmas.Str.{IsCharBoundary-from_take, IsUtf8-string_bytes}
use Rattle.td_rows.specs.Appending.{Grown}

-- nothing was appended
pub grown_by_nothing : (old new : List ℕ) → new ≡ old → Grown old new
grown_by_nothing old new is = record { more = []; is = is ∙ sym (append-nil old) }

-- a piece was appended
pub grown_by : (old new piece : List ℕ) → new ≡ old ++ piece → Grown old new
grown_by old new piece is = record { more = piece; is = is }

-- a piece was appended, and then something more
pub grown_on : (old mid new piece : List ℕ) → mid ≡ old ++ piece → Grown mid new → Grown old new
grown_on old mid new piece is g =
    record {
      more = piece ++ g.more;
      is = g.is ∙ ap (λ (t : List ℕ). t ++ g.more) is ∙ append_assoc old piece g.more;
    }

-- something was appended, and then something more
pub grown_twice : (old mid new : List ℕ) → Grown old mid → Grown mid new → Grown old new
grown_twice old mid new f g =
    record {
      more = f.more ++ g.more;
      is = g.is ∙ ap (λ (t : List ℕ). t ++ g.more) f.is ∙ append_assoc old f.more g.more;
    }

taken : (xs ys : List ℕ) → take (length xs) (xs ++ ys) ≡ xs
taken [] ys = refl
taken (x ∷ xs) ys = ap (λ (l : List ℕ). x ∷ l) (taken xs ys)

-- what was appended may be cut off again
pub cut_back : {Z : Type 0} (old new : String Z) (n : ℕ) → n ≡ length (string_bytes old)
    → Grown (string_bytes old) (string_bytes new) → IsSplitPoint (string_bytes new) n
cut_back old new n len g =
    let front : take n (string_bytes new) ≡ string_bytes old =
    rw (len, g.is) (taken (string_bytes old) g.more) in
    let within : n ≤ length (string_bytes new) =
    rw (len, g.is, length-append (string_bytes old) g.more) (omega arith) in
    let place = IsCharBoundary-from_take (string_bytes new) n (IsUtf8-string_bytes new) within
    (subst IsUtf8 (sym front) (IsUtf8-string_bytes old)) in
    (place.0, λ _. place.1)

-- by which a front is kept
pub ruleset growing = (grown_by_nothing, grown_by, grown_on, grown_twice)
