-- Texts without the spaces and tabs at their ends.
use Rattle.std.proofs.Common.{◌≡◌, ◌≢◌, ℕ, List, [], ◌∷◌, ◌++◌, reverse, Option, Some, None, refl}
use Rattle.std.proofs.Common.{sym, ap, ◌∙◌}
use Rattle.std.specs.Prelude.{IfNone, MatchOption}
use Rattle.std.specs.Borrow.{Bor}
use Rattle.std.proofs.lemmas.Bool.{ne_eqb}
use Rattle.std.proofs.lemmas.List.{reverse-append, reverse-reverse}
use Rattle.td_stanza.specs.Value.{trimmed_front, trimmed_back}

pub front_none : (t : List ℕ) → ((r : List ℕ) → t ≢ 32 ∷ r) → ((r : List ℕ) → t ≢ 9 ∷ r)
    → trimmed_front t ≡ t
front_none [] h k = refl
front_none (x ∷ t) h k =
    rw (
      ne_eqb x 32 (λ e. h t (ap (λ (b : ℕ). b ∷ t) e)),
      ne_eqb x 9 (λ e. k t (ap (λ (b : ℕ). b ∷ t) e)),
    ) refl

turned : (t r : List ℕ) (x : ℕ) → reverse t ≡ x ∷ r → t ≡ reverse r ++ x ∷ []
turned t r x is = sym (reverse-reverse t) ∙ ap reverse is ∙ reverse-append (x ∷ []) r

pub back_none : (t : List ℕ) → ((r : List ℕ) → t ≢ r ++ 32 ∷ []) → ((r : List ℕ) → t ≢ r ++ 9 ∷ [])
    → trimmed_back t ≡ t
back_none t h k =
    ap reverse (front_none (reverse t) (λ r e. h (reverse r) (turned t r 32 e))
    (λ r e. k (reverse r) (turned t r 9 e))) ∙ reverse-reverse t

-- where neither a space nor a tab is stripped
pub front_by : (t : List ℕ) (r : Option (Bor (List ℕ))) → ((rest : List ℕ) → t ≢ 32 ∷ rest)
    → MatchOption r ((rest : List ℕ) → t ≢ 9 ∷ rest) (λ x. t ≡ 9 ∷ x.now)
    → IfNone r (trimmed_front t ≡ t)
front_by t None h k = front_none t h k
front_by t (Some x) h k = tt

pub back_by : (t : List ℕ) (r : Option (Bor (List ℕ))) → ((front : List ℕ) → t ≢ front ++ 32 ∷ [])
    → MatchOption r ((front : List ℕ) → t ≢ front ++ 9 ∷ []) (λ x. t ≡ x.now ++ 9 ∷ [])
    → IfNone r (trimmed_back t ≡ t)
back_by t None h k = back_none t h k
back_by t (Some x) h k = tt
