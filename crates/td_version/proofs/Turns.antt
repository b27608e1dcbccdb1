-- The pairs of a part are its runs.
use Rattle.std.proofs.Common.{◌≡◌, ℕ, ◌+◌, ◌<◌, true, false, List, [], ◌∷◌, length, refl, ap, arith}
use Rattle.std.proofs.Common.{inl, inr}
use Rattle.std.specs.Char.{is_ascii_digit}
use Rattle.std.proofs.lemmas.Bool.{cases_Bool, and_from, not_from_false}
use Rattle.td_version.specs.Order.{Pair, symbol_onto, digit_beside, digit_onto, pairs}
use Rattle.td_version.specs.Runs.{AreInTurn, AreRunsOf, PairsAreRuns}

-- more in front of the first pair leaves the pairs in turn
in_turn-front : (p q : Pair) (ps : List Pair)
    → length p.symbols + length p.digits < length q.symbols + length q.digits
    → (0 < length p.digits → 0 < length q.digits) → AreInTurn (p ∷ ps) → AreInTurn (q ∷ ps)
in_turn-front p q [] more some h = omega arith
in_turn-front p q (r ∷ ps) more some h = (some h.0, h.1, h.2)

symbol_runs : (b : ℕ) (t : List ℕ) (ps : List Pair) → is_ascii_digit b ≡ false → AreRunsOf t ps
    → AreRunsOf (b ∷ t) (symbol_onto b ps)
symbol_runs b t [] symbol r = record {
  joined = ap (λ (l : List ℕ). b ∷ l) r.joined;
  each = ((and_from _ _ (not_from_false (is_ascii_digit b) symbol) refl, refl), tt);
  in_turn = omega arith;
}
symbol_runs b t (p ∷ ps) symbol r = record {
  joined = ap (λ (l : List ℕ). b ∷ l) r.joined;
  each =
      ((and_from _ _ (not_from_false (is_ascii_digit b) symbol) r.each.0.0, r.each.0.1), r.each.1);
  in_turn = in_turn-front p (record { symbols = b ∷ p.symbols; digits = p.digits }) ps (omega arith)
      (λ some. some) r.in_turn;
}

beside_runs : (b : ℕ) (t symbols digits : List ℕ) (ps : List Pair) → is_ascii_digit b ≡ true
    → AreRunsOf t (record { symbols = symbols; digits = digits } ∷ ps)
    → AreRunsOf (b ∷ t) (digit_beside b symbols digits ps)
beside_runs b t [] digits ps digit r = record {
  joined = ap (λ (l : List ℕ). b ∷ l) r.joined;
  each = ((refl, and_from _ _ digit r.each.0.1), r.each.1);
  in_turn = in_turn-front (record { symbols = []; digits = digits })
      (record { symbols = []; digits = b ∷ digits }) ps (omega arith)
      (λ some. omega arith) r.in_turn;
}
beside_runs b t (s ∷ symbols) digits ps digit r = record {
  joined = ap (λ (l : List ℕ). b ∷ l) r.joined;
  each = ((refl, and_from _ _ digit refl), r.each);
  in_turn = (omega arith, omega arith, r.in_turn);
}

digit_runs : (b : ℕ) (t : List ℕ) (ps : List Pair) → is_ascii_digit b ≡ true → AreRunsOf t ps
    → AreRunsOf (b ∷ t) (digit_onto b ps)
digit_runs b t [] digit r = record {
  joined = ap (λ (l : List ℕ). b ∷ l) r.joined;
  each = ((refl, and_from _ _ digit refl), tt);
  in_turn = omega arith;
}
digit_runs b t (p ∷ ps) digit r = beside_runs b t p.symbols p.digits ps digit r

pub pairs_are_runs : PairsAreRuns
unfolding pairs
pairs_are_runs [] = record { joined = refl; each = tt; in_turn = tt }
pairs_are_runs (b ∷ part) =
    elim (cases_Bool (is_ascii_digit b)) [
      | inl digit ↦ rw digit (digit_runs b part (pairs part) digit (pairs_are_runs part))
      | inr symbol ↦ rw symbol (symbol_runs b part (pairs part) symbol (pairs_are_runs part))
    ]
