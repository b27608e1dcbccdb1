-- Rebuilds of one base rise with their numbers.
use Rattle.std.proofs.Common.{◌≡◌, ℕ, suc, zero, ◌<◌, ◌^◌, ◌⊎◌, true, List, [], ◌∷◌, ◌++◌, length}
use Rattle.std.proofs.Common.{refl, ap, ◌∙◌, arith, inl, inr}
use Rattle.std.specs.Prelude.{codes}
use Rattle.std.specs.Char.{is_ascii_digit}
use Rattle.std.specs.Fmt.{decimal}
use Rattle.std.specs.declared.cmp.Ordering.TheVariants.{Less}
use Rattle.std.specs.Str.{all_ascii_digits}
use Rattle.std.proofs.lemmas.Bool.{cases_Bool, and_parts}
use Rattle.std.proofs.lemmas.Cmp.{tied_itself}
use Rattle.std.proofs.lemmas.Fmt.{digits_decimal, digits_value-decimal, decimal_nonempty}
use Rattle.td_text.proofs.Numbers.{decimal_model}
use Rattle.td_version.specs.Order.{Pair, symbol_onto, digit_onto, pairs, pairs_cmp, part_cmp}
use Rattle.td_version.specs.Rebuild.{rebuild_suffix}
use Rattle.td_version.proofs.Digits.{nat_cmp_less}
use Rattle.td_version.proofs.Comparing.{pairs-digit, pairs-symbol, pairs_cmp-symbols_onto}
use Rattle.td_version.proofs.Comparing.{digit_before_symbol}
use Rattle.td_version.proofs.Total.{pair_total}

-- ---- the pairs of a suffix

-- digits alone are one pair without symbols
pairs-numeral : (ds : List ℕ) → 0 < length ds → all_ascii_digits ds ≡ true
    → pairs ds ≡ record { symbols = []; digits = ds } ∷ []
unfolding pairs
pairs-numeral [] some h = absurd (omega arith)
pairs-numeral (d ∷ []) some h = rw ((and_parts (is_ascii_digit d) true h).0) refl
pairs-numeral (d ∷ e ∷ ds) some h =
    let p = and_parts (is_ascii_digit d) (all_ascii_digits (e ∷ ds)) h in
    rw (pairs-digit d (e ∷ ds) p.0, pairs-numeral (e ∷ ds) (omega arith) p.1) refl

pairs-suffix : (n : ℕ) → suc n < 2 ^ 64 → pairs (rebuild_suffix (suc n)) ≡ record {
  symbols =
      codes "+b";
  digits = decimal (suc n);
} ∷ []
unfolding pairs
pairs-suffix n small =
    rw (pairs-numeral (decimal (suc n)) (decimal_nonempty (suc n) small)
    (digits_decimal decimal_model (suc n) small)) refl

-- ---- what stands in front of both

-- a digit in front is a pair of its own
abbrev StandApart : List Pair → Type 0
StandApart ps = (b : ℕ) → digit_onto b ps ≡ record { symbols = []; digits = b ∷ [] } ∷ ps

-- the second is above the first, whatever stands in front of both
abbrev Rises : List Pair → List Pair → Type 0
Rises ps qs =
    (StandApart ps × StandApart qs × (pairs_cmp ps qs ≡ Less))
    ⊎ ((digits : List ℕ) × (low : List Pair) × (high : List Pair)
    × (ps ≡ record { symbols = []; digits = digits } ∷ low)
    × (qs ≡ record { symbols = []; digits = digits } ∷ high) × (pairs_cmp low high ≡ Less))

rises_less : (ps qs : List Pair) → Rises ps qs → pairs_cmp ps qs ≡ Less
unfolding pairs_cmp
rises_less ps qs (inl apart) = apart.2
rises_less ps qs (inr r) =
    rw (r.3, r.4, tied_itself pair_total (record { symbols = []; digits = r.0 })) r.5

rises_symbol : (b : ℕ) (ps qs : List Pair) → Rises ps qs
    → Rises (symbol_onto b ps) (symbol_onto b qs)
rises_symbol b ps qs r =
    inl (
      λ d. digit_before_symbol d b ps,
      λ d. digit_before_symbol d b qs,
      pairs_cmp-symbols_onto b b refl ps qs ∙ rises_less ps qs r,
    )

rises_digit : (b : ℕ) (ps qs : List Pair) → Rises ps qs → Rises (digit_onto b ps) (digit_onto b qs)
rises_digit b ps qs (inl apart) = inr (b ∷ [], ps, qs, apart.0 b, apart.1 b, apart.2)
rises_digit b ps qs (inr r) =
    inr (b ∷ r.0, r.1, r.2, ap (digit_onto b) r.3, ap (digit_onto b) r.4, r.5)

rises_front : (t low high : List ℕ) → Rises (pairs low) (pairs high)
    → Rises (pairs (t ++ low)) (pairs (t ++ high))
rises_front [] low high r = r
rises_front (b ∷ t) low high r =
    elim (cases_Bool (is_ascii_digit b)) [
      | inl digit ↦
          rw (pairs-digit b (t ++ low) digit, pairs-digit b (t ++ high) digit)
          (rises_digit b (pairs (t ++ low)) (pairs (t ++ high)) (rises_front t low high r))
      | inr symbol ↦
          rw (pairs-symbol b (t ++ low) symbol, pairs-symbol b (t ++ high) symbol)
          (rises_symbol b (pairs (t ++ low)) (pairs (t ++ high)) (rises_front t low high r))
    ]

suffixes_rise : (m n : ℕ) → m < n → n < 2 ^ 64
    → Rises (pairs (rebuild_suffix m)) (pairs (rebuild_suffix n))
unfolding pairs pairs_cmp
suffixes_rise m zero lt small = absurd (omega arith)
suffixes_rise zero (suc n) lt small = rw (pairs-suffix n small) (inl (λ b. refl, λ b. refl, refl))
suffixes_rise (suc m) (suc n) lt small =
    rw (pairs-suffix m (omega arith), pairs-suffix n small)
    (inl (
      λ b. refl,
      λ b. refl,
      rw (
        digits_value-decimal decimal_model (suc m) (omega arith),
        digits_value-decimal decimal_model (suc n) small,
        nat_cmp_less (suc m) (suc n) lt,
      ) refl,
    ))

-- a part with a greater rebuild number is above
pub part_cmp-suffixes : (t : List ℕ) (m n : ℕ) → m < n → n < 2 ^ 64
    → part_cmp (t ++ rebuild_suffix m) (t ++ rebuild_suffix n) ≡ Less
part_cmp-suffixes t m n lt small =
    rises_less _ _
    (rises_front t (rebuild_suffix m) (rebuild_suffix n) (suffixes_rise m n lt small))
