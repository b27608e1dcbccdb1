-- A list of keys rises where each key is below the next.
use Rattle.std.proofs.Common.{◌≡◌, ℕ, zero, suc, ◌+◌, ◌<◌, ◌≤◌, true, false, ◌&&◌, List, []}
use Rattle.std.proofs.Common.{◌∷◌, length, get_or, drop, length-drop, ap, refl, sym, ◌∙◌, arith}
use Rattle.std.specs.Ordering.{is_lt}
use Rattle.std.specs.declared.cmp.Ordering.{Ordering}
use Rattle.std.specs.declared.cmp.Ordering.TheVariants.{Less, Equal, Greater}
use Rattle.std.proofs.lemmas.Bool.{and_parts}
use Rattle.td_rows.specs.declared.key.Key.{Key}
use Rattle.td_rows.specs.Keys.{key_cmp}
use Rattle.td_rows.specs.Keys.{below_all, ascending}
use Rattle.td_rows.proofs.Keys.{key_total}

pub is_less : (o : Ordering) → is_lt o ≡ true → o ≡ Less
is_less Less h = refl
is_less Equal h = cc
is_less Greater h = cc

-- a key below one that is below all is below all
below_trans : (k q : Key) (ks : List Key) → is_lt (key_cmp k q) ≡ true → below_all q ks ≡ true
    → below_all k ks ≡ true
below_trans k q [] lt h = refl
below_trans k q (x ∷ ks) lt h =
    let parts = and_parts _ _ h in
    let here : is_lt (key_cmp k x) ≡ true =
    ap is_lt (key_total.trans k q x (is_less _ lt) (is_less _ parts.0)) in
    ap (λ b. b && below_all k ks) here ∙ below_trans k q ks lt parts.1

pub ascending-adjacent : (k q : Key) (ks : List Key)
    → ascending (k ∷ q ∷ ks) ≡ (is_lt (key_cmp k q) && ascending (q ∷ ks))
ascending-adjacent k q ks =
    elim (is_lt (key_cmp k q)) as (λ a.
    is_lt (key_cmp k q) ≡ a
    → ((a && below_all k ks) && (below_all q ks && ascending ks))
    ≡ (a && (below_all q ks && ascending ks))) [
      | true ↦
          λ lt. elim (below_all q ks) as (λ b.
          below_all q ks ≡ b → (below_all k ks && (b && ascending ks)) ≡ (b && ascending ks)) [
            | true ↦ λ h. ap (λ c. c && ascending ks) (below_trans k q ks lt h)
            | false ↦
                λ _. elim (below_all k ks) as (λ c. (c && false) ≡ false) [
                  | true ↦ refl
                  | false ↦ refl
                ]
          ] refl
      | false ↦ λ _. refl
    ] refl

pub ascending_short : (ks : List Key) → length ks < 2 → ascending ks ≡ true
ascending_short [] h = refl
ascending_short (k ∷ []) h = refl
ascending_short (k ∷ q ∷ ks) h = absurd (omega arith)

-- from place i on, the key there and the next one decide
ascending-drop : (ks : List Key) (i : ℕ) (d e : Key) → suc i < length ks → ascending (drop i ks)
    ≡ (is_lt (key_cmp (get_or ks i d) (get_or ks (suc i) e)) && ascending (drop (suc i) ks))
ascending-drop [] i d e h = absurd (omega arith)
ascending-drop (k ∷ []) i d e h = absurd (omega arith)
ascending-drop (k ∷ q ∷ ks) zero d e h = ascending-adjacent k q ks
ascending-drop (k ∷ q ∷ ks) (suc i) d e h = ascending-drop (q ∷ ks) i d e (omega arith)

-- the same for the two keys that a loop reads
pub ascending_step : (ks : List Key) (at i : ℕ) (a b : Key) → at ≡ suc i → at < length ks
    → a ≡ get_or ks i a → b ≡ get_or ks at b
    → ascending (drop i ks) ≡ (is_lt (key_cmp a b) && ascending (drop at ks))
ascending_step ks at i a b e h is_a is_b =
    ascending-drop ks i a b (omega arith)
    ∙ (λ j. is_lt (key_cmp (sym is_a j) (get_or ks (sym e j) b)) && ascending (drop (sym e j) ks))
    ∙ (λ j. is_lt (key_cmp a (sym is_b j)) && ascending (drop at ks))

pub ascending_end : (ks : List Key) (i : ℕ) → length ks ≤ i + 1 → ascending (drop i ks) ≡ true
ascending_end ks i h = ascending_short (drop i ks) (omega (arith, length-drop i ks))
