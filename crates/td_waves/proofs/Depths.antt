-- The greatest number of a level is how many levels there are.
use Rattle.std.proofs.Common.{◌≡◌, ◌<◌, ◌≤◌, ℕ, List, [], Option, None, Some}
use Rattle.std.proofs.Common.{get_or, length, slice_get, inl, inr, refl, sym, ap, ◌∙◌, arith}
use Rattle.std.proofs.lemmas.Bool.{cases_lt}
use Rattle.std.proofs.lemmas.Option.{slice_get-get_or, get_or_from_slice_get}
use Rattle.std.proofs.lemmas.List.{get_or_past}
use Rattle.std.specs.Option.{option_map}
use Rattle.td_text.proofs.Chain.{no_value, some_is}
use Rattle.td_waves.specs.declared.level.Level.TheVariants.{At, Cyclic}
use Rattle.td_waves.specs.Graph.{BuildsOn, IsNode}
use Rattle.td_waves.specs.Levels.{IsDepth}
use Rattle.td_waves.specs.Levelling.{HasNumber, numbered}
use Rattle.td_waves.proofs.Certificate.{reached, zero_or_more}
use Rattle.td_waves.proofs.Underway.{Underway, at_number, finished}

-- the level with a number: the number itself, from 1
at_same : (n k : ℕ) → At n ≡ At k → n ≡ k
at_same n k e = cc

no_number : (k : ℕ) → Cyclic ≡ At k → ⊥
no_number k e = absurd cc

its_number : (n k : ℕ) → numbered n ≡ At k → (n ≡ k) × (0 < k)
its_number n k e = elim (zero_or_more n) [
  | inl none ↦ absurd (no_number k (ap numbered (sym none) ∙ e))
  | inr some ↦ let same = at_same n k (sym (at_number n some) ∙ e) in
      (same, omega (arith, same, some))
]

of_some : (o : Option ℕ) (k : ℕ) → option_map numbered o ≡ Some (At k)
    → (n : ℕ) × (o ≡ Some n) × (n ≡ k) × (0 < k)
of_some None k e = no_value (At k) e
of_some (Some n) k e = let r = its_number n k (some_is (numbered n) (At k) e) in
    (n, refl, r.0, r.1)

-- a number in a list, where it isn't the one that stands for none
there : (numbers : List ℕ) (i k : ℕ) → 0 < k → get_or numbers i 0 ≡ k → i < length numbers
there numbers i k some e = elim (cases_lt i (length numbers)) [
  | inl lt ↦ lt
  | inr past ↦ absurd (omega (arith, get_or_past numbers i 0 past, e))
]

level_there : (numbers : List ℕ) (i k : ℕ) → 0 < k → get_or numbers i 0 ≡ k
    → option_map numbered (slice_get numbers i) ≡ Some (At k)
level_there numbers i k some e =
    ap (λ o. option_map numbered o) (slice_get-get_or numbers i 0 (there numbers i k some e))
    ∙ ap (λ n. Some (numbered n)) e ∙ ap Some (at_number k some)

pub deep : (graph : List (List ℕ)) (left heights numbers : List ℕ) (depth : ℕ)
    → Underway graph left heights numbers []
    → ((i : ℕ) → get_or numbers i 0 ≤ depth) → (0 < depth → HasNumber numbers depth)
    → IsDepth (λ node. option_map numbered (slice_get numbers node)) depth
deep graph left heights numbers depth w within has = record {
  within = λ node k e.
      let r = of_some (slice_get numbers node) k e in
      (r.3, omega (arith, within node, get_or_from_slice_get numbers node r.0 0 r.1, r.2));
  reached = λ k some le.
      let top = has (omega arith) in
      let in_graph : top.0 < length graph =
      omega (arith, there numbers top.0 depth (omega arith) top.1, w.numbers_len) in
      let found = reached (IsNode graph) (BuildsOn graph) (λ s. get_or numbers s 0)
      (finished graph left heights numbers w) depth top.0 in_graph top.1 k some le in
      (found.0, level_there numbers found.0 k some found.2);
}
