-- The numbers that the lists of a graph have.
use Rattle.std.proofs.Common.{◌≡◌, ◌<◌, ◌&&◌, ◌==◌, ℕ, Bool, true, List, [], length, get_or}
use Rattle.std.proofs.Common.{nat_lt, refl, sym, ap, ◌∙◌, arith}
use Rattle.std.specs.Global.{Vec}
use Rattle.std.proofs.lemmas.Bool.{and_parts, eq-eqb, ltb-true}
use Rattle.std.proofs.lemmas.List.{get_or-map}
use Rattle.td_waves.specs.Asking.{has}
use Rattle.td_waves.specs.Graph.{bases_of, lists}
use Rattle.td_waves.proofs.Passing.{any-at}

-- what the lists have is in range
pub in_range : (P : ℕ → ℕ → Bool) (graph : List (Vec ℕ)) (n : ℕ) → length graph ≡ n
    → ((s t : ℕ) → s < n → has t (bases_of (lists graph) s) ≡ (nat_lt t n && P s t))
    → (k : ℕ) (d : Vec ℕ) → k < length graph → (i e : ℕ) → i < length (get_or graph k d).items
    → get_or (get_or graph k d).items i e < length graph
in_range P graph n len edges k d lt i e at =
    let xs = (get_or graph k d).items in
    let b = get_or xs i e in
    let its : bases_of (lists graph) k ≡ xs = get_or-map (λ (v : Vec ℕ). v.items) graph k d [] lt in
    let here : has b xs ≡ true = any-at (λ x. x == b) xs i e at (eq-eqb b b refl) in
    let both : (nat_lt b n && P k b) ≡ true = sym (edges k b (omega (arith, lt, len)))
    ∙ ap (has b) its ∙ here in
    omega (arith, len, ltb-true b n (and_parts (nat_lt b n) (P k b) both).0)
