-- What is found in the shares is what is found of all sources.
use Rattle.std.proofs.Common.{◌≡◌, ℕ, ◌==◌, ◌&&◌, ◌||◌, Bool, true, false, List, [], ◌∷◌, length}
use Rattle.std.proofs.Common.{map, refl, sym, ap, ◌∙◌, arith}
use Rattle.std.specs.List.{flat_map, list_any, range_with_len}
use Rattle.std.proofs.Math.Nat.{mod-lt}
use Rattle.std.proofs.lemmas.Bool.{and_from, and_parts, eq-eqb}
use Rattle.std.proofs.lemmas.List.Concat.{flat_map-cons}
use Rattle.std.proofs.lemmas.List.Folds.{list_any-append}
use Rattle.td_text.proofs.Chain.{list_any-map}
use Rattle.td_indices.specs.Archive.{Contents}
use Rattle.td_plan.specs.declared.movers.Mover.{Mover}
use Rattle.td_plan.specs.declared.providers.Provider.{Provider}
use Rattle.td_plan.specs.declared.providers.Share.{Share}
use Rattle.td_plan.specs.inner.Providing.{AreShares, passes_of, share_of, shared_passes}
use Rattle.td_plan.specs.inner.Providing.{shared_under}
use Rattle.td_plan.proofs.Chosen.{any-again, any-found}
use Rattle.td_plan.proofs.Existing.{range-has}

-- two tests that pass alike
alike : (x y : Bool) → (x ≡ true → y ≡ true) → (y ≡ true → x ≡ true) → x ≡ y
alike true y to from = sym (to refl)
alike false true to from = from refl
alike false false to from = refl

-- some item of some list passes
pub any-flat : {X A : Type 0} (test : A → Bool) (f : X → List A) (xs : List X)
    → list_any test (flat_map f xs) ≡ list_any (λ x. list_any test (f x)) xs
any-flat test f [] = refl
any-flat test f (x ∷ xs) =
    ap (list_any test) (flat_map-cons f x xs) ∙ list_any-append test (f x) (flat_map f xs)
    ∙ ap (λ b. list_any test (f x) || b) (any-flat test f xs)

-- some number in some share passes if some number does
any-shares : (P : ℕ → Bool) (ns : List ℕ)
    → list_any (λ k. list_any (λ n. (share_of n == k) && P n) ns) (range_with_len 0 4)
    ≡ list_any P ns
any-shares P ns =
    let shared = λ (k n : ℕ). (share_of n == k) && P n in
    let in_share = λ (k : ℕ). list_any (shared k) ns in
    alike (list_any in_share (range_with_len 0 4)) (list_any P ns)
    (λ h.
    let share = any-found in_share (range_with_len 0 4) h in
    let one = any-found (shared share.0) ns share.2 in
    any-again P ns one.0 one.1 (and_parts _ _ one.2).1)
    (λ h.
    let one = any-found P ns h in
    let k = share_of one.0 in
    any-again in_share (range_with_len 0 4) k (range-has 4 k (mod-lt one.0 (omega arith)))
    (any-again (shared k) ns one.0 one.1 (and_from _ _ (eq-eqb k k refl) one.2)))

-- what is found in all shares are the packages of all sources that move and offer the name
pub of-all : (a : Contents) (ms : List Mover) (shares : List Share) → AreShares a ms shares
    → (q : List ℕ) (test : Provider → Bool)
    → list_any test (flat_map (λ (s : Share). shared_under s q) shares)
    ≡ list_any (passes_of a ms q test) (range_with_len 0 (length ms))
of-all a ms shares are q test =
    let within = range_with_len 0 (length ms) in
    let found = λ (s : Share). list_any test (shared_under s q) in
    let passes = λ (k : ℕ). list_any (shared_passes a ms q test k) within in
    any-flat test (λ (s : Share). shared_under s q) shares
    ∙ sym (list_any-map (λ b. b) found shares)
    ∙ ap (list_any (λ b. b)) (are q test)
    ∙ list_any-map (λ b. b) passes (range_with_len 0 4)
    ∙ any-shares (passes_of a ms q test) within
