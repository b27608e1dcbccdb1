-- What several threads made for numbers in a row: the item at each place is that of its number.
use Rattle.std.proofs.Common.{◌≡◌, ℕ, ◌+◌, zero, suc, List, [], ◌∷◌, None, Some, Result, Ok}
use Rattle.std.proofs.Common.{length, map, slice_get, refl, sym, ap, subst, ◌∙◌}
use Rattle.std.proofs.Common.{arith}
use Rattle.std.specs.Global.{Vec}
use Rattle.std.specs.List.{AllZip, list_any, range_with_len}
use Rattle.std.specs.declared.alloc.AllocError.{AllocError}
use Rattle.std.proofs.lemmas.List.{length-map}
use Rattle.std.proofs.lemmas.List.FromFn.{length-range_with_len}
use Rattle.std.proofs.lemmas.Option.{same_Some}
use Rattle.std.proofs.lemmas.Slice.Zip.{AllZip-long}
use Rattle.td_indices.specs.Archive.{Contents}
use Rattle.td_plan.specs.declared.asks.Ask.{Ask}
use Rattle.td_plan.specs.declared.movers.Mover.{Mover}
use Rattle.td_plan.specs.declared.providers.Share.{Share}
use Rattle.td_plan.specs.inner.Askers.{AreAllAsks, AreAsksAt}
use Rattle.td_plan.specs.inner.Providing.{AreInShare, AreShares, shared_passes, shared_under}

module _ {T : Type 0} (P : ℕ → Result T AllocError → Type 0) where
  -- the item at a place
  made-at : (from n : ℕ) (all : List T) → AllZip P (range_with_len from n) (map Ok all) → (k : ℕ)
      (v : T) → slice_get all k ≡ Some v → P (from + k) (Ok v)
  made-at from n [] made k v at = absurd (let bad : None ≡ Some v = at in cc)
  made-at from zero (w ∷ all) made k v at = absurd made
  made-at from (suc n) (w ∷ all) made zero v at =
      let own : from ≡ from + 0 = omega arith in
      subst (λ (j : ℕ). P j (Ok v)) own
      (subst (λ (x : T). P from (Ok x)) (same_Some w v at) made.0)
  made-at from (suc n) (w ∷ all) made (suc k) v at =
      let next : from + 1 + k ≡ from + suc k = omega arith in
      subst (λ (j : ℕ). P j (Ok v)) next (made-at (from + 1) n all made.1 k v at)

  -- the item at a place, if the numbers begin with 0
  pub made-for : (n : ℕ) (all : List T) → AllZip P (range_with_len 0 n) (map Ok all) → (k : ℕ)
      (v : T) → slice_get all k ≡ Some v → P k (Ok v)
  made-for n all made k v at =
      let own : 0 + k ≡ k = omega arith in
      subst (λ (j : ℕ). P j (Ok v)) own (made-at 0 n all made k v at)

  -- as many items as numbers
  pub made-len : (from n : ℕ) (all : List T) → AllZip P (range_with_len from n) (map Ok all)
      → length all ≡ n
  made-len from n all made =
      sym (length-map all Ok) ∙ AllZip-long P (range_with_len from n) (map Ok all) made
      ∙ length-range_with_len from n

  -- what is said of each item is what is said of its number
  pub made-alike : {B : Type 0} (f : T → B) (g : ℕ → B)
      → ((n : ℕ) (v : T) → P n (Ok v) → f v ≡ g n) → (ns : List ℕ) (all : List T)
      → AllZip P ns (map Ok all) → map f all ≡ map g ns
  made-alike f g so [] [] made = refl
  made-alike f g so [] (v ∷ all) made = absurd made
  made-alike f g so (n ∷ ns) [] made = absurd made
  made-alike f g so (n ∷ ns) (v ∷ all) made =
      let rest = made-alike f g so ns all made.1 in
      let own = so n v made.0 in
      λ i. own i ∷ rest i

-- what each of the affected sources asks for
pub asks-made : (a : Contents) (ms : List Mover)
    (P : ℕ → Result (Vec (Vec Ask)) AllocError → Type 0)
    → ((n : ℕ) (v : Vec (Vec Ask)) → P n (Ok v) → AreAsksAt a ms n v.items) → (ns : List ℕ)
    (all : List (Vec (Vec Ask))) → ns ≡ range_with_len 0 (length ms) → AllZip P ns (map Ok all)
    → AreAllAsks a ms all
asks-made a ms P so ns all is made =
    let whole = subst (λ (l : List ℕ). AllZip P l (map Ok all)) is made in
    record {
      len = made-len P 0 (length ms) all whole;
      at = λ k m asks here there. so k asks (made-for P (length ms) all whole k asks there) m here;
    }

-- what is found in each share
pub shares-made : (a : Contents) (ms : List Mover) (P : ℕ → Result Share AllocError → Type 0)
    → ((n : ℕ) (v : Share) → P n (Ok v) → AreInShare a ms n v) → (ns : List ℕ) (all : List Share)
    → ns ≡ range_with_len 0 4 → AllZip P ns (map Ok all) → AreShares a ms all
shares-made a ms P so ns all is made = λ q test.
    made-alike P (λ (s : Share). list_any test (shared_under s q))
    (λ (k : ℕ). list_any (shared_passes a ms q test k) (range_with_len 0 (length ms)))
    (λ n v h. so n v h q test) ns all made
    ∙ ap (map (λ (k : ℕ). list_any (shared_passes a ms q test k) (range_with_len 0 (length ms)))) is
