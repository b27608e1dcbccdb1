-- How often a number stands in a list.
use Rattle.std.proofs.Common.{◌≡◌, ℕ, ◌+◌, ◌<◌, ◌==◌, zero, suc, eq-eqb}
use Rattle.std.proofs.Common.{nat_lt, Bool, true, false, List, [], ◌∷◌, ◌++◌, length, take}
use Rattle.std.proofs.Common.{set, get_or, if◌then◌else◌, refl, sym, ap, ◌∙◌, inl, inr, arith}
use Rattle.std.proofs.Common.{get_or-set_other}
use Rattle.std.proofs.Math.Dec.{eqb-suc-zero}
use Rattle.std.specs.Global.{Vec}
use Rattle.std.proofs.lemmas.Bool.{cases_lt, lt-ltb, le-ltb}
use Rattle.std.proofs.lemmas.Bool.Decides.{eqb_tells}
use Rattle.std.proofs.lemmas.Grind.{get_or-set_at}
use Rattle.std.proofs.lemmas.List.{map-set, get_or-map, length-map}
use Rattle.std.proofs.lemmas.List.Sums.{sum_by_push, sum_by_more}
use Rattle.td_waves.specs.Graph.{bases_of, lists, uses}

-- 1 for the number itself
abbrev pub one : ℕ → ℕ → ℕ
one x y = if y == x then 1 else 0

pub uses-push : (x : ℕ) (xs : List ℕ) (n : ℕ) → uses x (xs ++ n ∷ []) ≡ uses x xs + one x n
uses-push x xs n = sum_by_push (one x) xs n

pub uses-more : (t : ℕ) (xs : List ℕ) (i : ℕ) → i < length xs
    → uses t (take (i + 1) xs) ≡ uses t (take i xs) + one t (get_or xs i 0)
uses-more t xs i h = sum_by_more (one t) xs i 0 h

pub nothing : (c : Bool) → ◌≡◌ {A = ℕ} (if c then 0 else 0) 0
nothing true = refl
nothing false = refl

-- a list after one more
pub entered : (us : List (List ℕ)) (b n : ℕ) (new : List ℕ) → b < length us
    → new ≡ bases_of us b ++ n ∷ [] → (x t : ℕ)
    → uses x (bases_of (set us b new) t) ≡ uses x (bases_of us t) + (if n == x then one t b else 0)
entered us b n new h e x t = elim (eqb_tells b t) [
  | inl p ↦
      let at : bases_of (set us b new) t ≡ new = get_or-set_at us b t new [] (sym p.1) h in
      rw p.0 (ap (λ l. uses x l) (at ∙ e) ∙ uses-push x (bases_of us b) n
      ∙ ap (λ k. uses x (bases_of us k) + one x n) p.1)
  | inr p ↦
      let at : bases_of (set us b new) t ≡ bases_of us t =
      get_or-set_other us b t new [] (λ q. p.1 (sym q)) in
      let none = nothing (n == x) in
      rw (p.0, at, none) (omega arith)
]

-- the same of a vector of vectors
pub lists-entered : (vs : List (Vec ℕ)) (b n : ℕ) (old new : Vec ℕ) → b < length vs
    → old ≡ get_or vs b old → new.items ≡ old.items ++ n ∷ []
    → (x t : ℕ) → uses x (bases_of (lists (set vs b new)) t) ≡ uses x (bases_of (lists vs) t)
    + (if n == x then one t b else 0)
lists-entered vs b n old new h is e x t =
    let was : bases_of (lists vs) b ≡ old.items = get_or-map (λ (v : Vec ℕ). v.items) vs b old [] h
    ∙ ap (λ (v : Vec ℕ). v.items) (sym is) in
    let becomes : new.items ≡ bases_of (lists vs) b ++ n ∷ [] = e
    ∙ ap (λ l. l ++ n ∷ []) (sym was) in
    ap (λ us. uses x (bases_of us t)) (map-set (λ (v : Vec ℕ). v.items) vs b new)
    ∙ entered (lists vs) b n new.items (rw length-map h) becomes x t

-- a loop that adds a number at each place has added those of the places so far
pub next_node : (x n : ℕ) (f : ℕ → ℕ) (old new here : ℕ) → new ≡ old + (if n == x then here else 0)
    → here ≡ f n → old ≡ (if nat_lt x n then f x else 0)
    → new ≡ (if nat_lt x (n + 1) then f x else 0)
next_node x n f old new here e is was = elim (eqb_tells n x) [
  | inl p ↦
      let from = rw (le-ltb x n (omega (arith, p.1))) at was in
      let more = rw p.0 at e in
      let same : here ≡ f x = is ∙ ap f p.1 in
      rw (lt-ltb x (n + 1) (omega (arith, p.1))) (omega arith)
  | inr p ↦
      let more = rw p.0 at e in
      elim (cases_lt x n) [
        | inl below ↦ let so_far = rw (lt-ltb x n below) at was in
            rw (lt-ltb x (n + 1) (omega arith)) (omega arith)
        | inr from ↦ let so_far = rw (le-ltb x n from) at was in
            rw (le-ltb x (n + 1) (omega (arith, p.1))) (omega arith)
      ]
]

pub one_same : (x : ℕ) → one x x ≡ 1
one_same x = rw (eq-eqb x x refl) refl

pub not_zero : (n : ℕ) → (n ≡ 0 → ⊥) → (n == 0) ≡ false
not_zero zero h = absurd (h refl)
not_zero (suc n) h = eqb-suc-zero n

pub more_of_none : (n : ℕ) (b : Bool) → n ≡ n + (if b then 0 else 0)
more_of_none n true = omega arith
more_of_none n false = omega arith
