-- What is asked for at each place, ask by ask.
use Rattle.std.proofs.Common.{◌≡◌, ◌≢◌, ◌⊎◌, ℕ, ◌+◌, ◌<◌, ◌==◌, ◌&&◌, ◌||◌, Bool, true, false, List}
use Rattle.std.proofs.Common.{[], ◌∷◌, ◌++◌, length, get_or, map, nat_lt, set, sym, ap, subst, ◌∙◌}
use Rattle.std.proofs.Common.{inl, inr, get_or-set_other}
use Rattle.std.specs.Global.{Vec}
use Rattle.std.specs.List.{Contains, list_any}
use Rattle.std.proofs.Math.Bool.{or-false, or_assoc}
use Rattle.std.proofs.lemmas.Bool.Decides.{eqb_tells}
use Rattle.std.proofs.lemmas.Grind.{get_or-set_at}
use Rattle.std.proofs.lemmas.List.{get_or-map, length-map, map-set}
use Rattle.std.proofs.lemmas.List.Elements.{Contains-get_or}
use Rattle.td_text.proofs.Anywhere.{any-push}
use Rattle.td_waves.proofs.Passing.{next_below}
use Rattle.td_plan.specs.declared.asks.Ask.{Ask}
use Rattle.td_plan.specs.inner.Asking.{AreWithin, asks_at}

-- ---- one ask more

entered : (us : List (List Ask)) (b : ℕ) (ask : Ask) (new : List Ask) → b < length us
    → new ≡ get_or us b [] ++ ask ∷ [] → (k : ℕ) (test : Ask → Bool)
    → list_any test (get_or (set us b new) k [])
    ≡ (list_any test (get_or us k []) || ((b == k) && test ask))
entered us b ask new h e k test = elim (eqb_tells b k) [
  | inl p ↦
      let at : get_or (set us b new) k [] ≡ new = get_or-set_at us b k new [] (sym p.1) h in
      rw p.0 (ap (list_any test) (at ∙ e) ∙ any-push test (get_or us b []) ask
      ∙ ap (λ (j : ℕ). list_any test (get_or us j []) || test ask) p.1)
  | inr p ↦
      let at : get_or (set us b new) k [] ≡ get_or us k [] =
      get_or-set_other us b k new [] (λ q. p.1 (sym q)) in
      rw p.0 (ap (list_any test) at ∙ sym (or-false (list_any test (get_or us k []))))
]

pub asks-entered : (vs : List (Vec Ask)) (b : ℕ) (old new : Vec Ask) (ask : Ask) → b < length vs
    → old ≡ get_or vs b old → new.items ≡ old.items ++ ask ∷ [] → (k : ℕ) (test : Ask → Bool)
    → list_any test (asks_at (set vs b new) k)
    ≡ (list_any test (asks_at vs k) || ((b == k) && test ask))
asks-entered vs b old new ask h is e k test =
    let items = λ (v : Vec Ask). v.items in
    let was : asks_at vs b ≡ old.items = get_or-map items vs b old [] h ∙ ap items (sym is) in
    let becomes : new.items ≡ asks_at vs b ++ ask ∷ [] = e
    ∙ ap (λ (l : List Ask). l ++ ask ∷ []) (sym was) in
    ap (λ (us : List (List Ask)). list_any test (get_or us k [])) (map-set items vs b new)
    ∙ entered (map items vs) b ask new.items (rw length-map h) becomes k test

-- one list in place of another
pub asks-set : (vs : List (Vec Ask)) (b : ℕ) (new : Vec Ask) → b < length vs → (k : ℕ)
    → ((b ≡ k) × (asks_at (set vs b new) k ≡ new.items))
    ⊎ ((b ≢ k) × (asks_at (set vs b new) k ≡ asks_at vs k))
asks-set vs b new low k =
    let items = λ (v : Vec Ask). v.items in
    let us : List (List Ask) = map items vs in
    let all : asks_at (set vs b new) k ≡ get_or (set us b new.items) k [] =
    ap (λ (l : List (List Ask)). get_or l k []) (map-set items vs b new) in
    elim (eqb_tells b k) [
      | inl p ↦ inl (p.1, all ∙ get_or-set_at us b k new.items [] (sym p.1) (rw length-map low))
      | inr p ↦ inr (p.1, all ∙ get_or-set_other us b k new.items [] (λ q. p.1 (sym q)))
    ]

-- a test of the places so far, with one place more
pub next-asked : (k n : ℕ) (F : ℕ → Bool) (now before start : Bool)
    → now ≡ (before || ((n == k) && F n)) → before ≡ (start || (nat_lt k n && F k))
    → now ≡ (start || (nat_lt k (n + 1) && F k))
next-asked k n F now before start e was =
    e ∙ ap (λ (b : Bool). b || ((n == k) && F n)) was
    ∙ or_assoc start (nat_lt k n && F k) ((n == k) && F n)
    ∙ ap (λ (b : Bool). start || b) (next_below k n F)

-- a place at which nothing is asked for
pub none-asked : (now : Bool) (mine here : Bool) → here ≡ false → now ≡ (now || (mine && here))
none-asked now true here e = sym (ap (λ (b : Bool). now || b) e ∙ or-false now)
none-asked now false here e = sym (or-false now)

-- ---- all are within a limit

pub within-each : (limit : ℕ) (vs : List (Vec Ask))
    → ((place : ℕ) (ask : Ask) → place < length vs → Contains (asks_at vs place) ask
    → ask.owner < limit) → AreWithin limit vs
within-each limit vs each = λ k d low i e inside.
    let here : asks_at vs k ≡ (get_or vs k d).items =
    get_or-map (λ (v : Vec Ask). v.items) vs k d [] low in
    let list = (get_or vs k d).items in
    each k (get_or list i e) low (subst (λ (l : List Ask). Contains l (get_or list i e)) (sym here)
    (Contains-get_or list i e inside))
