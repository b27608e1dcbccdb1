-- Values at the places of nodes: one node more, and flags.
use Rattle.std.proofs.Common.{◌≡◌, ◌⊎◌, ◌+◌, ◌<◌, ◌++◌, ◌∷◌, [], ◌∙◌, ℕ, Bool, true, false}
use Rattle.std.proofs.Common.{List, length, set, get_or, take, inl, inr, refl, sym, subst}
use Rattle.std.proofs.Common.{arith}
use Rattle.std.proofs.Common.{get_or-set_same, get_or-set_other}
use Rattle.std.specs.List.{Contains}
use Rattle.std.proofs.lemmas.Bool.{cases_lt, cases_eq, false≢true}
use Rattle.std.proofs.lemmas.List.{get_or_past, take_more}
use Rattle.std.proofs.lemmas.List.Elements.{Contains-push, Contains-push_cases}
use Rattle.std.proofs.lemmas.List.Elements.{Contains-append_left}
use Rattle.td_plan.specs.inner.Lists.{AreSetTo, IsSet}

-- ---- 1. a loop over the nodes

pub set-none : {V : Type 0} (other value : V) (old : List V) → AreSetTo [] other value old old
set-none other value old = λ n. inr ((λ mine. omega (arith, mine.1)), refl)

module _ {V : Type 0} (nodes : List ℕ) (other value : V) (old now : List V)
    (so : AreSetTo nodes other value old now) (m : ℕ) (lt : m < length now) where
  set-other : (n : ℕ) → ¬ (n ≡ m)
      → (Contains nodes n × (get_or now n other ≡ value))
      ⊎ ((¬ Contains nodes n) × (get_or now n other ≡ get_or old n other))
      → (Contains (nodes ++ m ∷ []) n × (get_or (set now m value) n other ≡ value))
      ⊎ ((¬ Contains (nodes ++ m ∷ []) n)
      × (get_or (set now m value) n other ≡ get_or old n other))
  set-other n apart (inl mine) = inl (
    Contains-append_left nodes (m ∷ []) n mine.0,
    get_or-set_other now m n value other apart ∙ mine.1,
  )
  set-other n apart (inr free) = inr (
    (λ has. elim (Contains-push_cases nodes m n has) [
      | inl mine ↦ free.0 mine
      | inr same ↦ apart (sym same)
    ]),
    get_or-set_other now m n value other apart ∙ free.1,
  )

  pub set-push : AreSetTo (nodes ++ m ∷ []) other value old (set now m value)
  set-push = λ n. elim (cases_eq n m) [
    | inl same ↦ inl (
      subst (λ k. Contains (nodes ++ m ∷ []) k) (sym same) (Contains-push nodes m),
      subst (λ k. get_or (set now m value) k other ≡ value) (sym same)
          (get_or-set_same now m value other lt),
    )
    | inr apart ↦ set-other n apart (so n)
  ]

-- one node more has the value, by the places of a list
pub set-more : {V : Type 0} (nodes : List ℕ) (other value : V) (old now : List V) (i : ℕ)
    → i < length nodes → AreSetTo (take i nodes) other value old now
    → get_or nodes i 0 < length now
    → AreSetTo (take (i + 1) nodes) other value old (set now (get_or nodes i 0) value)
set-more nodes other value old now i lt so low =
    subst (λ ns. AreSetTo ns other value old (set now (get_or nodes i 0) value))
    (sym (take_more nodes i 0 lt))
    (set-push (take i nodes) other value old now so (get_or nodes i 0) low)

-- ---- 2. flags

-- a flag that is set has its place
pub set-within : (flags : List Bool) (n : ℕ) → IsSet flags n → n < length flags
set-within flags n is = elim (cases_lt n (length flags)) [
  | inl lt ↦ lt
  | inr past ↦ absurd (false≢true (sym (get_or_past flags n false past) ∙ is))
]

-- the flags of the nodes are set, and no others if none was set
module _ (nodes : List ℕ) (old now : List Bool) (so : AreSetTo nodes false true old now) where
  pub set-mine : (n : ℕ) → Contains nodes n → IsSet now n
  set-mine n mine = elim (so n) [
    | inl here ↦ here.1
    | inr free ↦ absurd (free.0 mine)
  ]

  pub mine-set : ((n : ℕ) → ¬ IsSet old n) → (n : ℕ) → IsSet now n → Contains nodes n
  mine-set none n is = elim (so n) [
    | inl here ↦ here.0
    | inr free ↦ absurd (none n (sym free.1 ∙ is))
  ]

-- no flag is set once those of the nodes are cleared
pub none-set : (nodes : List ℕ) (old now : List Bool) → AreSetTo nodes false false old now
    → ((n : ℕ) → IsSet old n → Contains nodes n) → (n : ℕ) → ¬ IsSet now n
none-set nodes old now so mine n is = elim (so n) [
  | inl here ↦ false≢true (sym here.1 ∙ is)
  | inr free ↦ free.0 (mine n (sym free.1 ∙ is))
]
