-- The rows that an arrival or a sweep changes: no builder has one, and none is offered.
use Rattle.std.proofs.Common.{◌≡◌, ℕ, ◌+◌, Bool, true, false, List, [], ◌∷◌, ◌++◌, Option}
use Rattle.std.proofs.Common.{Some, None, if◌then◌else◌, map, filter, take, slice_get, ap, refl}
use Rattle.std.proofs.Common.{sym, ◌∙◌}
use Rattle.std.specs.Ordering.{is_lt}
use Rattle.std.proofs.lemmas.Bool.{and_parts, and_from}
use Rattle.td_rows.specs.declared.key.Key.{Key}
use Rattle.td_rows.specs.declared.row.Row.{Row}
use Rattle.td_rows.specs.declared.state.State.{State}
use Rattle.td_rows.specs.declared.state.State.TheVariants.{NeedsBuild, Installed}
use Rattle.td_rows.specs.declared.kind.Kind.TheVariants.{Sweep}
use Rattle.td_rows.specs.Keys.{same_key, names, key_cmp, below_all, ascending}
use Rattle.td_rows.specs.Meaning.{applies}
use Rattle.td_rows.specs.States.{is_coming, is_waiting}
use Rattle.td_rows.specs.Table.{Table, row_of, keys_of, AppliesOn}
use Rattle.td_rows.proofs.Lists.{take-next}
use Rattle.td_rows.proofs.Tables.{row_of-below}
use Rattle.td_supply.specs.Supply.{SupplyView}
use Rattle.td_core.specs.declared.step.Phase.{Phase}
use Rattle.td_core.specs.declared.step.Phase.TheVariants.{Closed, Open, Held, Noted, Done}
use Rattle.td_core.specs.Offers.{is_freed, freed}
use Rattle.td_core.specs.Phases.{Suits}

-- a row that has arrived was closed
pub suits-arrive : (p : Phase) (s : State) → is_coming s ≡ true → Suits p s → Suits p Installed
suits-arrive Closed s h suits = refl
suits-arrive Open s h suits = let bad = sym h ∙ ap is_coming suits in cc
suits-arrive (Held b) s h suits = let bad = sym h ∙ ap is_coming suits in cc
suits-arrive (Noted b) s h suits = let bad = sym h ∙ ap is_coming suits in cc
suits-arrive (Done b o) s h suits = let bad = sym h ∙ ap is_coming suits in cc

-- and so was one that waits
pub suits-sweep : (p : Phase) (s : State) → is_waiting s ≡ true → Suits p s → Suits p NeedsBuild
suits-sweep Closed s h suits = refl
suits-sweep Open s h suits = refl
suits-sweep (Held b) s h suits = refl
suits-sweep (Noted b) s h suits = let bad = sym h ∙ ap is_waiting suits in cc
suits-sweep (Done b o) s h suits = let bad = sym h ∙ ap is_waiting suits in cc

-- a freed row waits
pub waits-freed : (s : SupplyView) (p : Key × Row) → is_freed s p ≡ true
    → is_waiting p.1.state ≡ true
waits-freed s p h = (and_parts (is_waiting p.1.state) _ h).0

abbrev told : Option Row → Bool
told o = elim o as (λ _. Bool) [ Some row ↦ applies Sweep row | None ↦ false ]

-- a sweep applies on each row that is freed
pub AppliesOn-freed : (s : SupplyView) (t : Table) → ascending (keys_of t) ≡ true
    → AppliesOn t Sweep (freed s t)
AppliesOn-freed s [] up k named = cc
AppliesOn-freed s (p ∷ t) up k named =
    let parts = and_parts (below_all p.0 (keys_of t)) (ascending (keys_of t)) up in
    let below = parts.0 in
    let rest = AppliesOn-freed s t parts.1 k in
    elim (same_key k p.0) as (λ c.
    same_key k p.0 ≡ c → told (if c then Some p.1 else row_of t k) ≡ true) [
      | true ↦
          λ is. elim (is_freed s p) as (λ b.
          is_freed s p ≡ b → names
          (map (λ (x : Key × Row). x.0)
          (if b then p ∷ filter (is_freed s) t else filter (is_freed s) t)) k ≡ true
          → is_waiting p.1.state ≡ true) [
            | true ↦ λ free _. waits-freed s p free
            | false ↦
                λ _ later. absurd
                (let bad = sym (rest later) ∙ ap told (row_of-below p.0 k t below is) in cc)
          ] refl named
      | false ↦
          λ is. rest (elim (is_freed s p) as (λ b.
          names (map (λ (x : Key × Row). x.0)
          (if b then p ∷ filter (is_freed s) t else filter (is_freed s) t)) k ≡ true
          → names (freed s t) k ≡ true) [
            | true ↦ λ later. sym (ap (λ c. if c then true else names (freed s t) k) is) ∙ later
            | false ↦ λ later. later
          ] named)
    ] refl

-- the key of the first row names none of the others
pub absent-freed : (s : SupplyView) (p : Key × Row) (t : Table) (k : Key)
    → below_all p.0 (keys_of t) ≡ true → ascending (keys_of t) ≡ true → same_key k p.0 ≡ true
    → names (freed s t) k ≡ true → ⊥
absent-freed s p t k below up is later =
    let bad = sym (AppliesOn-freed s t up k later) ∙ ap told (row_of-below p.0 k t below is) in cc

below_all-freed : (s : SupplyView) (x : Key) (t : Table) → below_all x (keys_of t) ≡ true
    → below_all x (freed s t) ≡ true
below_all-freed s x [] h = refl
below_all-freed s x (p ∷ t) h =
    let parts = and_parts (is_lt (key_cmp x p.0)) (below_all x (keys_of t)) h in
    let rest = below_all-freed s x t parts.1 in
    elim (is_freed s p) as (λ b.
    below_all x (map (λ (y : Key × Row). y.0)
    (if b then p ∷ filter (is_freed s) t else filter (is_freed s) t)) ≡ true) [
      | true ↦ and_from (is_lt (key_cmp x p.0)) (below_all x (freed s t)) parts.0 rest
      | false ↦ rest
    ]

-- the keys of the freed rows rise
pub ascending-freed : (s : SupplyView) (t : Table) → ascending (keys_of t) ≡ true
    → ascending (freed s t) ≡ true
ascending-freed s [] up = refl
ascending-freed s (p ∷ t) up =
    let parts = and_parts (below_all p.0 (keys_of t)) (ascending (keys_of t)) up in
    let rest = ascending-freed s t parts.1 in
    elim (is_freed s p) as (λ b.
    ascending (map (λ (y : Key × Row). y.0)
    (if b then p ∷ filter (is_freed s) t else filter (is_freed s) t)) ≡ true) [
      | true ↦
          and_from (below_all p.0 (freed s t)) (ascending (freed s t))
          (below_all-freed s p.0 t parts.0) rest
      | false ↦ rest
    ]

-- one more row
freed-push : (s : SupplyView) (t : Table) (p : Key × Row)
    → freed s (t ++ p ∷ []) ≡ freed s t ++ (if is_freed s p then p.0 ∷ [] else [])
freed-push s [] p =
    elim (is_freed s p) as (λ b.
    map (λ (x : Key × Row). x.0) (if b then p ∷ [] else []) ≡ (if b then p.0 ∷ [] else [])) [
      | true ↦
          refl
      | false ↦ refl
    ]
freed-push s (q ∷ t) p =
    elim (is_freed s q) as (λ b.
    map (λ (x : Key × Row). x.0)
    (if b then q ∷ filter (is_freed s) (t ++ p ∷ []) else filter (is_freed s) (t ++ p ∷ []))
    ≡ map (λ (x : Key × Row). x.0) (if b then q ∷ filter (is_freed s) t else filter (is_freed s) t)
    ++ (if is_freed s p then p.0 ∷ [] else [])) [
      | true ↦ ap (λ (ks : List Key). q.0 ∷ ks) (freed-push s t p)
      | false ↦ freed-push s t p
    ]

pub freed-next : (s : SupplyView) (t : Table) (n : ℕ) (p : Key × Row) → slice_get t n ≡ Some p
    → freed s (take (n + 1) t) ≡ freed s (take n t) ++ (if is_freed s p then p.0 ∷ [] else [])
freed-next s t n p at = ap (freed s) (take-next t n p at) ∙ freed-push s (take n t) p
