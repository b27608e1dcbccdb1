-- The graph of who asks for whom, and the asks of the sources so far.
use Rattle.std.proofs.Common.{◌≡◌, ◌⊎◌, ℕ, zero, suc, ◌+◌, ◌<◌, ◌++◌, ◌∷◌, ◌∙◌, [], List, Some}
use Rattle.std.proofs.Common.{None}
use Rattle.std.proofs.Common.{get_or, length, map, slice_get, take, refl, sym, ap, subst, inl, inr}
use Rattle.std.proofs.Common.{arith}
use Rattle.std.specs.Global.{Vec}
use Rattle.std.specs.List.{All, Contains}
use Rattle.std.proofs.lemmas.List.{flat_map_more, get_or-map, length-map}
use Rattle.std.proofs.lemmas.List.Elements.{All-contains}
use Rattle.std.proofs.lemmas.Option.{slice_get_cases}
use Rattle.td_text.proofs.Chain.{some_is}
use Rattle.td_rows.proofs.Lists.{take-next}
use Rattle.td_indices.proofs.OfferLaws.{has_found}
use Rattle.td_waves.specs.Graph.{lists}
use Rattle.td_plan.specs.declared.asks.Ask.{Ask}
use Rattle.td_plan.specs.inner.Asking.{AreWithin, owners_of}
use Rattle.td_plan.specs.inner.Searching.{IsGraph}
use Rattle.td_plan.proofs.Chosen.{map-found}
use Rattle.td_plan.proofs.Turned.{edge-node, graph-from}

-- ---- 1. owners

-- the owners of a list of asks
abbrev pub owners_in : Vec Ask → List ℕ
owners_in list = map (λ (ask : Ask). ask.owner) list.items

owners-last : (asks : List (Vec Ask)) (list : Vec Ask)
    → owners_of asks ++ owners_in list ≡ owners_of (asks ++ list ∷ [])
owners-last asks list = flat_map_more owners_in [] asks list

-- the owners at one place more
pub owners-next : (asks : List (Vec Ask)) (n : ℕ) (list : Vec Ask) (old new : List ℕ)
    → slice_get asks n ≡ Some list → old ≡ owners_of (take n asks)
    → new ≡ old ++ owners_in list → new ≡ owners_of (take (n + 1) asks)
owners-next asks n list old new at was more =
    more ∙ ap (λ (l : List ℕ). l ++ owners_in list) was
    ∙ owners-last (take n asks) list
    ∙ sym (ap owners_of (take-next asks n list at))

-- the owners are within the limit of the asks
owners-within : (limit : ℕ) (asks : List (Vec Ask)) → AreWithin limit asks → (y : ℕ)
    → Contains (owners_of asks) y → y < limit
owners-within limit asks within y has =
    let list = has_found owners_in asks y has in
    let ask = map-found (λ (x : Ask). x.owner) list.0.items y list.2 in
    let low = All-contains (λ (x : Ask). x.owner < limit) list.0.items ask.0
    (All-contains (λ (l : Vec Ask). All (λ (x : Ask). x.owner < limit) l.items) asks list.0 within
    list.1) ask.1 in
    subst (λ (k : ℕ). k < limit) ask.2 low

-- ---- 2. the graph

-- a graph of the owners of asks that are within a limit
pub graph-within : (limit : ℕ) (all : List (Vec (Vec Ask))) (graph : List (Vec ℕ))
    → lists graph ≡ map (λ (asks : Vec (Vec Ask)). owners_of asks.items) all
    → All (λ (asks : Vec (Vec Ask)). AreWithin limit asks.items) all → IsGraph limit graph
graph-within limit all graph is within = graph-from limit graph (λ x y on.
    let owners = λ (asks : Vec (Vec Ask)). owners_of asks.items in
    let low : x < length all = omega (
      arith,
      edge-node graph x y on,
      length-map graph (λ (v : Vec ℕ). v.items),
      length-map all owners,
      ap length is,
    ) in
    elim (slice_get_cases all x).1 [
      | inl there ↦
          let here : get_or (lists graph) x [] ≡ owners (get_or all x there.0) =
          ap (λ (l : List (List ℕ)). get_or l x []) is ∙ get_or-map owners all x there.0 [] low in
          owners-within limit (get_or all x there.0).items (within x there.0 low) y
          (subst (λ (l : List ℕ). Contains l y) here on)
      | inr past ↦ absurd (omega (arith, past.0, low))
    ])

-- ---- 3. one item more

-- an item of a list with one more is of the list, or is the last
pub last-or : {A : Type 0} (xs : List A) (x y : A) (k : ℕ) → slice_get (xs ++ x ∷ []) k ≡ Some y
    → (slice_get xs k ≡ Some y) ⊎ ((k ≡ length xs) × (x ≡ y))
last-or [] x y zero at = inr (refl, some_is x y at)
last-or [] x y (suc k) at = absurd (let bad : None ≡ Some y = at in cc)
last-or (z ∷ xs) x y zero at = inl at
last-or (z ∷ xs) x y (suc k) at = elim (last-or xs x y k at) [
  | inl mine ↦ inl mine
  | inr last ↦ inr (omega (arith, last.0), last.1)
]
