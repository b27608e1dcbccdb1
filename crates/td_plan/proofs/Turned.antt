-- A graph turned around, from how often each number is in its lists.
use Rattle.std.proofs.Common.{◌≡◌, ◌<◌, ℕ, [], List, length, get_or, sym, subst, arith}
use Rattle.std.specs.Global.{Vec}
use Rattle.std.specs.List.{Contains}
use Rattle.std.proofs.lemmas.Bool.{cases_lt}
use Rattle.std.proofs.Common.{inl, inr}
use Rattle.std.proofs.lemmas.List.{get_or-map, get_or_past, length-map}
use Rattle.std.proofs.lemmas.List.Elements.{Contains-get_or}
use Rattle.td_waves.specs.Graph.{BuildsOn, IsNode, bases_of, lists, uses}
use Rattle.td_waves.proofs.Counting.{contains, used}
use Rattle.td_waves.proofs.Underway.{all_in_range}
use Rattle.td_plan.specs.inner.Searching.{AreTurned, IsGraph}

pub lists-len : (graph : List (Vec ℕ)) → length (lists graph) ≡ length graph
lists-len graph = length-map graph (λ (v : Vec ℕ). v.items)

-- the list of a node
pub lists-at : (graph : List (Vec ℕ)) (n : ℕ) (d : Vec ℕ) → n < length graph
    → bases_of (lists graph) n ≡ (get_or graph n d).items
lists-at graph n d lt = get_or-map (λ (v : Vec ℕ). v.items) graph n d [] lt

-- an edge leads from a node
pub edge-node : (graph : List (Vec ℕ)) (x y : ℕ) → BuildsOn (lists graph) x y → x < length graph
edge-node graph x y on = elim (cases_lt x (length graph)) [
  | inl lt ↦ lt
  | inr past ↦
      let none : bases_of (lists graph) x ≡ [] =
      get_or_past (lists graph) x [] (omega (arith, past, lists-len graph)) in
      let nowhere : Contains [] y = subst (λ xs. Contains xs y) none on in
      absurd (omega (arith, nowhere.1))
]

-- an edge leads to a node
pub edges-within : (graph : List (Vec ℕ)) → IsGraph (length graph) graph → (x y : ℕ)
    → BuildsOn (lists graph) x y → IsNode (lists graph) y
edges-within graph within x y on =
    omega (arith, all_in_range graph (length graph) within x y on, lists-len graph)

-- lists that have only numbers below a count are a graph with that count
pub graph-from : (count : ℕ) (graph : List (Vec ℕ))
    → ((x y : ℕ) → BuildsOn (lists graph) x y → y < count) → IsGraph count graph
graph-from count graph within = λ k d lt j e at.
    let bases = (get_or graph k d).items in
    within k (get_or bases j e) (subst (λ xs. Contains xs (get_or bases j e))
    (sym (lists-at graph k d lt)) (Contains-get_or bases j e at))

module _ (graph users : List (Vec ℕ)) (within : IsGraph (length graph) graph)
    (count : length users ≡ length graph)
    (same : (x t : ℕ) → uses x (bases_of (lists users) t) ≡ uses t (bases_of (lists graph) x))
  where
    back : (x y : ℕ) → BuildsOn (lists users) y x → BuildsOn (lists graph) x y
    back x y on = contains (bases_of (lists graph) x) y
        (omega (arith, same x y, used (bases_of (lists users) y) x on))

    there : (x y : ℕ) → BuildsOn (lists graph) x y → BuildsOn (lists users) y x
    there x y on = contains (bases_of (lists users) y) x
        (omega (arith, same x y, used (bases_of (lists graph) x) y on))

    pub are-turned : AreTurned graph users
    are-turned = record {
      bases = within;
      back = graph-from (length users) users
          (λ y x on. omega (arith, count, edge-node graph x y (back x y on)));
      count = count;
      turned = λ x y. (back x y, there x y);
    }
