-- `levels`: the clauses `levels` and `depth`, its loop and its calls.
use Rattle.std.proofs.Common.{◌≡◌, ◌≤◌, ◌<◌, ◌++◌, ◌∷◌, [], ℕ, List, sym, ap, subst, ◌∙◌, refl}
use Rattle.std.proofs.Common.{length, replicate, get_or, set, if◌then◌else◌, ◌==◌}
use Rattle.std.proofs.Common.{arith}
use Rattle.std.specs.Global.{Vec}
use Rattle.std.proofs.lemmas.List.{length-map, get_or-map, get_or_default}
use Rattle.td_waves.specs.Graph.{bases_of, lists, uses, raised}
use Rattle.td_waves.specs.Levelling.{HasNumber}
use Rattle.td_waves.proofs.Depths.{deep}
use Rattle.td_waves.proofs.Counting.{closed, fewer}
use Rattle.td_waves.proofs.Underway.{Underway, taken, in_list, is_zero, tall, Placed}
use Rattle.td_waves.proofs.Underway.{placed_next, stands, started, all_in_range}
use Rattle.td_waves.proofs.placing.levels.Goals as goal

pub loop-node-init : goal.loop-node-init
loop-node-init c =
    let graph = c.args.graph.now in
    let size : length (lists graph) ≡ length graph = length-map graph (λ (v : Vec ℕ). v.items) in
    started (lists graph) c.in_ok-left.left.items c.in_ok-heights.heights.items
    c.in_ok-numbers.numbers.items c.in_ok-ready.ready.items
    c.in_ok-left.ensures
    (c.in_ok-heights.ensures.items_if_clones_equal (λ y e. e) ∙ ap (λ n. replicate n 1) (sym size))
    (c.in_ok-numbers.ensures.items_if_clones_equal (λ y e. e) ∙ ap (λ n. replicate n 0) (sym size))
    (λ s. c.in_ok-ready.ensures s
    ∙ ap (λ l. if get_or l s 1 == 0 then 1 else 0) c.deref.ensures.value)
    (λ s y has. omega (arith, all_in_range graph (length graph) c.requires s y has, size))

-- the node that is taken
took : (graph : List (List ℕ)) (left heights numbers ready rest : List ℕ) (node : ℕ)
    → Underway graph left heights numbers ready → ready ≡ rest ++ node ∷ []
    → Underway graph left heights numbers (rest ++ node ∷ [])
took graph left heights numbers ready rest node w e =
    subst (λ r. Underway graph left heights numbers r) e w

in_graph : (graph : List (List ℕ)) (left heights numbers rest : List ℕ) (node : ℕ)
    → Underway graph left heights numbers (rest ++ node ∷ []) → node < length graph
in_graph graph left heights numbers rest node w =
    omega (
      arith,
      in_list numbers node (taken graph left heights numbers rest node w).unplaced,
      w.numbers_len,
    )

-- a step of the loop, over plain variables
count_fits : (graph : List (List ℕ)) (left heights numbers rest users : List ℕ) (node : ℕ)
    → Underway graph left heights numbers (rest ++ node ∷ []) → ((x : ℕ)
    → uses x users ≡ uses node (bases_of graph x)) → (s : ℕ) → uses s users ≤ get_or left s 0
count_fits graph left heights numbers rest users node w users_are s =
    let t = taken graph left heights numbers rest node w in
    omega (
      arith,
      users_are s,
      w.waiting s,
      closed numbers node 1 (bases_of graph s) t.unplaced
          (omega arith) (in_list numbers node t.unplaced),
    )

level_fits : (graph : List (List ℕ)) (left heights numbers rest : List ℕ) (node : ℕ)
    → Underway graph left heights numbers (rest ++ node ∷ []) → get_or heights node 0 ≤ length graph
level_fits graph left heights numbers rest node w =
    let t = taken graph left heights numbers rest node w in
    omega (
      arith,
      w.bound node,
      fewer numbers node 1 (is_zero numbers node t.unplaced) (omega arith)
          (in_list numbers node t.unplaced),
    )

its_users : (users : List (Vec ℕ)) (graph : List (List ℕ)) (node : ℕ) (v : Vec ℕ) (list : List ℕ)
    → node < length users → v ≡ get_or users node v → list ≡ v.items
    → ((x t : ℕ) → uses x (bases_of (lists users) t) ≡ uses t (bases_of graph x)) → (x : ℕ)
    → uses x list ≡ uses node (bases_of graph x)
its_users users graph node v list lt is e same x =
    ap (uses x) (e ∙ ap (λ (v : Vec ℕ). v.items) is
    ∙ sym (get_or-map (λ (v : Vec ℕ). v.items) users node v [] lt)) ∙ same x node

read_any : (xs : List ℕ) (i x : ℕ) → x ≡ get_or xs i x → i < length xs → get_or xs i 0 ≡ x
read_any xs i x e lt = get_or_default xs i 0 x lt ∙ sym e

pub index-level-requires : goal.index-level-requires
index-level-requires c =
    let w = took (lists c.args.graph.now) c.loop-node.left.items c.loop-node.heights.items
    c.loop-node.numbers.items c.loop-node.ready.items c.pop.new.self.items c.in-Some.node
    c.loop-node.invariant c.in-Some.ensures.items in
    omega (
      arith,
      in_graph (lists c.args.graph.now) c.loop-node.left.items c.loop-node.heights.items
          c.loop-node.numbers.items c.pop.new.self.items c.in-Some.node w,
      w.heights_len,
    )

pub index_mut-requires : goal.index_mut-requires
index_mut-requires c =
    let w = took (lists c.args.graph.now) c.loop-node.left.items c.loop-node.heights.items
    c.loop-node.numbers.items c.loop-node.ready.items c.pop.new.self.items c.in-Some.node
    c.loop-node.invariant c.in-Some.ensures.items in
    omega (
      arith,
      in_graph (lists c.args.graph.now) c.loop-node.left.items c.loop-node.heights.items
          c.loop-node.numbers.items c.pop.new.self.items c.in-Some.node w,
      w.numbers_len,
    )

pub index-requires : goal.index-requires
index-requires c =
    let w = took (lists c.args.graph.now) c.loop-node.left.items c.loop-node.heights.items
    c.loop-node.numbers.items c.loop-node.ready.items c.pop.new.self.items c.in-Some.node
    c.loop-node.invariant c.in-Some.ensures.items in
    omega (
      arith,
      in_graph (lists c.args.graph.now) c.loop-node.left.items c.loop-node.heights.items
          c.loop-node.numbers.items c.pop.new.self.items c.in-Some.node w,
      c.in_ok-users.ensures.len,
      length-map c.args.graph.now (λ (v : Vec ℕ). v.items),
    )

pub release-requires-clause-counted : goal.release-requires-clause-counted
release-requires-clause-counted c =
    let w = took (lists c.args.graph.now) c.loop-node.left.items c.loop-node.heights.items
    c.loop-node.numbers.items c.loop-node.ready.items c.pop.new.self.items c.in-Some.node
    c.loop-node.invariant c.in-Some.ensures.items in
    count_fits (lists c.args.graph.now) c.loop-node.left.items c.loop-node.heights.items
    c.loop-node.numbers.items c.pop.new.self.items c.deref-in-Some.result.now c.in-Some.node w
    (its_users c.in_ok-users.users.items (lists c.args.graph.now) c.in-Some.node c.index.result.now
    c.deref-in-Some.result.now
    (omega (
      arith,
      in_graph (lists c.args.graph.now) c.loop-node.left.items
          c.loop-node.heights.items c.loop-node.numbers.items c.pop.new.self.items c.in-Some.node
          w,
      c.in_ok-users.ensures.len,
      length-map c.args.graph.now (λ (v : Vec ℕ). v.items),
    ))
    c.index.ensures c.deref-in-Some.ensures.value c.in_ok-users.ensures.uses)

pub release-requires-clause-level : goal.release-requires-clause-level
release-requires-clause-level c =
    let w = took (lists c.args.graph.now) c.loop-node.left.items c.loop-node.heights.items
    c.loop-node.numbers.items c.loop-node.ready.items c.pop.new.self.items c.in-Some.node
    c.loop-node.invariant c.in-Some.ensures.items in
    let lt = in_graph (lists c.args.graph.now) c.loop-node.left.items c.loop-node.heights.items
    c.loop-node.numbers.items c.pop.new.self.items c.in-Some.node w in
    omega (
      arith,
      c.loop-node.heights.small,
      c.loop-node.heights.ok.0,
      c.loop-node.heights.ok.1,
      w.heights_len,
      c.index-level.ensures,
      level_fits (lists c.args.graph.now) c.loop-node.left.items c.loop-node.heights.items
          c.loop-node.numbers.items c.pop.new.self.items c.in-Some.node w,
      read_any c.loop-node.heights.items c.in-Some.node c.index-level.result.now
          c.index-level.ensures (omega (arith, lt, w.heights_len)),
    )

pub loop-node-smaller : goal.loop-node-smaller
loop-node-smaller c =
    let w = took (lists c.args.graph.now) c.loop-node.left.items c.loop-node.heights.items
    c.loop-node.numbers.items c.loop-node.ready.items c.pop.new.self.items c.in-Some.node
    c.loop-node.invariant c.in-Some.ensures.items in
    let lt = in_graph (lists c.args.graph.now) c.loop-node.left.items c.loop-node.heights.items
    c.loop-node.numbers.items c.pop.new.self.items c.in-Some.node w in
    let t = taken (lists c.args.graph.now) c.loop-node.left.items c.loop-node.heights.items
    c.loop-node.numbers.items c.pop.new.self.items c.in-Some.node w in
    omega (
      arith,
      fewer c.loop-node.numbers.items c.in-Some.node c.index-level.result.now
          (is_zero c.loop-node.numbers.items c.in-Some.node t.unplaced)
          (omega (
            arith,
            read_any c.loop-node.heights.items c.in-Some.node c.index-level.result.now
                c.index-level.ensures (omega (arith, lt, w.heights_len)),
            tall (lists c.args.graph.now) c.loop-node.left.items c.loop-node.heights.items
                c.loop-node.numbers.items (c.pop.new.self.items ++ c.in-Some.node ∷ []) w
                c.in-Some.node lt,
          )) (omega (arith, lt, w.numbers_len)),
    )

pub loop-node-preserved : goal.loop-node-preserved
loop-node-preserved c =
    let w = took (lists c.args.graph.now) c.loop-node.left.items c.loop-node.heights.items
    c.loop-node.numbers.items c.loop-node.ready.items c.pop.new.self.items c.in-Some.node
    c.loop-node.invariant c.in-Some.ensures.items in
    let graph = lists c.args.graph.now in
    let lt = in_graph graph c.loop-node.left.items c.loop-node.heights.items
    c.loop-node.numbers.items c.pop.new.self.items c.in-Some.node w in
    let level : get_or c.loop-node.heights.items c.in-Some.node 0 ≡ c.index-level.result.now =
    read_any c.loop-node.heights.items c.in-Some.node c.index-level.result.now
    c.index-level.ensures (omega (arith, lt, w.heights_len)) in
    let placed : Placed graph c.loop-node.left.items c.loop-node.heights.items c.pop.new.self.items
    c.in-Some.node c.deref-in-Some.result.now c.release.new.left.items
    c.release.new.heights.items c.release.new.ready.items =
    record {
      users_are = its_users c.in_ok-users.users.items graph c.in-Some.node c.index.result.now
          c.deref-in-Some.result.now
          (omega (
            arith,
            lt,
            c.in_ok-users.ensures.len,
            length-map c.args.graph.now (λ (v : Vec ℕ). v.items),
          )) c.index.ensures
          c.deref-in-Some.ensures.value c.in_ok-users.ensures.uses;
      left_is = c.in_ok-release.ensures.left;
      heights_are = λ s. c.in_ok-release.ensures.heights s
          ∙ ap (λ n. if uses s c.deref-in-Some.result.now == 0 then get_or c.loop-node.heights.items
          s 0 else raised n (get_or c.loop-node.heights.items s 0)) (sym level);
      ready_are = c.in_ok-release.ensures.ready;
      left_len = c.in_ok-release.ensures.left_len;
      heights_len = c.in_ok-release.ensures.heights_len;
    } in
    subst (λ n. Underway graph c.release.new.left.items c.release.new.heights.items
    (set c.loop-node.numbers.items c.in-Some.node n) c.release.new.ready.items) level
    (placed_next graph c.loop-node.left.items c.loop-node.heights.items c.loop-node.numbers.items
    c.pop.new.self.items c.in-Some.node c.deref-in-Some.result.now c.release.new.left.items
    c.release.new.heights.items c.release.new.ready.items w placed)

empty_list : (xs : List ℕ) → length xs ≡ 0 → xs ≡ []
empty_list [] e = refl
empty_list (x ∷ xs) e = absurd (omega arith)

pub returns-clause-levels : goal.returns-clause-levels
returns-clause-levels c =
    let none : c.loop-node.ready.items ≡ [] = empty_list c.loop-node.ready.items
    (omega (arith, c.loop-node.ready.ok.0, c.in_default.ensures.cases.0)) in
    stands (lists c.args.graph.now) c.loop-node.left.items c.loop-node.heights.items
    c.loop-node.numbers.items
    (subst (λ r. Underway (lists c.args.graph.now) c.loop-node.left.items
    c.loop-node.heights.items c.loop-node.numbers.items r) none c.loop-node.invariant)

pub returns-clause-depth : goal.returns-clause-depth
returns-clause-depth c =
    let none : c.loop-node.ready.items ≡ [] = empty_list c.loop-node.ready.items
    (omega (arith, c.loop-node.ready.ok.0, c.in_default.ensures.cases.0)) in
    deep (lists c.args.graph.now) c.loop-node.left.items c.loop-node.heights.items
    c.loop-node.numbers.items c.greatest-depth.result
    (subst (λ r. Underway (lists c.args.graph.now) c.loop-node.left.items
    c.loop-node.heights.items c.loop-node.numbers.items r) none c.loop-node.invariant)
    (λ i. subst (λ l. get_or l i 0 ≤ c.greatest-depth.result) c.deref-2.ensures.value
    (c.greatest-depth.ensures.within i))
    (λ h. subst (λ l. HasNumber l c.greatest-depth.result) c.deref-2.ensures.value
    (c.greatest-depth.ensures.reached h))
