-- Nodes from which no way leads back: how they are found, and why the search for one ends.
use Rattle.std.proofs.Common.{◌≡◌, ◌⊎◌, ◌<◌, ◌∙◌, ℕ, Bool, true, false, List, length, get_or}
use Rattle.std.proofs.Common.{Option, Some, None, MatchOption, inl, inr, refl, sym, arith}
use Rattle.std.specs.List.{All, Contains}
use Rattle.std.proofs.lemmas.Bool.{cases_Bool, false≢true, false_from_ne_true}
use Rattle.std.proofs.lemmas.List.{ext_get_or}
use Rattle.std.proofs.lemmas.List.Elements.{All-contains, Contains-get_or}
use Rattle.td_waves.specs.Graph.{BuildsOn, IsNode}
use Rattle.td_plan.specs.inner.Lists.{AreOnePart, AreReached, AreSetTo, IsSet, IsStray, Leads}
use Rattle.td_plan.specs.inner.Searching.{AreNodes, IsTurned}
use Rattle.td_plan.proofs.Counting.{more-set}
use Rattle.td_plan.proofs.SetTo.{set-within}
use Rattle.td_plan.proofs.Ways.{leads-among, leads-more, leads-over, leads-stays, leads-turned}

-- ---- 1. a search among nodes, all of whose flags are set

module _ (users : List (List ℕ)) (root : ℕ) (nodes : List ℕ) (inside : List Bool)
    (set-mine : (n : ℕ) → Contains nodes n → IsSet inside n)
    (mine-set : (n : ℕ) → IsSet inside n → Contains nodes n)
    (back : List ℕ) (left : List Bool) (so : AreReached users root inside back left) where
  -- no way leads to a node that is left
  pub stray-apart : (n : ℕ) → IsSet left n → ¬ Leads users (Contains nodes) root n
  stray-apart n is way = so.apart n is ((so.reached n).1
      (leads-over users (Contains nodes) (IsSet inside) set-mine root n way))

  led-from : (n : ℕ) → Contains back n → Leads users (Contains nodes) root n
  led-from n got =
      leads-over users (IsSet inside) (Contains nodes) mine-set root n ((so.reached n).0 got)

  -- if no node is left, a way leads to each
  pub none-stray : ((n : ℕ) → Contains nodes n → ¬ IsSet left n) → (n : ℕ) → Contains nodes n
      → Leads users (Contains nodes) root n
  none-stray none n mine = elim (so.still n (set-mine n mine)) [
    | inl got ↦ led-from n got
    | inr is ↦ absurd (none n mine is)
  ]

  -- the nodes that are left are among the nodes
  pub left-mine : (n : ℕ) → IsSet left n → Contains nodes n
  left-mine n is = mine-set n (so.was n is)

  -- what is found is a node to which no way leads, or a way leads to each
  pub stray-told : (found : Option ℕ) → MatchOption found (All (λ n. ¬ IsSet left n) nodes)
      (λ n. Contains nodes n × IsSet left n) → IsStray users root nodes found
  stray-told None none =
      none-stray (λ n mine. All-contains (λ k. ¬ IsSet left k) nodes n none mine)
  stray-told (Some n) both = (both.0, stray-apart n both.1)

-- ---- 2. flags that are set again

module _ (graph : List (List ℕ)) (root : ℕ) (flags : List Bool) (nodes : List ℕ)
    (left : List Bool) (so : AreReached graph root flags nodes left) where
  same-flag : (again : List Bool) (n : ℕ)
      → (Contains nodes n × (get_or again n false ≡ true))
      ⊎ ((¬ Contains nodes n) × (get_or again n false ≡ get_or left n false))
      → get_or again n false ≡ get_or flags n false
  same-flag again n (inl mine) = mine.1 ∙ sym (so.flagged n mine.0)
  same-flag again n (inr free) = elim (cases_Bool (get_or left n false)) [
    | inl is ↦ free.1 ∙ is ∙ sym (so.was n is)
    | inr off ↦ free.1 ∙ off ∙ sym (false_from_ne_true (get_or flags n false)
        (λ is. elim (so.still n is) [
          | inl mine ↦ free.0 mine
          | inr on ↦ false≢true (sym off ∙ on)
        ]))
  ]

  -- the flags, once set again, are as they were
  pub set-again : (again : List Bool) → length again ≡ length left
      → AreSetTo nodes false true left again → again ≡ flags
  set-again again len sets =
      ext_get_or false again flags (len ∙ so.len) (λ n lt. same-flag again n (sets n))

  -- what a node of these builds on is one of these, if its flag is set
  closed : (m z : ℕ) → Contains nodes m → BuildsOn graph m z → IsSet flags z → Contains nodes z
  closed m z mine on is =
      (so.reached z).1 (leads-more graph (IsSet flags) root m z ((so.reached m).0 mine) on is)

  pub root-mine : Contains nodes root
  root-mine = (so.reached root).1 (inl refl)

  pub nodes-are : (count : ℕ) → length flags ≡ count → AreNodes count nodes
  nodes-are count len = λ k d lt.
      let n = get_or nodes k d in
      omega (arith, set-within flags n (so.flagged n (Contains-get_or nodes k d lt)), len)

  -- no way leads from a stray node to the root: none leads to it in the graph turned around
  pub stray-none : (users : List (List ℕ)) → IsTurned graph users → (stray : ℕ)
      → Contains nodes stray → ¬ Leads users (Contains nodes) root stray
      → ¬ Leads graph (Contains nodes) stray root
  stray-none users turned stray mine none way = none (leads-turned graph users
      (λ x y on. (turned x y).1 on) (Contains nodes) stray root mine way)

  -- the nodes are one part if a way leads to each in the graph turned around
  pub one-part : (users : List (List ℕ)) → IsTurned graph users → length flags ≡ length graph
      → ((n : ℕ) → Contains nodes n → Leads users (Contains nodes) root n)
      → AreOnePart graph flags nodes left
  one-part users turned len led = record {
    root = root;
    reached = so;
    back = λ n mine. leads-over graph (Contains nodes) (IsNode graph)
        (λ k has. omega (arith, set-within flags k (so.flagged k has), len)) n root
        (leads-turned users graph (λ x y on. (turned y x).0 on) (Contains nodes) root n root-mine
        (led n mine));
  }

  -- ---- 3. from a node from which no way leads back, ways lead to fewer

  module _ (stray : ℕ) (mine : Contains nodes stray)
      (none : ¬ Leads graph (Contains nodes) stray root)
      (fewer : List ℕ) (more : List Bool) (by : AreReached graph stray flags fewer more) where
    fewer-mine : (n : ℕ) → Contains fewer n → Contains nodes n
    fewer-mine n got = leads-stays graph (IsSet flags) (Contains nodes) closed stray n mine
        ((by.reached n).0 got)

    root-apart : ¬ Contains fewer root
    root-apart got = none (leads-among graph (IsSet flags) (Contains nodes) closed stray root mine
        ((by.reached root).0 got))

    still-set : (n : ℕ) → IsSet left n → IsSet more n
    still-set n is = elim (by.still n (so.was n is)) [
      | inl got ↦ absurd (so.apart n is (fewer-mine n got))
      | inr on ↦ on
    ]

    root-set : IsSet more root
    root-set = elim (by.still root (so.flagged root root-mine)) [
      | inl got ↦ absurd (root-apart got)
      | inr on ↦ on
    ]

    pub fewer-led : length fewer < length nodes
    fewer-led = omega (
      arith,
      so.counted,
      by.counted,
      more-set left more (so.len ∙ sym by.len) still-set root
          (λ is. so.apart root is root-mine) root-set,
    )
