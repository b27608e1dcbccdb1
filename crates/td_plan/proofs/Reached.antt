-- How far a search of a graph has come.
use Rattle.std.proofs.Common.{◌≡◌, ◌⊎◌, ◌+◌, ◌<◌, ◌≤◌, ◌∷◌, [], ◌∙◌, ℕ, Bool, false}
use Rattle.std.proofs.Common.{List, length, set, get_or, inl, inr, sym, ap, subst, arith}
use Rattle.std.proofs.Common.{length-set}
use Rattle.std.specs.List.{All, Contains}
use Rattle.std.proofs.lemmas.Bool.{cases_lt, cases_eq}
use Rattle.std.proofs.lemmas.List.{get_or_default}
use Rattle.std.proofs.lemmas.List.Elements.{Contains-push, Contains-push_cases, Contains-get_or}
use Rattle.td_waves.specs.Graph.{BuildsOn, bases_of}
use Rattle.td_plan.specs.inner.Lists.{AreReached, AreTakenOf, IsSet, Leads, count_set}
use Rattle.td_plan.proofs.Flags.{one-less, other-was, other-stays}
use Rattle.td_plan.proofs.SetTo.{set-within}
use Rattle.td_plan.proofs.Ways.{leads-more, leads-stays}

-- a way leads to each node so far; what the nodes that are done build on is among them
pub record IsReaching (graph : List (List ℕ)) (root : ℕ) (flags : List Bool) (nodes : List ℕ)
    (left : List Bool) (done : ℕ) : Type 0 where
  pub led : (n : ℕ) → Contains nodes n → Leads graph (IsSet flags) root n
  pub begun : Contains nodes root
  pub flagged : (n : ℕ) → Contains nodes n → IsSet flags n
  pub closed : (k z : ℕ) → k < done → BuildsOn graph (get_or nodes k 0) z → IsSet flags z
      → Contains nodes z
  pub apart : (n : ℕ) → IsSet left n → ¬ Contains nodes n
  pub was : (n : ℕ) → IsSet left n → IsSet flags n
  pub still : (n : ℕ) → IsSet flags n → Contains nodes n ⊎ IsSet left n
  pub some : done ≤ length nodes
  pub counted : count_set left + length nodes ≡ count_set flags
  pub len : length left ≡ length flags

-- a list of one item has no other
only-one : (b n : ℕ) → Contains (b ∷ []) n → b ≡ n
only-one b n mine = elim (Contains-push_cases [] b n mine) [
  | inl none ↦ absurd (omega (arith, none.1))
  | inr same ↦ same
]

module _ (graph : List (List ℕ)) (root : ℕ) (flags : List Bool) where
  still-first : (n : ℕ) → IsSet flags n
      → Contains (root ∷ []) n ⊎ IsSet (set flags root false) n
  still-first n is = elim (cases_eq n root) [
    | inl same ↦ inl (subst (λ k. Contains (root ∷ []) k) (sym same) (Contains-push [] root))
    | inr apart ↦ inr (other-stays flags root n apart is)
  ]

  -- a search begins at the root
  pub reaching-root : root < length flags → IsSet flags root
      → IsReaching graph root flags (root ∷ []) (set flags root false) 0
  reaching-root low is = record {
    led = λ n mine. inl (only-one root n mine);
    begun = Contains-push [] root;
    flagged = λ n mine. subst (λ k. IsSet flags k) (only-one root n mine) is;
    closed = λ k z below. absurd (omega arith);
    apart = λ n free mine. (other-was flags root n low free).1 (sym (only-one root n mine));
    was = λ n free. (other-was flags root n low free).0;
    still = still-first;
    some = omega arith;
    counted = one-less flags root low is;
    len = length-set flags root false;
  }

  module _ (nodes : List ℕ) (left : List Bool) (done : ℕ)
      (so : IsReaching graph root flags nodes left done)
      (new : List ℕ) (after : List Bool) (bases : List ℕ)
      (lt : done < length nodes) (is : bases_of graph (get_or nodes done 0) ≡ bases)
      (by : AreTakenOf bases nodes left new after) where
    here : Contains nodes (get_or nodes done 0)
    here = Contains-get_or nodes done 0 lt

    on : (z : ℕ) → Contains bases z → BuildsOn graph (get_or nodes done 0) z
    on z mine = subst (λ xs. Contains xs z) (sym is) mine

    kept : (n : ℕ) → Contains nodes n → Contains new n
    kept n mine = let low : mine.0 < length new = omega (arith, mine.1, by.taken.long) in (
      mine.0,
      low,
      get_or_default new mine.0 n 0 low ∙ by.taken.more mine.0 mine.1
          ∙ get_or_default nodes mine.0 0 n mine.1 ∙ mine.2,
    )

    led-next : (n : ℕ) → Contains nodes n ⊎ (Contains bases n × IsSet left n)
        → Leads graph (IsSet flags) root n
    led-next n (inl mine) = so.led n mine
    led-next n (inr both) = leads-more graph (IsSet flags) root (get_or nodes done 0) n
        (so.led (get_or nodes done 0) here) (on n both.0) (so.was n both.1)

    flagged-next : (n : ℕ) → Contains nodes n ⊎ (Contains bases n × IsSet left n)
        → IsSet flags n
    flagged-next n (inl mine) = so.flagged n mine
    flagged-next n (inr both) = so.was n both.1

    all-next : (z : ℕ) → Contains bases z → Contains nodes z ⊎ IsSet left z → Contains new z
    all-next z mine (inl there) = kept z there
    all-next z mine (inr free) = by.all z mine free

    closed-next : (k z : ℕ) → (k < done) ⊎ (done ≤ k) → k < done + 1
        → BuildsOn graph (get_or new k 0) z → IsSet flags z → Contains new z
    closed-next k z (inl low) below builds was =
        kept z (so.closed k z low (subst (λ n. BuildsOn graph n z)
        (by.taken.more k (omega arith)) builds) was)
    closed-next k z (inr high) below builds was =
        let same : k ≡ done = omega arith in
        let at : get_or new k 0 ≡ get_or nodes done 0 = by.taken.more k (omega arith)
        ∙ ap (λ j. get_or nodes j 0) same in
        let mine : Contains bases z = subst (λ xs. Contains xs z) is
        (subst (λ n. BuildsOn graph n z) at builds) in
        all-next z mine (so.still z was)

    still-next : (n : ℕ) → Contains nodes n ⊎ IsSet left n → Contains new n ⊎ IsSet after n
    still-next n (inl mine) = inl (kept n mine)
    still-next n (inr free) = by.taken.still n free

    pub reaching-more : IsReaching graph root flags new after (done + 1)
    reaching-more = record {
      led = λ n mine. led-next n (by.only n mine);
      begun = kept root so.begun;
      flagged = λ n mine. flagged-next n (by.only n mine);
      closed = λ k z below. closed-next k z (cases_lt k done) below;
      apart = by.taken.apart;
      was = λ n free. so.was n (by.taken.was n free);
      still = λ n was. still-next n (so.still n was);
      some = omega (arith, by.taken.long);
      counted = omega (arith, by.taken.counted, so.counted);
      len = by.taken.len ∙ so.len;
    }

  -- the nodes so far are nodes of the graph
  pub reaching-nodes : (nodes : List ℕ) (left : List Bool) (done : ℕ)
      → IsReaching graph root flags nodes left done → (count : ℕ) → length flags ≡ count
      → All (λ n. n < count) nodes
  reaching-nodes nodes left done so count len = λ k d lt.
      let n = get_or nodes k d in
      omega (arith, set-within flags n (so.flagged n (Contains-get_or nodes k d lt)), len)

  -- a search at its end
  module _ (nodes : List ℕ) (left : List Bool) (done : ℕ)
      (so : IsReaching graph root flags nodes left done) (all : length nodes ≤ done) where
    closed-all : (m z : ℕ) → Contains nodes m → BuildsOn graph m z → IsSet flags z
        → Contains nodes z
    closed-all m z mine builds is =
        let at : get_or nodes mine.0 0 ≡ m = get_or_default nodes mine.0 0 m mine.1 ∙ mine.2 in
        so.closed mine.0 z (omega (arith, mine.1, all, so.some))
        (subst (λ k. BuildsOn graph k z) (sym at) builds) is

    pub reached-all : AreReached graph root flags nodes left
    reached-all = record {
      reached = λ n. (
        so.led n,
        λ way. leads-stays graph (IsSet flags) (Contains nodes)
            closed-all root n so.begun way,
      );
      flagged = so.flagged;
      apart = so.apart;
      was = so.was;
      still = so.still;
      counted = so.counted;
      len = so.len;
    }
