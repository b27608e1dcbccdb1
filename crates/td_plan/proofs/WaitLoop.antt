-- What a waiter finds, owner by owner.
use Rattle.std.proofs.Common.{◌≡◌, ◌⊎◌, ℕ, ◌+◌, ◌-◌, ◌<◌, ◌≤◌, Bool}
use Rattle.std.proofs.Common.{List}
use Rattle.std.proofs.Common.{[], ◌∷◌, ◌++◌, drop, length, get_or, map, take, Option, Some}
use Rattle.std.proofs.Common.{sym, ap, subst, ◌∙◌, inl, inr, arith}
use Rattle.std.specs.Prelude.{filter, slice_get}
use Rattle.std.specs.Cmp.Lexicographic.{slice_cmp}
use Rattle.std.specs.List.{Contains, filter_map}
use Rattle.std.specs.List.Sorted.{IsPermutation, IsSortedByKey}
use Rattle.std.specs.Ordering.{nat_cmp}
use Rattle.std.specs.Option.{option_map_or}
use Rattle.std.proofs.lemmas.Bool.{cases_lt}
use Rattle.std.proofs.lemmas.List.{get_or-drop, get_or-take, get_or_default, length-drop}
use Rattle.std.proofs.lemmas.List.{length-take, map-append, take_all}
use Rattle.std.proofs.lemmas.List.Elements.{Contains-get_or, filter-append, filter_map-append}
use Rattle.std.proofs.lemmas.Option.{slice_get-get_or, slice_get_past, slice_get_within}
use Rattle.td_indices.specs.Sources.{KeptSource}
use Rattle.td_plan.specs.declared.asks.Ask.{Ask}
use Rattle.td_plan.specs.declared.movers.Mover.{Mover}
use Rattle.td_plan.specs.declared.waits.Wait.{Wait}
use Rattle.td_plan.specs.declared.waits.Waiter.{Waiter}
use Rattle.td_plan.specs.declared.waits.Waits.{Waits}
use Rattle.td_plan.specs.InOrder.{in_order}
use Rattle.td_plan.specs.Premises.{Premises, name_of}
use Rattle.td_plan.specs.Waits as spec
use Rattle.td_plan.specs.Waits.{awaited, is_source_before, is_wait_before, is_waitless, wait_of}
use Rattle.td_plan.specs.inner.Asked.{AreAsks, AreAsksFor, IsAsk}
use Rattle.td_plan.specs.inner.Asking.{IsByOwner}
use Rattle.td_plan.specs.inner.Waiters.{AreAdded, AreFound, AreWaits, IsWaiter, awaited_among}
use Rattle.td_plan.specs.inner.Waiters.{is_awaited}
use Rattle.td_plan.specs.inner.Waiters.{kept_of}
use Rattle.td_plan.specs.inner.Waiting.{seen}
use Rattle.td_plan.proofs.Asked.{not-awaited}
use Rattle.td_plan.proofs.MovingSources.{awaited-are, movers-rise}
use Rattle.td_plan.proofs.Rising.{AnyWay, rising-filter}
use Rattle.td_plan.proofs.Sorted.{rising-any}
use Rattle.td_plan.proofs.WaitOrder.{waits-in-order}
use Rattle.td_plan.proofs.Waiters.{at-below, awaited-push, awaited-skip, owner-at}

-- the asks from a place up to another are for one owner, all after them for greater ones, and all
-- before them for lesser ones
pub record IsGroup (asks : List Ask) (start end : ℕ) : Type 0 where
  pub low : start < length asks
  pub after : start < end
  pub within : end ≤ length asks
  pub same : (k : ℕ) (d : Ask) → start ≤ k → k < end
      → (get_or asks k d).owner ≡ (get_or asks start d).owner
  pub whole : (k : ℕ) (d : Ask) → end ≤ k → k < length asks
      → (get_or asks start d).owner < (get_or asks k d).owner
  pub passed : (k : ℕ) (d : Ask) → k < start
      → (get_or asks k d).owner < (get_or asks start d).owner

pub group-is : (asks : List Ask) (start end : ℕ) → IsByOwner asks → start < length asks
    → start < end → end ≤ length asks
    → ((k : ℕ) (d : Ask) → start ≤ k → k < end
    → (get_or asks k d).owner ≡ (get_or asks start d).owner)
    → (IsByOwner asks → (k : ℕ) (d : Ask) → end ≤ k → k < length asks
    → (get_or asks start d).owner < (get_or asks k d).owner)
    → (IsByOwner asks → (k : ℕ) (d : Ask) → k < start → start < length asks
    → (get_or asks k d).owner < (get_or asks start d).owner)
    → IsGroup asks start end
group-is asks start end sorted low after within same whole passed = record {
  low = low;
  after = after;
  within = within;
  same = same;
  whole = whole sorted;
  passed = λ k d before. passed sorted k d before low;
}

-- the asks before the next group are for lesser owners
pub passed-next : (asks : List Ask) (start end : ℕ) → IsGroup asks start end → (k : ℕ) (d : Ask)
    → k < end → end < length asks → (get_or asks k d).owner < (get_or asks end d).owner
passed-next asks start end g k d low high = elim (cases_lt k start) [
  | inl before ↦ omega (arith, g.passed k d before, g.whole end d (omega arith) high)
  | inr from ↦ omega (arith, g.same k d from low, g.whole end d (omega arith) high)
]

pub first-ask : (asks : List Ask) → 0 < length asks → Ask
first-ask [] none = absurd (omega arith)
first-ask (ask ∷ asks) some = ask

-- these are all asks of some kind for one owner
pub record AreOf (Is : Ask → Type 0) (owner : ℕ) (asks : List Ask) : Type 0 where
  pub each : (ask : Ask) → Contains asks ask → Is ask × (ask.owner ≡ owner)
  pub all : (ask : Ask) → Is ask → ask.owner ≡ owner → Contains asks ask

-- the asks of a group are all for its owner
pub group-of : (Is : Ask → Type 0) (asks : List Ask) → ((ask : Ask) → Contains asks ask → Is ask)
    → ((ask : Ask) → Is ask → Contains asks ask) → (start end : ℕ) → IsGroup asks start end
    → (d : Ask) → AreOf Is (get_or asks start d).owner (take (end - start) (drop start asks))
group-of Is asks each all start end g d = record {
  each = λ ask has.
      let i = has.0 in
      let short : i < end - start = omega (
        arith,
        length-take (end - start) (drop start asks),
        length-drop start asks,
        has.1,
      ) in
      let at : get_or asks (start + i) ask ≡ ask =
      sym (get_or-drop start asks i ask)
      ∙ sym (get_or-take (end - start) (drop start asks) i ask short) ∙ has.2 in
      let mine : Contains asks ask = (start + i, let up = g.within in omega arith, at) in (
        each ask mine,
        sym (ap (λ (a : Ask). a.owner) at)
            ∙ g.same (start + i) ask (omega arith) (omega arith)
            ∙ ap (λ (a : Ask). a.owner) (get_or_default asks start ask d g.low),
      );
  all = λ ask of owner.
      let has = all ask of in
      let k = has.0 in
      let mine : (get_or asks k ask).owner ≡ (get_or asks start ask).owner =
      ap (λ (a : Ask). a.owner) has.2 ∙ owner
      ∙ ap (λ (a : Ask). a.owner) (get_or_default asks start d ask g.low) in
      let from : start ≤ k = elim (cases_lt k start) [
        | inl before ↦ absurd (let less = g.passed k ask before in omega arith)
        | inr later ↦ later
      ] in
      let up : k < end = elim (cases_lt k end) [
        | inl below ↦ below
        | inr later ↦ absurd (let more = g.whole k ask later has.1 in omega arith)
      ] in
      let high = g.within in
      let sum : start + (k - start) ≡ k = omega arith in (
        k - start,
        omega (
          arith,
          length-take (end - start) (drop start asks),
          length-drop start asks,
        ),
        get_or-take (end - start) (drop start asks) (k - start) ask (omega arith)
            ∙ get_or-drop start asks (k - start) ask
            ∙ ap (λ (n : ℕ). get_or asks n ask) sum ∙ has.2,
      );
}

module _ (p : Premises) (beside : KeptSource → Bool) (s : KeptSource) (w : Waiter)
    (is : IsWaiter p beside s w) (asks : List Ask)
    (are : AreAsks p.archive w.movers.now w.mover s w.place asks) where
  -- the asks of a group are all for its owner
  pub group-are : (start end : ℕ) → IsGroup asks start end → (d : Ask)
      → AreAsksFor p.archive w.movers.now w.mover s w.place (get_or asks start d).owner
      (take (end - start) (drop start asks))
  group-are start end g d =
      let group = group-of (IsAsk p.archive w.movers.now w.mover s w.place) asks are.each are.all
      start end g d in
      record { each = group.each; all = group.all }

  owner-low : (k : ℕ) (d : Ask) → k < length asks → (get_or asks k d).owner < length w.movers.now
  owner-low k d low =
      let ask = get_or asks k d in
      let of = are.each ask (k, low, get_or_default asks k ask d low) in
      slice_get_within w.movers.now ask.owner of.owner of.at

  -- the owner of the asks from a place on
  owner-is : (k : ℕ) (d : Ask) → k < length asks
      → owner-at asks k (length w.movers.now) ≡ (get_or asks k d).owner
  owner-is k d low = ap (λ (o : Option Ask). option_map_or (λ (a : Ask). a.owner) o
      (length w.movers.now)) (slice_get-get_or asks k d low)

  owner-end : (k : ℕ) → length asks ≤ k
      → owner-at asks k (length w.movers.now) ≡ length w.movers.now
  owner-end k high = ap (λ (o : Option Ask). option_map_or (λ (a : Ask). a.owner) o
      (length w.movers.now)) (slice_get_past asks k high)

  -- a source waits for none between two owners
  none-between : (low high : ℕ) → low ≤ high → high ≤ length w.movers.now
      → ((i : ℕ) (d : Ask) → i < length asks → ((get_or asks i d).owner < low)
      ⊎ (high ≤ (get_or asks i d).owner))
      → awaited_among p beside s w.place (map kept_of (take high w.movers.now))
      ≡ awaited_among p beside s w.place (map kept_of (take low w.movers.now))
  none-between low high up within out =
      awaited-skip p beside s w.place w.movers.now low high up within (λ k t from below at.
      not-awaited p w.movers.now is.movers w.mover is.own is.at s is.is w.place is.place beside asks
      are k t at (λ ask has same.
      let owner : (get_or asks has.0 ask).owner ≡ k =
      ap (λ (a : Ask). a.owner) has.2 ∙ same in
      elim (out has.0 ask has.1) [
        | inl less ↦ omega arith
        | inr more ↦ omega arith
      ]))

  -- nothing is found before the first owner
  pub found-none : (found : Waits) → found.waits.items ≡ [] → found.waitless.items ≡ []
      → AreFound p beside s w.place
      (map kept_of (take (owner-at asks 0 (length w.movers.now)) w.movers.now)) found
  found-none found waits waitless =
      let none : awaited_among p beside s w.place
      (map kept_of (take (owner-at asks 0 (length w.movers.now)) w.movers.now)) ≡ [] =
      elim (cases_lt 0 (length asks)) [
        | inl low ↦
            let first = first-ask asks low in
            none-between 0 (owner-at asks 0 (length w.movers.now)) (omega arith)
            (let owner = owner-low 0 first low in omega (arith, owner-is 0 first low))
            (λ i d below. inr (omega (
              arith,
              owner-is 0 d low,
              are.in_order 0 i d (omega arith) below,
            )))
        | inr empty ↦
            none-between 0 (owner-at asks 0 (length w.movers.now)) (omega arith)
            (omega (arith, owner-end 0 empty)) (λ i d below. absurd (omega arith))
      ] in
      record {
        waits = ap (map seen) waits ∙ sym (ap (filter_map (wait_of p s w.place)) none);
        waitless = ap (map (λ name. name.now)) waitless
            ∙ sym (ap (λ (l : List KeptSource). map name_of (filter (is_waitless p s w.place) l))
            none);
      }

  -- what is found with one owner more
  pub found-more : (start end : ℕ) (d : Ask) (t : Mover) (old new : Waits)
      → IsGroup asks start end
      → slice_get w.movers.now (get_or asks start d).owner ≡ Some t
      → AreFound p beside s w.place
      (map kept_of (take (owner-at asks start (length w.movers.now)) w.movers.now)) old
      → AreAdded p beside s w.place (kept_of t ∷ []) old new
      → AreFound p beside s w.place
      (map kept_of (take (owner-at asks end (length w.movers.now)) w.movers.now)) new
  found-more start end d t old new g at found added =
      let ms = w.movers.now in
      let j = (get_or asks start d).owner in
      let next = owner-at asks end (length ms) in
      let now : awaited_among p beside s w.place
      (map kept_of (take (owner-at asks start (length ms)) ms))
      ≡ awaited_among p beside s w.place (map kept_of (take j ms)) =
      ap (λ (n : ℕ). awaited_among p beside s w.place (map kept_of (take n ms)))
      (owner-is start d g.low) in
      let skipped : awaited_among p beside s w.place (map kept_of (take next ms))
      ≡ awaited_among p beside s w.place (map kept_of (take (j + 1) ms)) =
      elim (cases_lt end (length asks)) [
        | inl low ↦ none-between (j + 1) next
            (let more = g.whole end d (omega arith) low in omega (arith, owner-is end d low))
            (let owner = owner-low end d low in omega (arith, owner-is end d low))
            (λ i e below. elim (cases_lt i end) [
              | inl before ↦ inl (omega (
                arith,
                passed-owner i e before,
                ap (λ (a : Ask). a.owner) (get_or_default asks start d e g.low),
              ))
              | inr from ↦ inr (omega (
                arith,
                owner-is end e low,
                are.in_order end i e from below,
              ))
            ])
        | inr high ↦ none-between (j + 1) next
            (let owner = owner-low start d g.low in omega (arith, owner-end end high))
            (omega (arith, owner-end end high))
            (λ i e below. inl (omega (
              arith,
              passed-owner i e (omega arith),
              ap (λ (a : Ask). a.owner) (get_or_default asks start d e g.low),
            )))
      ] in
      let all : awaited_among p beside s w.place (map kept_of (take next ms))
      ≡ awaited_among p beside s w.place (map kept_of (take j ms))
      ++ awaited_among p beside s w.place (kept_of t ∷ []) =
      skipped ∙ awaited-push p beside s w.place ms j t at in
      record {
        waits = added.waits
            ∙ ap (λ (l : List spec.Wait). l ++ filter_map (wait_of p s w.place)
            (awaited_among p beside s w.place (kept_of t ∷ [])))
            (found.waits ∙ ap (filter_map (wait_of p s w.place)) now)
            ∙ sym (filter_map-append (wait_of p s w.place)
            (awaited_among p beside s w.place (map kept_of (take j ms)))
            (awaited_among p beside s w.place (kept_of t ∷ [])))
            ∙ ap (filter_map (wait_of p s w.place)) (sym all);
        waitless = added.waitless
            ∙ ap (λ (l : List (List ℕ)). l ++ map name_of (filter (is_waitless p s w.place)
            (awaited_among p beside s w.place (kept_of t ∷ []))))
            (found.waitless ∙ ap (λ (l : List KeptSource). map name_of
            (filter (is_waitless p s w.place) l)) now)
            ∙ sym (ap (map name_of) (filter-append (is_waitless p s w.place)
            (awaited_among p beside s w.place (map kept_of (take j ms)))
            (awaited_among p beside s w.place (kept_of t ∷ [])))
            ∙ map-append name_of (filter (is_waitless p s w.place)
            (awaited_among p beside s w.place (map kept_of (take j ms))))
            (filter (is_waitless p s w.place)
            (awaited_among p beside s w.place (kept_of t ∷ []))))
            ∙ ap (λ (l : List KeptSource). map name_of (filter (is_waitless p s w.place) l))
            (sym all);
      }
    where
      passed-owner : (i : ℕ) (e : Ask) → i < end
          → (get_or asks i e).owner ≤ (get_or asks start e).owner
      passed-owner i e before = elim (cases_lt i start) [
        | inl less ↦ (let low = g.passed i e less in omega arith)
        | inr from ↦ (let same = g.same i e from before in omega arith)
      ]

  pub step-more : (start end : ℕ) (old new : Waits) → IsGroup asks start end
      → AreFound p beside s w.place
      (map kept_of (take (owner-at asks start (length w.movers.now)) w.movers.now)) old
      → ((j : ℕ) (t : Mover) → slice_get w.movers.now j ≡ Some t
      → AreAsksFor p.archive w.movers.now w.mover s w.place j (take (end - start) (drop start asks))
      → AreAdded p beside s w.place (kept_of t ∷ []) old new)
      → AreFound p beside s w.place
      (map kept_of (take (owner-at asks end (length w.movers.now)) w.movers.now)) new
  step-more start end old new g found added =
      let d = (at-below asks start g.low).0 in
      let of = are.each (get_or asks start d) (Contains-get_or asks start d g.low) in
      found-more start end d of.owner old new g of.at found
      (added (get_or asks start d).owner of.owner of.at (group-are start end g d))

  -- after the last owner all is found
  pub found-all : (start : ℕ) (found : Waits) → length asks ≤ start
      → AreFound p beside s w.place
      (map kept_of (take (owner-at asks start (length w.movers.now)) w.movers.now)) found
      → AreFound p beside s w.place (map kept_of w.movers.now) found
  found-all start found high are_found =
      subst (λ (ms : List Mover). AreFound p beside s w.place (map kept_of ms) found)
      (ap (λ (n : ℕ). take n w.movers.now) (owner-end start high)
      ∙ take_all (length w.movers.now) w.movers.now (omega arith)) are_found

-- what was found is what a source waits for, in the order of the packages
pub waits-are : (p : Premises) (beside : KeptSource → Bool) (s : KeptSource) (w : Waiter)
    → IsWaiter p beside s w → (old new : Waits)
    → AreFound p beside s w.place (map kept_of w.movers.now) old
    → new.waitless.items ≡ old.waitless.items
    → IsPermutation old.waits.items new.waits.items
    → IsSortedByKey (λ (v : Wait). v.name.now) (slice_cmp nat_cmp) new.waits.items
    → AreWaits p beside s w.place new
waits-are p beside s w is old new found names moved sorted =
    let ms = w.movers.now in
    let among : List KeptSource = awaited_among p beside s w.place (map kept_of ms) in
    let same : among ≡ awaited beside p s w.place =
    sym (awaited-are p is.sound ms is.movers beside s w.place is.place) in
    let way : AnyWay is_source_before among = rising-any is_source_before among
    (rising-filter is_source_before (is_awaited p beside s w.place) (map kept_of ms)
    (movers-rise p is.sound ms is.movers)) in
    record {
      waits = waits-in-order p is.apart s w.place among way old.waits.items new.waits.items
          found.waits moved sorted
          ∙ ap (λ (l : List KeptSource). in_order is_wait_before
          (filter_map (wait_of p s w.place) l)) same;
      waitless = ap (map (λ name. name.now)) names ∙ found.waitless
          ∙ ap (λ (l : List KeptSource). map name_of (filter (is_waitless p s w.place) l)) same;
    }
