-- For which packages a source waits, owner by owner of what it asks for.
use Rattle.std.proofs.Common.{◌≡◌, ℕ, zero, suc, ◌+◌, ◌-◌, ◌<◌, ◌≤◌, ◌&&◌, Bool, true, false, cond}
use Rattle.std.proofs.Common.{List, [], ◌∷◌, ◌++◌, length, map, take, Option, Some, None}
use Rattle.std.proofs.Common.{refl, sym, ap, subst, ◌∙◌, fold, arith}
use Rattle.std.specs.Prelude.{filter, slice_get}
use Rattle.std.specs.List.{Contains, filter_map, list_any}
use Rattle.std.specs.Option.{option_and_then, option_map_or}
use Rattle.std.proofs.lemmas.Bool.{and_from, and_parts}
use Rattle.std.proofs.lemmas.List.{append-nil, map-append, take_more}
use Rattle.std.proofs.lemmas.List.Elements.{filter-append}
use Rattle.std.proofs.lemmas.Option.{get_or_from_slice_get, slice_get_within}
use Rattle.td_text.proofs.Chain.{some_is}
use Rattle.td_relation.specs.Meeting.{is_on}
use Rattle.td_indices.specs.Archive.{is_of}
use Rattle.td_indices.specs.Kept.{KeptBinary}
use Rattle.td_indices.specs.Opening.{is_current}
use Rattle.td_indices.specs.PackageKeys.{same_home}
use Rattle.td_indices.specs.Rows.{has_row}
use Rattle.td_indices.specs.Sources.{KeptSource}
use Rattle.td_indices.proofs.CountingLaws.{same_home-refl}
use Rattle.td_indices.proofs.Keeping.{same_home-is}
use Rattle.td_indices.proofs.OfferLaws.{has_first}
use Rattle.std.proofs.lemmas.Bool.{eq-eqb}
use Rattle.std.proofs.lemmas.Slice.Eq.{bytes_eq-Decides}
use Rattle.td_plan.specs.declared.asks.Ask.{Ask}
use Rattle.td_plan.specs.declared.movers.Mover.{Mover}
use Rattle.td_plan.specs.declared.waits.Waiter.{Waiter}
use Rattle.td_plan.specs.BuildsThere.{asks_active, names_itself, names_offer}
use Rattle.td_plan.specs.Due.{arrival_number, is_present}
use Rattle.td_plan.specs.InOrder.{earlier, first_where, is_before}
use Rattle.td_plan.specs.Packages.{arrival_base, own_package, package_name, present_package}
use Rattle.td_plan.specs.Premises.{PackagesAreApart, Premises}
use Rattle.td_plan.specs.Reasons.{is_exactly}
use Rattle.td_plan.specs.Waits.{wait_for, wait_if, wait_of, wait_with}
use Rattle.td_plan.specs.inner.Asked.{AreAsksFor, IsAsk, is_asked, names_as}
use Rattle.td_plan.specs.inner.Movers.{is_moving_motion}
use Rattle.td_plan.specs.inner.Waiters.{IsWaiter, awaited_among, either_package, is_awaited}
use Rattle.td_plan.specs.inner.Waiters.{kept_of, package_for}
use Rattle.td_plan.specs.inner.Waiting.{next_named, next_own}
use Rattle.td_plan.proofs.Asked.{as-offers, asks-name, asks-weaker}
use Rattle.td_plan.proofs.Existing.{filter-has, has-filter}
use Rattle.td_plan.proofs.Picked.{first-same, fold-picked, has-numbered, kept-again, kept-is}
use Rattle.td_plan.proofs.Picked.{kept_if, numbered-has, picked-again, picked-found}
use Rattle.td_plan.proofs.PlacingsAlike.{same-by-order}

-- the owner of the asks from a place on; a limit after the last
abbrev pub owner-at : List Ask → ℕ → ℕ → ℕ
owner-at asks start limit = option_map_or (λ (ask : Ask). ask.owner) (slice_get asks start) limit

-- ---- 1. the package for which a source waits

-- packages of one name at one place are one
tied : (p : Premises) → PackagesAreApart p → (place : ℕ) (b c : KeptBinary)
    → Contains p.archive.binaries b → Contains p.archive.binaries c → is_exactly place b ≡ true
    → is_exactly place c ≡ true → is_before b.head.name c.head.name ≡ false
    → is_before c.head.name b.head.name ≡ false → b ≡ c
tied p apart place b c mine other here there up down =
    let names = same-by-order b.head.name c.head.name up down in
    let homes : b.head.home ≡ c.head.home =
    same_home-is b.head.home (Some place) here
    ∙ sym (same_home-is c.head.home (Some place) there) in
    apart b c mine other (and_from _ _ ((bytes_eq-Decides b.head.name c.head.name).1 names)
    (subst (λ (h : Option ℕ). same_home b.head.home h ≡ true) homes
    (same_home-refl b.head.home)))

-- a package of exactly the architecture is there
there-on : (place : ℕ) (b : KeptBinary) → is_exactly place b ≡ true
    → is_on place b.head.home ≡ true
there-on place b here =
    ap (is_on place) (same_home-is b.head.home (Some place) here) ∙ eq-eqb place place refl

module _ (p : Premises) (beside : KeptSource → Bool) (s : KeptSource) (w : Waiter)
    (is : IsWaiter p beside s w) (j : ℕ) (t : Mover) (at : slice_get w.movers.now j ≡ Some t)
    (asks : List Ask)
    (are : AreAsksFor p.archive w.movers.now w.mover s w.place j asks)
    (some : 0 < length asks) where
  first-ask : (ask : Ask) × Contains asks ask
  first-ask = by asks some
    where
      by : (xs : List Ask) → 0 < length xs → (ask : Ask) × Contains xs ask
      by [] none = absurd (omega arith)
      by (x ∷ xs) one = (x, has_first x xs)

  ask-is : IsAsk p.archive w.movers.now w.mover s w.place first-ask.0
  ask-is = (are.each first-ask.0 first-ask.1).0

  owner-is : ask-is.owner ≡ t
  owner-is = some_is ask-is.owner t
      (sym ask-is.at ∙ ap (slice_get w.movers.now) (are.each first-ask.0 first-ask.1).1 ∙ at)

  row-there : has_row p.archive.table s.head.archs w.place ≡ true
  row-there = (and_parts _ _ ask-is.asked).0

  -- each ask is for a package of t
  ask-of : (ask : Ask) (b : KeptBinary) → Contains asks ask
      → slice_get p.archive.binaries ask.binary ≡ Some b
      → (is_of (kept_of t).head.name b ≡ true) × (is_asked p.archive s w.place ask.is_own b ≡ true)
  ask-of ask b has there =
      let each = are.each ask has in
      let owner : each.0.owner ≡ t =
      some_is each.0.owner t (sym each.0.at ∙ ap (slice_get w.movers.now) each.1 ∙ at) in
      let item : each.0.item ≡ b = some_is each.0.item b (sym each.0.there ∙ there) in (
        subst (λ (m : Mover). is_of m.source.name.now b ≡ true) owner
            (subst (λ (c : KeptBinary). is_of each.0.owner.source.name.now c ≡ true) item
            each.0.of),
        subst (λ (c : KeptBinary). is_asked p.archive s w.place ask.is_own c ≡ true) item
            each.0.asked,
      )

  -- what is asked for of t under a name is among the asks
  asked-among : (own : Bool) (b : KeptBinary) → Contains p.archive.binaries b
      → is_of (kept_of t).head.name b ≡ true → is_exactly w.place b ≡ true
      → asks_active p.archive s w.place (names_as own b) ≡ true
      → (ask : Ask) × Contains asks ask × (slice_get p.archive.binaries ask.binary ≡ Some b)
      × (ask.is_own ≡ own)
  asked-among own b has of here asked =
      let n = has-numbered p.archive.binaries b has in
      let ask : Ask = record { binary = n.0; owner = j; is_own = own } in (
        ask,
        are.all ask (record {
          owner = t;
          at = at;
          moves = subst (λ (m : Mover). list_any is_moving_motion m.motions.at.items ≡ true)
              owner-is ask-is.moves;
          apart = λ e. ask-is.apart ((are.each first-ask.0 first-ask.1).1 ∙ e);
          item = b;
          there = n.1;
          of = of;
          asked = and_from _ _ row-there
              (and_from (is_on w.place b.head.home) _ (there-on w.place b here) asked);
        }) refl,
        n.1,
        refl,
      )

  -- the first package of the present version that s names
  pub named-is : fold (next_named p.archive (kept_of t).head.parts w.place) None asks
      ≡ first_where package_name (λ b. is_present (kept_of t) w.place b
      && asks_active p.archive s w.place (names_offer b)) p.archive.binaries
  named-is =
      let get = λ (ask : Ask). slice_get p.archive.binaries ask.binary in
      let now = is_current (kept_of t).head.parts w.place in
      let test = λ (b : KeptBinary). is_present (kept_of t) w.place b
      && asks_active p.archive s w.place (names_offer b) in
      let picked : List KeptBinary = filter_map (λ (ask : Ask). kept_if now (get ask)) asks in
      fold-picked (earlier package_name) (λ (ask : Ask). now) get None asks
      ∙ first-same package_name picked (filter test p.archive.binaries)
      (λ b c mine other up down.
      let from = picked-found (λ (ask : Ask). kept_if now (get ask)) asks b mine in
      let kept = kept-is now (get from.0) b from.2 in
      let of = has-filter test p.archive.binaries c other in
      let present = and_parts (is_present (kept_of t) w.place c) _ of.1 in
      let now_c = and_parts (is_of (kept_of t).head.name c) (now c) present.0 in
      tied p is.apart w.place b c (numbered-has p.archive.binaries from.0.binary b kept.0)
      of.0 (and_parts (is_exactly w.place b) _ kept.1).0
      (and_parts (is_exactly w.place c) _ now_c.1).0 up down)
      (λ b mine.
      let from = picked-found (λ (ask : Ask). kept_if now (get ask)) asks b mine in
      let kept = kept-is now (get from.0) b from.2 in
      let of = ask-of from.0 b from.1 kept.0 in
      let row = and_parts _ _ of.1 in
      let on = and_parts (is_on w.place b.head.home) _ row.1 in
      filter-has test p.archive.binaries b
      (numbered-has p.archive.binaries from.0.binary b kept.0)
      (and_from _ _ (and_from (is_of (kept_of t).head.name b) (now b) of.0 kept.1)
      (asks-weaker p.archive s w.place (names_as from.0.is_own b) (names_offer b)
      (as-offers from.0.is_own b) on.1)))
      (λ b mine.
      let of = has-filter test p.archive.binaries b mine in
      let both = and_parts (is_present (kept_of t) w.place b) _ of.1 in
      let present = and_parts (is_of (kept_of t).head.name b) (now b) both.0 in
      let name = asks-name p.archive s w.place b both.1 in
      let found = asked-among name.0 b of.0 present.0
      (and_parts (is_exactly w.place b) _ present.1).0 name.1 in
      picked-again (λ (ask : Ask). kept_if now (get ask)) asks found.0 b found.1
      (kept-again now (get found.0) b found.2 present.1))

  -- the first package that s names by its own name, of whatever version
  pub own-is : fold (next_own p.archive w.place) None asks
      ≡ own_package p.archive s (kept_of t) w.place
  own-is =
      let get = λ (ask : Ask). slice_get p.archive.binaries ask.binary in
      let here = λ (ask : Ask) (b : KeptBinary). ask.is_own && is_exactly w.place b in
      let test = λ (b : KeptBinary). is_of (kept_of t).head.name b && (is_exactly w.place b
      && asks_active p.archive s w.place (names_itself b)) in
      let picked : List KeptBinary =
      filter_map (λ (ask : Ask). kept_if (here ask) (get ask)) asks in
      fold-picked (earlier package_name) here get None asks
      ∙ first-same package_name picked (filter test p.archive.binaries)
      (λ b c mine other up down.
      let from = picked-found (λ (ask : Ask). kept_if (here ask) (get ask)) asks b mine in
      let kept = kept-is (here from.0) (get from.0) b from.2 in
      let of = has-filter test p.archive.binaries c other in
      let there = and_parts (is_of (kept_of t).head.name c) _ of.1 in
      tied p is.apart w.place b c (numbered-has p.archive.binaries from.0.binary b kept.0)
      of.0 (and_parts from.0.is_own (is_exactly w.place b) kept.1).1
      (and_parts (is_exactly w.place c) _ there.1).0 up down)
      (λ b mine.
      let from = picked-found (λ (ask : Ask). kept_if (here ask) (get ask)) asks b mine in
      let kept = kept-is (here from.0) (get from.0) b from.2 in
      let own = and_parts from.0.is_own (is_exactly w.place b) kept.1 in
      let of = ask-of from.0 b from.1 kept.0 in
      let row = and_parts _ _ of.1 in
      let on = and_parts (is_on w.place b.head.home) _ row.1 in
      filter-has test p.archive.binaries b
      (numbered-has p.archive.binaries from.0.binary b kept.0)
      (and_from (is_of (kept_of t).head.name b) _ of.0 (and_from (is_exactly w.place b) _ own.1
      (subst (λ (o : Bool). asks_active p.archive s w.place (names_as o b) ≡ true) own.0
      on.1))))
      (λ b mine.
      let of = has-filter test p.archive.binaries b mine in
      let both = and_parts (is_of (kept_of t).head.name b) _ of.1 in
      let there = and_parts (is_exactly w.place b) _ both.1 in
      let found = asked-among true b of.0 both.0 there.0 there.1 in
      picked-again (λ (ask : Ask). kept_if (here ask) (get ask)) asks found.0 b found.1
      (kept-again (here found.0) (get found.0) b found.2
      (and_from found.0.is_own (is_exactly w.place b) found.3 there.0)))

-- s waits for the package of t that `package_for` gives
pub wait-is : (p : Premises) (s t : KeptSource) (place : ℕ) → wait_of p s place t
    ≡ option_and_then (λ q. wait_for t q.0 (arrival_base t q.0) (arrival_number p t place) q.1)
    (package_for p.archive s t place)
wait-is p s t place = by (present_package p.archive s t place)
  where
    old : (o : Option KeptBinary) → wait_if t (arrival_number p t place) true o
        ≡ option_and_then (λ q. wait_for t q.0 (arrival_base t q.0) (arrival_number p t place) q.1)
        (either_package None o)
    old None = refl
    old (Some b) = refl

    by : (present : Option KeptBinary) → wait_with p s t place present
        ≡ option_and_then (λ q. wait_for t q.0 (arrival_base t q.0) (arrival_number p t place) q.1)
        (either_package present (own_package p.archive s t place))
    by None = old (own_package p.archive s t place)
    by (Some b) = refl

-- ---- 2. owner by owner

pub at-below : {A : Type 0} (xs : List A) (k : ℕ) → k < length xs
    → (x : A) × (slice_get xs k ≡ Some x)
at-below [] k low = absurd (omega arith)
at-below (x ∷ xs) zero low = (x, refl)
at-below (x ∷ xs) (suc k) low = at-below xs k (omega arith)

take-one : {A : Type 0} (xs : List A) (k : ℕ) (x : A) → slice_get xs k ≡ Some x
    → take (k + 1) xs ≡ take k xs ++ x ∷ []
take-one xs k x at =
    take_more xs k x (slice_get_within xs k x at)
    ∙ ap (λ y. take k xs ++ y ∷ []) (get_or_from_slice_get xs k x x at)

module _ (test : KeptSource → Bool) (ms : List Mover) where
  -- of the sources up to a number those that pass a test
  abbrev pub passing : ℕ → List KeptSource
  passing k = filter test (map kept_of (take k ms))

  pub passing-push : (k : ℕ) (t : Mover) → slice_get ms k ≡ Some t
      → passing (k + 1) ≡ passing k ++ filter test (kept_of t ∷ [])
  passing-push k t at =
      ap (λ (l : List Mover). filter test (map kept_of l)) (take-one ms k t at)
      ∙ ap (filter test) (map-append kept_of (take k ms) (t ∷ []))
      ∙ filter-append test (map kept_of (take k ms)) (kept_of t ∷ [])

  -- none between two numbers passes
  skip-by : (low n : ℕ) → low + n ≤ length ms
      → ((k : ℕ) (t : Mover) → low ≤ k → k < low + n → slice_get ms k ≡ Some t
      → test (kept_of t) ≡ false)
      → passing (low + n) ≡ passing low
  skip-by low zero within none = ap passing (omega arith)
  skip-by low (suc n) within none =
      let t = at-below ms (low + n) (omega arith) in
      let here : filter test (kept_of t.0 ∷ []) ≡ [] =
      ap (λ (b : Bool). cond b (kept_of t.0 ∷ []) [])
      (none (low + n) t.0 (omega arith) (omega arith) t.1) in
      let next : low + suc n ≡ low + n + 1 = omega arith in
      ap passing next
      ∙ passing-push (low + n) t.0 t.1
      ∙ ap (λ (l : List KeptSource). passing (low + n) ++ l) here
      ∙ append-nil (passing (low + n))
      ∙ skip-by low n (omega arith)
      (λ k m up down at. none k m up (omega arith) at)

  pub passing-skip : (low high : ℕ) → low ≤ high → high ≤ length ms
      → ((k : ℕ) (t : Mover) → low ≤ k → k < high → slice_get ms k ≡ Some t
      → test (kept_of t) ≡ false)
      → passing high ≡ passing low
  passing-skip low high up within none =
      let is : low + (high - low) ≡ high = omega arith in
      ap passing (sym is)
      ∙ skip-by low (high - low) (omega arith)
      (λ k t above below at. none k t above (omega arith) at)

module _ (p : Premises) (beside : KeptSource → Bool) (s : KeptSource) (place : ℕ)
    (ms : List Mover) where
  pub awaited-push : (k : ℕ) (t : Mover) → slice_get ms k ≡ Some t
      → awaited_among p beside s place (map kept_of (take (k + 1) ms))
      ≡ awaited_among p beside s place (map kept_of (take k ms))
      ++ awaited_among p beside s place (kept_of t ∷ [])
  awaited-push = passing-push (is_awaited p beside s place) ms

  pub awaited-skip : (low high : ℕ) → low ≤ high → high ≤ length ms
      → ((k : ℕ) (t : Mover) → low ≤ k → k < high → slice_get ms k ≡ Some t
      → is_awaited p beside s place (kept_of t) ≡ false)
      → awaited_among p beside s place (map kept_of (take high ms))
      ≡ awaited_among p beside s place (map kept_of (take low ms))
  awaited-skip = passing-skip (is_awaited p beside s place) ms
