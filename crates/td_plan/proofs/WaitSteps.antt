-- What a waiter finds, step by step.
use Rattle.std.proofs.Common.{◌≡◌, ℕ, ◌<◌, ◌&&◌, not, Bool, true}
use Rattle.std.proofs.Common.{false, cond, List, [], ◌∷◌, ◌++◌, length, get_or, map}
use Rattle.std.proofs.Common.{Option}
use Rattle.std.proofs.Common.{Some, None, refl, sym, ap, ◌∙◌, fold}
use Rattle.std.proofs.Common.{append-nil, OnOk, Result, Ok, Err}
use Rattle.std.specs.Prelude.{filter, is_none, option_map, slice_get, slice_index_or}
use Rattle.std.specs.List.{Contains, cons_option, filter_map}
use Rattle.std.specs.Option.{option_and_then, option_or}
use Rattle.std.proofs.lemmas.Bool.{and_from, and_left, and_right}
use Rattle.std.proofs.lemmas.Option.{get_or_from_slice_get}
use Rattle.td_text.proofs.Chain.{some_is}
use Rattle.td_indices.specs.Archive.{Contents}
use Rattle.td_indices.specs.Kept.{KeptBinary}
use Rattle.td_indices.specs.Sources.{KeptSource}
use Rattle.td_plan.specs.declared.asks.Ask.{Ask}
use Rattle.td_plan.specs.declared.movers.Mover.{Mover}
use Rattle.td_plan.specs.declared.waits.Wait.{Wait}
use Rattle.td_plan.specs.declared.waits.Waiter.{Waiter}
use Rattle.td_plan.specs.declared.waits.Waits.{Waits}
use Rattle.td_plan.specs.BuildsThere.{asks_active, builds_there, names_offer}
use Rattle.td_plan.specs.Due.{arrival_number, is_moving, is_present}
use Rattle.td_plan.specs.InOrder.{first_where}
use Rattle.td_plan.specs.Packages.{arrival_base, own_package, package_name, present_package}
use Rattle.td_plan.specs.Premises.{Premises, name_of}
use Rattle.td_plan.specs.Waits as spec
use Rattle.td_plan.specs.Waits.{is_waitless, wait_for, wait_of}
use Rattle.td_plan.specs.inner.Asked.{AreAsksFor}
use Rattle.td_plan.specs.inner.Movers.{arrival_of, package_numbered}
use Rattle.td_plan.specs.inner.Waiters.{AreAdded, IsWaiter, awaited_among, chosen_package}
use Rattle.td_plan.specs.inner.Waiters.{either_package, is_awaited, is_of_part, kept_of}
use Rattle.td_plan.specs.inner.Waiters.{package_for}
use Rattle.td_plan.specs.inner.Waiters.{seen_waits, waitless_names}
use Rattle.td_plan.specs.inner.Waiting.{next_named, next_own, seen}
use Rattle.td_plan.proofs.Asked.{ask-builds, arrival-is}
use Rattle.td_plan.proofs.Waiters.{at-below, named-is, own-is}
use Rattle.td_plan.proofs.Waiters.{wait-is}

-- two facts after a call
pub both-ok : {T E P Q R : Type 0} (r : Result T E) → OnOk r P → OnOk r Q → (P → Q → R) → OnOk r R
both-ok (Ok x) left right h = h left right
both-ok (Err e) left right h = tt

-- ---- 1. the package of an owner

-- the first of two options holds if it has something, else the second
or-some : {A : Type 0} (o q : Option A) (x : A) → o ≡ Some x → option_or o q ≡ Some x
or-some o q x is = ap (λ (r : Option _). option_or r q) is

or-none : {A : Type 0} (o q : Option A) → o ≡ None → option_or o q ≡ q
or-none o q is = ap (λ (r : Option _). option_or r q) is

module _ (p : Premises) (beside : KeptSource → Bool) (s : KeptSource) (w : Waiter)
    (is : IsWaiter p beside s w) (j : ℕ) (t : Mover) (at : slice_get w.movers.now j ≡ Some t)
    (asks : List Ask)
    (are : AreAsksFor p.archive w.movers.now w.mover s w.place j asks)
    (some : 0 < length asks) where
  numbered-there : (o : Option ℕ)
      → package_numbered p.archive o ≡ package_numbered w.archive.now o
  numbered-there o = ap (λ (a : Contents). package_numbered a o) (sym is.archive)

  named-there : (first : Option ℕ)
      → package_numbered w.archive.now first
      ≡ fold (next_named w.archive.now (kept_of t).head.parts w.place) None asks
      → package_numbered w.archive.now first
      ≡ first_where package_name (λ b. is_present (kept_of t) w.place b
      && asks_active p.archive s w.place (names_offer b)) p.archive.binaries
  named-there first named =
      named
      ∙ ap (λ (a : Contents). fold (next_named a (kept_of t).head.parts w.place) None asks)
      is.archive
      ∙ named-is p beside s w is j t at asks are some

  -- the package is the first that is named there
  pub present-found : (first : Option ℕ) (n : ℕ)
      → package_numbered w.archive.now first
      ≡ fold (next_named w.archive.now (kept_of t).head.parts w.place) None asks
      → package_numbered w.archive.now (Some n) ≡ package_numbered w.archive.now first
      → n < length w.archive.now.binaries
      → package_numbered p.archive (Some n) ≡ present_package p.archive s (kept_of t) w.place
  present-found first n named known low =
      let b = at-below w.archive.now.binaries n low in
      let found = sym (known ∙ named-there first named) ∙ b.1 in
      numbered-there (Some n) ∙ b.1
      ∙ sym (or-some _ (first_where package_name (is_present (kept_of t) w.place)
      p.archive.binaries) b.0 found)

  -- the package is the first of all, if none is named there
  pub present-other : (first second : Option ℕ)
      → package_numbered w.archive.now first
      ≡ fold (next_named w.archive.now (kept_of t).head.parts w.place) None asks
      → None ≡ package_numbered w.archive.now first
      → package_numbered w.archive.now second
      ≡ package_numbered w.archive.now (slice_index_or t.packages.items w.place None)
      → package_numbered p.archive second ≡ present_package p.archive s (kept_of t) w.place
  present-other first second named none known =
      let found = sym (none ∙ named-there first named) in
      numbered-there second ∙ known
      ∙ sym (numbered-there (slice_index_or t.packages.items w.place None))
      ∙ (is.movers.each j t at).packages.at w.place is.place
      ∙ sym (or-none _ (first_where package_name (is_present (kept_of t) w.place)
      p.archive.binaries) found)

  pub chosen-present : (n : ℕ)
      → package_numbered p.archive (Some n) ≡ present_package p.archive s (kept_of t) w.place
      → n < length w.archive.now.binaries → chosen_package p.archive (Some (n, false))
      ≡ package_for p.archive s (kept_of t) w.place
  chosen-present n present low =
      let b = at-below w.archive.now.binaries n low in
      let there : slice_get p.archive.binaries n ≡ Some b.0 =
      ap (λ (a : Contents). slice_get a.binaries n) (sym is.archive) ∙ b.1 in
      ap (option_map (λ (c : KeptBinary). (c, false))) there
      ∙ ap (λ (o : Option KeptBinary).
      either_package o (own_package p.archive s (kept_of t) w.place))
      (sym there ∙ present)

  own-there : (own : Option ℕ)
      → package_numbered w.archive.now own ≡ fold (next_own w.archive.now w.place) None asks
      → package_numbered p.archive own ≡ own_package p.archive s (kept_of t) w.place
  own-there own is_own =
      numbered-there own ∙ is_own
      ∙ ap (λ (a : Contents). fold (next_own a w.place) None asks) is.archive
      ∙ own-is p beside s w is j t at asks are some

  pub chosen-own : (n : ℕ)
      → None ≡ present_package p.archive s (kept_of t) w.place
      → package_numbered w.archive.now (Some n) ≡ fold (next_own w.archive.now w.place) None asks
      → chosen_package p.archive (Some (n, true)) ≡ package_for p.archive s (kept_of t) w.place
  chosen-own n none own =
      ap (option_map (λ (b : KeptBinary). (b, true))) (own-there (Some n) own)
      ∙ ap (λ (o : Option KeptBinary).
      either_package o (own_package p.archive s (kept_of t) w.place))
      none

  pub chosen-none : None ≡ present_package p.archive s (kept_of t) w.place
      → None ≡ fold (next_own w.archive.now w.place) None asks
      → None ≡ package_for p.archive s (kept_of t) w.place
  chosen-none none own =
      ap (option_map (λ (b : KeptBinary). (b, true))) (own-there None own)
      ∙ ap (λ (o : Option KeptBinary).
      either_package o (own_package p.archive s (kept_of t) w.place))
      none

  -- ---- 2. the wait for it

  pub wait-none : None ≡ package_for p.archive s (kept_of t) w.place
      → None ≡ wait_of p s w.place (kept_of t)
  wait-none none =
      ap (option_and_then (λ (q : KeptBinary × Bool).
      wait_for (kept_of t) q.0 (arrival_base (kept_of t) q.0)
      (arrival_number p (kept_of t) w.place) q.1)) none
      ∙ sym (wait-is p s (kept_of t) w.place)

  pub wait-some : (n arrival : ℕ) (older : Bool) (wait : Option spec.Wait)
      → chosen_package p.archive (Some (n, older)) ≡ package_for p.archive s (kept_of t) w.place
      → wait ≡ option_and_then (λ b. wait_for (kept_of t) b (arrival_base (kept_of t) b)
      arrival older) (slice_get w.archive.now.binaries n)
      → arrival ≡ arrival_number p (kept_of t) w.place → wait ≡ wait_of p s w.place (kept_of t)
  wait-some n arrival older wait chosen found number =
      found
      ∙ ap (λ (a : Contents). option_and_then (λ b. wait_for (kept_of t) b
      (arrival_base (kept_of t) b) arrival older) (slice_get a.binaries n)) is.archive
      ∙ ap (λ (k : ℕ). option_and_then (λ b. wait_for (kept_of t) b (arrival_base (kept_of t) b) k
      older) (slice_get p.archive.binaries n)) number
      ∙ paired (slice_get p.archive.binaries n)
      ∙ ap (option_and_then (λ (q : KeptBinary × Bool).
      wait_for (kept_of t) q.0 (arrival_base (kept_of t) q.0)
      (arrival_number p (kept_of t) w.place) q.1)) chosen
      ∙ sym (wait-is p s (kept_of t) w.place)
    where
      paired : (o : Option KeptBinary)
          → option_and_then (λ b. wait_for (kept_of t) b (arrival_base (kept_of t) b)
          (arrival_number p (kept_of t) w.place) older) o
          ≡ option_and_then (λ (q : KeptBinary × Bool).
          wait_for (kept_of t) q.0 (arrival_base (kept_of t) q.0)
          (arrival_number p (kept_of t) w.place) q.1)
          (option_map (λ (b : KeptBinary). (b, older)) o)
      paired None = refl
      paired (Some b) = refl

  -- ---- 3. what is added for the owner

  -- the owner of the first ask is the owner of all
  pub owner-first : (number : ℕ) → ((d : Ask) → number ≡ (get_or asks 0 d).owner) → number ≡ j
  owner-first number first =
      let ask = at-below asks 0 some in
      let has : Contains asks ask.0 =
      (0, some, get_or_from_slice_get asks 0 ask.0 ask.0 ask.1) in
      first ask.0 ∙ ap (λ (a : Ask). a.owner) (get_or_from_slice_get asks 0 ask.0 ask.0 ask.1)
      ∙ (are.each ask.0 has).1

  -- the source builds on the owner
  builds : builds_there p.archive w.place s (kept_of t) ≡ true
  builds =
      let first = at-below asks 0 some in
      let has : Contains asks first.0 =
      (0, some, get_or_from_slice_get asks 0 first.0 first.0 first.1) in
      let each = are.each first.0 has in
      ask-builds p w.movers.now is.movers w.mover is.own is.at s is.is w.place is.place first.0 t
      (ap (slice_get w.movers.now) each.1 ∙ at) each.0

  awaited-not : is_of_part w.firsts.now w.mover j ≡ true
      → is_awaited p beside s w.place (kept_of t) ≡ false
  awaited-not part =
      let of : beside (kept_of t) ≡ true = sym (is.parts j t at) ∙ part in
      and_right (is_moving p (kept_of t) w.place) _ (and_right
      (builds_there p.archive w.place s (kept_of t)) _ (ap not of))

  still-not : is_moving p (kept_of t) w.place ≡ false
      → is_awaited p beside s w.place (kept_of t) ≡ false
  still-not still = and_left (is_moving p (kept_of t) w.place) _ still

  added-nothing : (old : Waits) → is_awaited p beside s w.place (kept_of t) ≡ false
      → AreAdded p beside s w.place (kept_of t ∷ []) old old
  added-nothing old fails =
      let none : awaited_among p beside s w.place (kept_of t ∷ []) ≡ [] =
      ap (λ (b : Bool). cond b (kept_of t ∷ []) []) fails in
      record {
        waits = sym (ap (λ (l : List KeptSource). seen_waits old
            ++ filter_map (wait_of p s w.place) l) none ∙ append-nil (seen_waits old));
        waitless = sym (ap (λ (l : List KeptSource). waitless_names old
            ++ map name_of (filter (is_waitless p s w.place) l)) none
            ∙ append-nil (waitless_names old));
      }

  pub added-beside : (old : Waits) → is_of_part w.firsts.now w.mover j ≡ true
      → AreAdded p beside s w.place (kept_of t ∷ []) old old
  added-beside old part = added-nothing old (awaited-not part)

  -- whether the owner's row arrives, and with which number
  arrival-found : (arrival : ℕ) (o : Option ℕ)
      → o ≡ cond (is_moving p (kept_of t) w.place) (Some (arrival_number p (kept_of t) w.place))
      None → o ≡ Some arrival
      → (is_moving p (kept_of t) w.place ≡ true)
      × (arrival ≡ arrival_number p (kept_of t) w.place)
  arrival-found arrival o has found = by (is_moving p (kept_of t) w.place) refl (sym has ∙ found)
    where
      by : (b : Bool) → is_moving p (kept_of t) w.place ≡ b
          → cond b (Some (arrival_number p (kept_of t) w.place)) None ≡ Some arrival
          → (is_moving p (kept_of t) w.place ≡ true)
          × (arrival ≡ arrival_number p (kept_of t) w.place)
      by true moving g = (moving, sym (some_is _ arrival g))
      by false moving g = absurd (cc)

  arrival-none : (o : Option ℕ)
      → o ≡ cond (is_moving p (kept_of t) w.place) (Some (arrival_number p (kept_of t) w.place))
      None → o ≡ None → is_moving p (kept_of t) w.place ≡ false
  arrival-none o has none = by (is_moving p (kept_of t) w.place) refl (sym has ∙ none)
    where
      by : (b : Bool) → is_moving p (kept_of t) w.place ≡ b
          → cond b (Some (arrival_number p (kept_of t) w.place)) None ≡ None
          → is_moving p (kept_of t) w.place ≡ false
      by true moving g = absurd (cc)
      by false moving g = moving

  pub arrives : (arrival : ℕ)
      → option_and_then (arrival_of t.motions.number) (slice_get t.motions.at.items w.place)
      ≡ Some arrival
      → (is_moving p (kept_of t) w.place ≡ true)
      × (arrival ≡ arrival_number p (kept_of t) w.place)
  arrives arrival found = arrival-found arrival _
      (arrival-is p t (is.movers.each j t at) w.place is.place) found

  pub added-still : (old : Waits)
      → option_and_then (arrival_of t.motions.number) (slice_get t.motions.at.items w.place) ≡ None
      → AreAdded p beside s w.place (kept_of t ∷ []) old old
  added-still old none = added-nothing old (still-not (arrival-none _
      (arrival-is p t (is.movers.each j t at) w.place is.place) none))

  pub added-wait : (old new : Waits) (wait : Option Wait)
      → is_of_part w.firsts.now w.mover j ≡ false → is_moving p (kept_of t) w.place ≡ true
      → option_map seen wait ≡ wait_of p s w.place (kept_of t)
      → seen_waits new ≡ seen_waits old ++ cons_option (option_map seen wait) []
      → waitless_names new ≡ waitless_names old
      ++ cond (is_none wait) ((kept_of t).head.name ∷ []) []
      → AreAdded p beside s w.place (kept_of t ∷ []) old new
  added-wait old new wait part moving found waits names =
      let apart : not (beside (kept_of t)) ≡ true =
      ap not (sym (is.parts j t at) ∙ part) in
      let awaits : is_awaited p beside s w.place (kept_of t) ≡ true =
      and_from (is_moving p (kept_of t) w.place) _ moving
      (and_from (builds_there p.archive w.place s (kept_of t)) _ builds apart) in
      let one : awaited_among p beside s w.place (kept_of t ∷ []) ≡ kept_of t ∷ [] =
      ap (λ (b : Bool). cond b (kept_of t ∷ []) []) awaits in
      record {
        waits = waits
            ∙ ap (λ (o : Option spec.Wait). seen_waits old ++ cons_option o []) found
            ∙ sym (ap (λ (l : List KeptSource). seen_waits old
            ++ filter_map (wait_of p s w.place) l) one);
        waitless = names
            ∙ ap (λ (l : List (List ℕ)). waitless_names old ++ l)
            (nothing wait (wait_of p s w.place (kept_of t)) found)
            ∙ sym (ap (λ (l : List KeptSource). waitless_names old
            ++ map name_of (filter (is_waitless p s w.place) l)) one);
      }
    where
      nothing : (o : Option Wait) (q : Option spec.Wait) → option_map seen o ≡ q
          → cond (is_none o) ((kept_of t).head.name ∷ []) []
          ≡ map name_of (cond (is_none q) (kept_of t ∷ []) [])
      nothing None q same = ap (λ (r : Option spec.Wait).
          map name_of (cond (is_none r) (kept_of t ∷ []) [])) same
      nothing (Some v) q same = ap (λ (r : Option spec.Wait).
          map name_of (cond (is_none r) (kept_of t ∷ []) [])) same
