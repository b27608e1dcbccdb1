-- What is asked for at a place, and on what a source builds there.
use Rattle.std.proofs.Common.{◌≡◌, ℕ, ◌<◌, ◌&&◌, ◌||◌, not, Bool, true, false, List}
use Rattle.std.proofs.Common.{Some, None}
use Rattle.std.proofs.Common.{refl, sym, ap, subst, ◌∙◌, inl, inr, cond, length}
use Rattle.std.specs.Prelude.{slice_get}
use Rattle.std.specs.List.{Contains, list_any}
use Rattle.std.specs.Option.{option_and_then}
use Rattle.std.specs.Str.{bytes_eq}
use Rattle.std.proofs.lemmas.Bool.{and_from, and_parts, cases_Bool, cases_order, false≢true}
use Rattle.std.proofs.lemmas.Bool.{false_from_ne_true, not_from_false, or_cases, or_left, or_right}
use Rattle.std.proofs.lemmas.Slice.Eq.{bytes_eq-Decides}
use Rattle.td_text.proofs.Chain.{some_is}
use Rattle.td_relation.specs.Asked.{Asked}
use Rattle.td_relation.specs.Meeting.{is_on}
use Rattle.td_indices.specs.Archive.{Contents, is_of}
use Rattle.td_indices.specs.Kept.{KeptBinary}
use Rattle.td_indices.specs.Sources.{KeptSource}
use Rattle.td_indices.specs.Stanzas.{build_depends_arch_of, build_depends_of}
use Rattle.td_query.specs.Tracking.{Tracking}
use Rattle.td_waves.specs.BuildsOn.{is_active_at, some_asked}
use Rattle.td_plan.specs.declared.asks.Ask.{Ask}
use Rattle.td_plan.specs.declared.due.Motion.TheVariants.{Due, Pending, Still}
use Rattle.td_plan.specs.declared.movers.Mover.{Mover}
use Rattle.td_plan.specs.BuildsThere.{asks_active, asks_there, builds_there, names_itself}
use Rattle.td_plan.specs.BuildsThere.{names_offer}
use Rattle.td_plan.specs.Due.{arrival_number, is_due, is_moving, is_pending, number_of}
use Rattle.td_plan.specs.InOrder.{is_before}
use Rattle.td_plan.specs.Premises.{Premises}
use Rattle.td_plan.specs.inner.Asked.{AreAsks, IsAsk, is_asked, names_as}
use Rattle.td_plan.specs.inner.Motions.{motion_at}
use Rattle.td_plan.specs.inner.Movers.{AreAllOf, AreMovers, IsMover, arrival_of}
use Rattle.td_plan.specs.inner.Movers.{has_moving_motion}
use Rattle.td_plan.specs.inner.Movers.{is_moving_motion}
use Rattle.td_plan.specs.inner.Waiters.{is_awaited, kept_of}
use Rattle.td_plan.proofs.Chosen.{any-again, any-found}
use Rattle.td_plan.proofs.InOrders.{before-itself}
use Rattle.td_plan.proofs.Picked.{has-numbered, numbered-has}
use Rattle.td_plan.proofs.Somewhere.{asked-again, asked-found}

-- ---- 1. by which name a package is asked for

itself-offers : (b : KeptBinary) (x : Asked) → names_itself b x ≡ true → names_offer b x ≡ true
itself-offers b x is = or_left (bytes_eq x.name b.head.name) _ is

pub as-offers : (own : Bool) (b : KeptBinary) (x : Asked) → names_as own b x ≡ true
    → names_offer b x ≡ true
as-offers true b x is = itself-offers b x is
as-offers false b x is = (and_parts (names_offer b x) (not (names_itself b x)) is).0

either-name : (b : KeptBinary) (x : Asked) → names_offer b x ≡ true
    → (own : Bool) × (names_as own b x ≡ true)
either-name b x is = elim (cases_Bool (names_itself b x)) [
  | inl itself ↦ (true, itself)
  | inr other ↦ (
    false,
    and_from (names_offer b x) (not (names_itself b x)) is
        (not_from_false (names_itself b x) other),
  )
]

module _ (a : Contents) (s : KeptSource) (place : ℕ) where
  weaker-in : (f g : Asked → Bool) (members : List (List Asked))
      → ((x : Asked) → f x ≡ true → g x ≡ true)
      → some_asked (λ x. is_active_at a.table place x && f x) members ≡ true
      → some_asked (λ x. is_active_at a.table place x && g x) members ≡ true
  weaker-in f g members h is =
      let found = asked-found (λ x. is_active_at a.table place x && f x) members is in
      let x = found.alternative in
      let both = and_parts (is_active_at a.table place x) (f x) found.passes in
      asked-again (λ y. is_active_at a.table place y && g y) members (record {
        member = found.member;
        in_field = found.in_field;
        alternative = x;
        named = found.named;
        passes = and_from (is_active_at a.table place x) (g x) both.0 (h x both.1);
      })

  pub asks-weaker : (f g : Asked → Bool) → ((x : Asked) → f x ≡ true → g x ≡ true)
      → asks_active a s place f ≡ true → asks_active a s place g ≡ true
  asks-weaker f g h is = elim (or_cases _ _ is) [
    | inl first ↦ or_left _ _ (weaker-in f g (build_depends_of a s) h first)
    | inr second ↦ or_right _ _ (weaker-in f g (build_depends_arch_of a s) h second)
  ]

  name-in : (b : KeptBinary) (members : List (List Asked))
      → some_asked (λ x. is_active_at a.table place x && names_offer b x) members ≡ true
      → (own : Bool)
      × (some_asked (λ x. is_active_at a.table place x && names_as own b x) members ≡ true)
  name-in b members is =
      let found = asked-found (λ x. is_active_at a.table place x && names_offer b x) members is in
      let x = found.alternative in
      let both = and_parts (is_active_at a.table place x) (names_offer b x) found.passes in
      let name = either-name b x both.1 in (
        name.0,
        asked-again (λ y. is_active_at a.table place y && names_as name.0 b y) members (record {
          member = found.member;
          in_field = found.in_field;
          alternative = x;
          named = found.named;
          passes = and_from (is_active_at a.table place x) (names_as name.0 b x) both.0 name.1;
        }),
      )

  pub asks-name : (b : KeptBinary) → asks_active a s place (names_offer b) ≡ true
      → (own : Bool) × (asks_active a s place (names_as own b) ≡ true)
  asks-name b is = elim (or_cases _ _ is) [
    | inl first ↦ (let name = name-in b (build_depends_of a s) first in
        (name.0, or_left _ _ name.1))
    | inr second ↦ (let name = name-in b (build_depends_arch_of a s) second in
        (name.0, or_right _ _ name.1))
  ]

  -- what is asked for by some name is asked for there
  pub asked-there : (own : Bool) (b : KeptBinary) → is_asked a s place own b ≡ true
      → asks_there a s place b ≡ true
  asked-there own b is =
      let row = and_parts _ _ is in
      let on = and_parts (is_on place b.head.home) _ row.1 in
      and_from _ _ row.0 (and_from (is_on place b.head.home) _ on.0
      (asks-weaker (names_as own b) (names_offer b) (as-offers own b) on.1))

  pub there-asked : (b : KeptBinary) → asks_there a s place b ≡ true
      → (own : Bool) × (is_asked a s place own b ≡ true)
  there-asked b is =
      let row = and_parts _ _ is in
      let on = and_parts (is_on place b.head.home) _ row.1 in
      let name = asks-name b on.1 in
      (name.0, and_from _ _ row.0 (and_from (is_on place b.head.home) _ on.0 name.1))

-- ---- 2. rows that move

pub moving-is : (due pending : Bool) (n : ℕ)
    → is_moving_motion (cond due Due (cond pending (Pending n) Still)) ≡ (due || pending)
moving-is true pending n = refl
moving-is false true n = refl
moving-is false false n = refl

arrives-by : (due pending : Bool) (number own arrival : ℕ) → cond due number own ≡ arrival
    → (n : ℕ) → n ≡ arrival → (m : ℕ) → m ≡ number
    → arrival_of m (cond due Due (cond pending (Pending n) Still))
    ≡ cond (due || pending) (Some arrival) None
arrives-by true pending number own arrival is n at m of = ap (λ k. Some k) (of ∙ is)
arrives-by false true number own arrival is n at m of = ap (λ k. Some k) at
arrives-by false false number own arrival is n at m of = refl

module _ (p : Premises) (m : Mover) (is : IsMover p m (kept_of m)) (place : ℕ)
    (within : place < length p.archive.table) where
  motion-there : slice_get m.motions.at.items place ≡ Some (motion_at p (kept_of m) place)
  motion-there = is.motions.at place within

  -- a source moves if a row of it does
  pub mover-moves : is_moving p (kept_of m) place ≡ true
      → list_any is_moving_motion m.motions.at.items ≡ true
  mover-moves moving = any-again is_moving_motion m.motions.at.items
      (motion_at p (kept_of m) place)
      (numbered-has m.motions.at.items place (motion_at p (kept_of m) place) motion-there)
      (moving-is (is_due p (kept_of m) place) (is_pending p (kept_of m) place)
      (arrival_number p (kept_of m) place) ∙ moving)

  pub arrival-is : option_and_then (arrival_of m.motions.number)
      (slice_get m.motions.at.items place)
      ≡ cond (is_moving p (kept_of m) place) (Some (arrival_number p (kept_of m) place)) None
  arrival-is =
      ap (option_and_then (arrival_of m.motions.number)) motion-there
      ∙ arrives-by (is_due p (kept_of m) place) (is_pending p (kept_of m) place)
      (number_of p (kept_of m)) _ (arrival_number p (kept_of m) place) refl
      (arrival_number p (kept_of m) place) refl m.motions.number is.motions.number

-- ---- 3. asks, and whom a source waits for

pub names-differ : (a : Contents) (x : Tracking) (Is : Mover → Type 0) (ms : List Mover)
    → AreAllOf Is a x ms → (j k : ℕ) (m n : Mover) → slice_get ms j ≡ Some m
    → slice_get ms k ≡ Some n → ¬ (j ≡ k) → ¬ (m.source.name.now ≡ n.source.name.now)
names-differ a x Is ms are j k m n left right apart same = elim (cases_order j k) [
  | inl one ↦ apart one
  | inr other ↦ elim other [
    | inl low ↦ false≢true (sym (before-itself m.source.name.now)
        ∙ subst (λ w. is_before m.source.name.now w ≡ true) (sym same)
        (are.rising j k m n low left right))
    | inr high ↦ false≢true (sym (before-itself m.source.name.now)
        ∙ subst (λ w. is_before w m.source.name.now ≡ true) (sym same)
        (are.rising k j n m high right left))
  ]
]

pub names-apart : (p : Premises) (ms : List Mover) → AreMovers p ms → (j k : ℕ) (m n : Mover)
    → slice_get ms j ≡ Some m → slice_get ms k ≡ Some n → ¬ (j ≡ k)
    → ¬ (m.source.name.now ≡ n.source.name.now)
names-apart p = names-differ p.archive p.tracker (λ m. IsMover p m (kept_of m))

-- a source among those that are affected, and a place
module _ (a : Contents) (x : Tracking) (Is : Mover → Type 0) (ms : List Mover)
    (are : AreAllOf Is a x ms) (own : ℕ) (mine : Mover) (mine-at : slice_get ms own ≡ Some mine)
    (s : KeptSource) (same : kept_of mine ≡ s) (place : ℕ) where
  apart-from : (k : ℕ) (t : Mover) → slice_get ms k ≡ Some t → ¬ (k ≡ own)
      → not (bytes_eq s.head.name (kept_of t).head.name) ≡ true
  apart-from k t at apart =
      not_from_false (bytes_eq s.head.name (kept_of t).head.name)
      (false_from_ne_true (bytes_eq s.head.name (kept_of t).head.name) (λ one.
      names-differ a x Is ms are own k mine t mine-at at (λ e. apart (sym e))
      (ap (λ (u : KeptSource). u.head.name) same
      ∙ (bytes_eq-Decides s.head.name (kept_of t).head.name).0 one)))

  -- a source builds there on the source whose package it asks for
  pub ask-built : (ask : Ask) (t : Mover) → slice_get ms ask.owner ≡ Some t
      → IsAsk a ms own s place ask → builds_there a place s (kept_of t) ≡ true
  ask-built ask t at of =
      let one : of.owner ≡ t = some_is of.owner t (sym of.at ∙ at) in
      let its : is_of t.source.name.now of.item ≡ true =
      subst (λ (u : Mover). is_of u.source.name.now of.item ≡ true) one of.of in
      and_from _ _ (apart-from ask.owner t at of.apart)
      (any-again (λ b. is_of (kept_of t).head.name b && asks_there a s place b) a.binaries of.item
      (numbered-has a.binaries ask.binary of.item of.there)
      (and_from (is_of t.source.name.now of.item) _ its
      (asked-there a s place ask.is_own of.item of.asked)))

  -- a source asks for each package of another one that moves, where its build asks for what the
  -- package offers
  pub there-ask : (k : ℕ) (t : Mover) → slice_get ms k ≡ Some t → has_moving_motion t ≡ true
      → not (bytes_eq s.head.name (kept_of t).head.name) ≡ true
      → (number : ℕ) (b : KeptBinary) → slice_get a.binaries number ≡ Some b
      → is_of (kept_of t).head.name b ≡ true → asks_there a s place b ≡ true
      → (ask : Ask) × (ask.owner ≡ k) × (ask.binary ≡ number) × IsAsk a ms own s place ask
  there-ask k t at moves differ number b there its asks =
      let name = there-asked a s place b asks in
      let apart : ¬ (k ≡ own) = λ one.
      let it : mine ≡ t = some_is mine t (sym mine-at ∙ ap (slice_get ms) (sym one) ∙ at) in
      let names : s.head.name ≡ (kept_of t).head.name =
      ap (λ (u : KeptSource). u.head.name) (sym same ∙ ap kept_of it) in
      let bad : false ≡ true =
      sym (ap not ((bytes_eq-Decides s.head.name (kept_of t).head.name).1 names)) ∙ differ in
      false≢true bad in (
        record { binary = number; owner = k; is_own = name.0 },
        refl,
        refl,
        record {
          owner = t;
          at = at;
          moves = moves;
          apart = apart;
          item = b;
          there = there;
          of = its;
          asked = name.1;
        },
      )

  -- a source asks for a package of a source that moves and on which it builds there
  pub built-ask : (k : ℕ) (t : Mover) → slice_get ms k ≡ Some t
      → has_moving_motion t ≡ true → builds_there a place s (kept_of t) ≡ true
      → (ask : Ask) × (ask.owner ≡ k) × IsAsk a ms own s place ask
  built-ask k t at moves builds =
      let both = and_parts (not (bytes_eq s.head.name (kept_of t).head.name)) _ builds in
      let found = any-found (λ b. is_of (kept_of t).head.name b && asks_there a s place b)
      a.binaries both.1 in
      let n = has-numbered a.binaries found.0 found.1 in
      let of = and_parts (is_of (kept_of t).head.name found.0) _ found.2 in
      let ask = there-ask k t at moves both.0 n.0 found.0 n.1 of.0 of.1 in
      (ask.0, ask.1, ask.3)

-- a source among those that a plan moves, and a place
module _ (p : Premises) (ms : List Mover) (are : AreMovers p ms) (own : ℕ) (mine : Mover)
    (mine-at : slice_get ms own ≡ Some mine) (s : KeptSource) (same : kept_of mine ≡ s)
    (place : ℕ) (within : place < length p.archive.table) where
  pub ask-builds : (ask : Ask) (t : Mover) → slice_get ms ask.owner ≡ Some t
      → IsAsk p.archive ms own s place ask → builds_there p.archive place s (kept_of t) ≡ true
  ask-builds = ask-built p.archive p.tracker (λ m. IsMover p m (kept_of m)) ms are own mine mine-at
      s same place

  pub builds-ask : (k : ℕ) (t : Mover) → slice_get ms k ≡ Some t
      → has_moving_motion t ≡ true → builds_there p.archive place s (kept_of t) ≡ true
      → (ask : Ask) × (ask.owner ≡ k) × IsAsk p.archive ms own s place ask
  builds-ask = built-ask p.archive p.tracker (λ m. IsMover p m (kept_of m)) ms are own mine mine-at
      s same place

  module _ (beside : KeptSource → Bool) where
    -- a source asks for a package of the source for which it waits
    pub awaited-ask : (k : ℕ) (t : Mover) → slice_get ms k ≡ Some t
        → is_awaited p beside s place (kept_of t) ≡ true
        → (ask : Ask) × (ask.owner ≡ k) × IsAsk p.archive ms own s place ask
    awaited-ask k t at awaits =
        let moving = and_parts (is_moving p (kept_of t) place) _ awaits in
        let builds = and_parts (builds_there p.archive place s (kept_of t)) _ moving.1 in
        builds-ask k t at (mover-moves p t (are.each k t at) place within moving.0) builds.0

    pub not-awaited : (asks : List Ask) → AreAsks p.archive ms own s place asks
        → (k : ℕ) (t : Mover) → slice_get ms k ≡ Some t
        → ((ask : Ask) → Contains asks ask → ¬ (ask.owner ≡ k))
        → is_awaited p beside s place (kept_of t) ≡ false
    not-awaited asks of k t at none =
        false_from_ne_true (is_awaited p beside s place (kept_of t)) (λ awaits.
        let ask = awaited-ask k t at awaits in
        none ask.0 (of.all ask.0 ask.2) ask.1)
