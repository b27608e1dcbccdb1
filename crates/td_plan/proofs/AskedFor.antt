-- What is found under the names of a source's alternatives is what its build asks for.
use Rattle.std.proofs.Common.{◌≡◌, ℕ, ◌==◌, ◌&&◌, not, Bool, true, false, List, [], Some}
use Rattle.std.proofs.Common.{None, Option, length, slice_get, refl, sym, ap, subst, ◌∙◌, inl, inr}
use Rattle.std.proofs.Common.{zero-add}
use Rattle.std.specs.List.{Contains, list_any, range_with_len}
use Rattle.std.specs.Option.{option_map_or}
use Rattle.std.specs.Str.{bytes_eq}
use Rattle.std.proofs.lemmas.Bool.{and_from, and_parts, cases_Bool, eq-eqb, eqb-true, false≢true}
use Rattle.std.proofs.lemmas.Bool.{or_cases, or_left, or_right}
use Rattle.std.proofs.lemmas.Bool.Decides.{eqb_tells}
use Rattle.std.proofs.lemmas.Option.{slice_get_within}
use Rattle.std.proofs.lemmas.Slice.Eq.{bytes_eq-Decides}
use Rattle.td_relation.specs.Asked.{Asked}
use Rattle.td_indices.specs.Archive.{Contents, has_row_at, is_of, numbers_of}
use Rattle.td_indices.specs.Kept.{KeptBinary}
use Rattle.td_indices.specs.OfferedNames.{offered_names}
use Rattle.td_indices.specs.Rows.{has_row}
use Rattle.td_indices.specs.Sources.{KeptSource}
use Rattle.td_indices.specs.Stanzas.{build_depends_arch_of, build_depends_of}
use Rattle.td_indices.proofs.OfferLaws.{has_first}
use Rattle.td_waves.specs.BuildsOn.{asked_first, asked_for_arch, is_active_at, some_asked}
use Rattle.td_plan.specs.declared.asks.Ask.{Ask}
use Rattle.td_plan.specs.declared.asks.Asker.{Asker}
use Rattle.td_plan.specs.declared.movers.Mover.{Mover}
use Rattle.td_plan.specs.BuildsThere.{asks_active, names_itself, names_offer}
use Rattle.td_plan.specs.inner.Asked.{AreAsks, IsAsk, names_as}
use Rattle.td_plan.specs.inner.Asking.{IsByOwner, asks_any, asks_other, asks_some}
use Rattle.td_plan.specs.inner.Movers.{has_moving_motion, mover_name}
use Rattle.td_plan.specs.inner.Providing.{AreProviders, passes_numbered, passes_of, passes_under}
use Rattle.td_plan.specs.inner.Providing.{provider, some_passes}
use Rattle.td_plan.proofs.Chosen.{any-again, any-found}
use Rattle.td_plan.proofs.Existing.{range-has}
use Rattle.td_plan.proofs.Picking.{places-again, places-found}
use Rattle.td_plan.proofs.Somewhere.{asked-again, asked-found}

-- ---- 1. one ask is another

abbrev same_flag : Bool → Bool → Bool
same_flag true b = b
same_flag false b = not b

flag-is : (a b : Bool) → same_flag a b ≡ true → a ≡ b
flag-is true b h = sym h
flag-is false true h = absurd (false≢true h)
flag-is false false h = refl

flag-itself : (a : Bool) → same_flag a a ≡ true
flag-itself true = refl
flag-itself false = refl

abbrev pub same_ask : Ask → Ask → Bool
same_ask a b = (a.binary == b.binary) && ((a.owner == b.owner) && same_flag a.is_own b.is_own)

pub ask-is : (a b : Ask) → same_ask a b ≡ true → a ≡ b
ask-is a b h =
    let both = and_parts _ _ h in
    let rest = and_parts _ _ both.1 in
    let binaries : a.binary ≡ b.binary = eqb-true a.binary b.binary both.0 in
    let owners : a.owner ≡ b.owner = eqb-true a.owner b.owner rest.0 in
    let flags : a.is_own ≡ b.is_own = flag-is a.is_own b.is_own rest.1 in
    λ i. record { binary = binaries i; owner = owners i; is_own = flags i }

pub ask-itself : (a b : Ask) → a ≡ b → same_ask a b ≡ true
ask-itself a b is =
    subst (λ (x : Ask). same_ask a x ≡ true) is
    (and_from _ _ (eq-eqb a.binary a.binary refl)
    (and_from _ _ (eq-eqb a.owner a.owner refl) (flag-itself a.is_own)))

-- ---- 2. what is there

some-there : {A : Type 0} (test : A → Bool) (o : Option A) → option_map_or test o false ≡ true
    → (x : A) × (o ≡ Some x) × (test x ≡ true)
some-there test None h = absurd (false≢true h)
some-there test (Some x) h = (x, refl, h)

there-some : {A : Type 0} (test : A → Bool) (o : Option A) (x : A) → o ≡ Some x → test x ≡ true
    → option_map_or test o false ≡ true
there-some {A} test o x at is = ap (λ (p : Option A). option_map_or test p false) at ∙ is

-- ---- 3. how an alternative names a package

-- under which of its names an alternative asks for a package
names-by : (b : KeptBinary) (x : Asked) (name : List ℕ) → Contains (offered_names b) name
    → bytes_eq x.name name ≡ true → names_as (bytes_eq name b.head.name) b x ≡ true
names-by b x name has is =
    let same : x.name ≡ name = (bytes_eq-Decides x.name name).0 is in
    let offers : names_offer b x ≡ true =
    any-again (λ (n : List ℕ). bytes_eq x.name n) (offered_names b) name has is in
    subst (λ (n : List ℕ). names_as (bytes_eq n b.head.name) b x ≡ true) same
    (by (names_itself b x) refl offers)
  where
    by : (own : Bool) → names_itself b x ≡ own → names_offer b x ≡ true
        → names_as (names_itself b x) b x ≡ true
    by true own offers = subst (λ (f : Bool). names_as f b x ≡ true) (sym own) own
    by false own offers =
        subst (λ (f : Bool). names_as f b x ≡ true) (sym own)
        (and_from _ _ offers (ap not own))

-- a package is asked for under a name that it offers, by its own name or not
names-which : (own : Bool) (b : KeptBinary) (x : Asked) → names_as own b x ≡ true
    → Contains (offered_names b) x.name × (own ≡ names_itself b x)
names-which true b x is = (
  subst (Contains (offered_names b)) (sym ((bytes_eq-Decides x.name b.head.name).0 is))
      (has_first b.head.name _),
  sym is,
)
names-which false b x is =
    let both = and_parts _ _ is in
    let name = any-found (λ (n : List ℕ). bytes_eq x.name n) (offered_names b) both.0 in (
      subst (Contains (offered_names b)) (sym ((bytes_eq-Decides x.name name.0).0 name.2)) name.1,
      elim (cases_Bool (names_itself b x)) [
        | inl own ↦ absurd (false≢true (sym (ap not own) ∙ both.1))
        | inr other ↦ sym other
      ],
    )

-- ---- 4. what an asker finds

module _ (w : Asker) (ms : List Mover) (index : AreProviders w.archive.now ms w.providers.now)
    (s : KeptSource) (at : slice_get w.archive.now.sources w.number ≡ Some s) (place : ℕ) where
  abbrev a : Contents
  a = w.archive.now

  abbrev IsMine : Ask → Type 0
  IsMine ask = IsAsk a ms w.mover s place ask

  -- some alternative of the build that is active there names the package so
  abbrev asks_as : Bool → KeptBinary → Bool
  asks_as own b = asks_active a s place (names_as own b)

  row-is : has_row_at a w.number place ≡ has_row a.table s.head.archs place
  row-is = ap (λ (o : Option KeptSource).
      option_map_or (λ (x : KeptSource). has_row a.table x.head.archs place) o false) at

  first-is : asked_first a w.number ≡ build_depends_of a s
  first-is = ap (λ (o : Option KeptSource). option_map_or (build_depends_of a) o []) at

  for_arch-is : asked_for_arch a w.number ≡ build_depends_arch_of a s
  for_arch-is = ap (λ (o : Option KeptSource). option_map_or (build_depends_arch_of a) o []) at

  -- a package that was found under the name of an alternative is asked for
  found-is : (ask : Ask) (x : Asked) → asks_some w place (same_ask ask) x ≡ true
      → ((own : Bool) (b : KeptBinary) → is_active_at a.table place x ≡ true
      → names_as own b x ≡ true → asks_as own b ≡ true) → IsMine ask
  found-is ask x h asks =
      let T = asks_other w place (same_ask ask) x in
      let r = any-found (passes_of a ms x.name T) (range_with_len 0 (length ms))
      (sym (index x.name T) ∙ h) in
      let j = r.0 in
      let m = some-there (λ (t : Mover). has_moving_motion t
      && some_passes a x.name T (mover_name t) j) (slice_get ms j) r.2 in
      let moves = and_parts _ _ m.2 in
      let n = any-found (passes_numbered a x.name T j) (numbers_of a (mover_name m.0)) moves.1 in
      let b = some-there (passes_under x.name T j n.0) (slice_get a.binaries n.0) n.2 in
      let name = any-found (λ (q : List ℕ). bytes_eq x.name q && T (provider n.0 j b.0 q))
      (offered_names b.0) b.2 in
      let named = and_parts _ _ name.2 in
      let other = and_parts _ _ named.1 in
      let fits = and_parts _ _ other.1 in
      let there = and_parts _ _ fits.0 in
      let active = and_parts _ _ there.1 in
      let own : Bool = bytes_eq name.0 b.0.head.name in
      let it : Ask = record { binary = n.0; owner = j; is_own = own } in
      let its = places-found (is_of (mover_name m.0)) a.binaries a.binaries 0 n.0 refl n.1 in
      let one : its.0 ≡ b.0 = same_some its.0 b.0 (sym its.1 ∙ b.1) in
      subst IsMine (sym (ask-is ask it fits.1)) (record {
        owner = m.0;
        at = m.1;
        moves = moves.0;
        apart = λ same. false≢true (sym (ap not (eq-eqb j w.mover same)) ∙ other.0);
        item = b.0;
        there = b.1;
        of = ap (is_of (mover_name m.0)) (sym one) ∙ its.2;
        asked = and_from _ _ (sym row-is ∙ active.1) (and_from _ _ there.0
            (asks own b.0 active.0 (names-by b.0 x name.0 name.1 named.0)));
      })
    where
      same_some : (u v : KeptBinary) → Some u ≡ Some v → u ≡ v
      same_some u v h = cc

  -- what is asked for is found under the name of the alternative that asks
  is-found : (ask : Ask) (h : IsMine ask) (x : Asked) → is_active_at a.table place x ≡ true
      → names_as ask.is_own h.item x ≡ true → asks_some w place (same_ask ask) x ≡ true
  is-found ask h x active names =
      let T = asks_other w place (same_ask ask) x in
      let b = h.item in
      let which = names-which ask.is_own b x names in
      let row = and_parts _ _ h.asked in
      let on = and_parts _ _ row.1 in
      let it : Ask = record {
        binary = ask.binary;
        owner = ask.owner;
        is_own = names_itself b x;
      } in
      let same : ask ≡ it = λ i. record {
        binary = ask.binary;
        owner = ask.owner;
        is_own = which.1 i;
      } in
      let passes : T (provider ask.binary ask.owner b x.name) ≡ true =
      and_from _ _ (apart-not ask.owner w.mover h.apart) (and_from _ _
      (and_from _ _ on.0 (and_from _ _ active (row-is ∙ row.0))) (ask-itself ask it same)) in
      let offered : passes_under x.name T ask.owner ask.binary b ≡ true =
      any-again (λ (q : List ℕ). bytes_eq x.name q && T (provider ask.binary ask.owner b q))
      (offered_names b) x.name which.0
      (and_from _ _ ((bytes_eq-Decides x.name x.name).1 refl) passes) in
      let numbered : passes_numbered a x.name T ask.owner ask.binary ≡ true =
      there-some (passes_under x.name T ask.owner ask.binary) (slice_get a.binaries ask.binary) b
      h.there offered in
      let some : some_passes a x.name T (mover_name h.owner) ask.owner ≡ true =
      any-again (passes_numbered a x.name T ask.owner) (numbers_of a (mover_name h.owner))
      ask.binary
      (subst (Contains (numbers_of a (mover_name h.owner))) (zero-add ask.binary)
      (places-again (is_of (mover_name h.owner)) a.binaries 0 ask.binary b h.there h.of))
      numbered in
      let owned : passes_of a ms x.name T ask.owner ≡ true =
      there-some (λ (t : Mover). has_moving_motion t
      && some_passes a x.name T (mover_name t) ask.owner) (slice_get ms ask.owner) h.owner h.at
      (and_from _ _ h.moves some) in
      index x.name T ∙ any-again (passes_of a ms x.name T) (range_with_len 0 (length ms)) ask.owner
      (range-has (length ms) ask.owner (slice_get_within ms ask.owner h.owner h.at)) owned
    where
      apart-not : (j k : ℕ) → ¬ (j ≡ k) → not (j == k) ≡ true
      apart-not j k differ = elim (eqb_tells j k) [
        | inl same ↦ absurd (differ same.1)
        | inr other ↦ ap not other.0
      ]

  -- an alternative that is active there and names the package so asks for it
  asks-by : (own : Bool) (b : KeptBinary) (members : List (List Asked)) (member : List Asked)
      (x : Asked) → Contains members member → Contains member x
      → is_active_at a.table place x ≡ true → names_as own b x ≡ true
      → some_asked (λ y. is_active_at a.table place y && names_as own b y) members ≡ true
  asks-by own b members member x has named active names =
      asked-again (λ y. is_active_at a.table place y && names_as own b y) members (record {
        member = member;
        in_field = has;
        alternative = x;
        named = named;
        passes = and_from _ _ active names;
      })

  any-is : (ask : Ask) → asks_any w place (same_ask ask) ≡ true → IsMine ask
  any-is ask h = elim (or_cases _ _ h) [
    | inl first ↦
        let r = asked-found (asks_some w place (same_ask ask)) (asked_first a w.number) first in
        found-is ask r.alternative r.passes (λ own b active names. or_left _ _
        (asks-by own b (build_depends_of a s) r.member r.alternative
        (subst (λ (l : List (List Asked)). Contains l r.member) first-is r.in_field) r.named active
        names))
    | inr second ↦
        let r = asked-found (asks_some w place (same_ask ask)) (asked_for_arch a w.number) second in
        found-is ask r.alternative r.passes (λ own b active names. or_right _ _
        (asks-by own b (build_depends_arch_of a s) r.member r.alternative
        (subst (λ (l : List (List Asked)). Contains l r.member) for_arch-is r.in_field) r.named
        active
        names))
  ]

  -- what is asked for in some members is found by them
  found-by : (ask : Ask) (h : IsMine ask) (members : List (List Asked))
      → some_asked (λ y. is_active_at a.table place y && names_as ask.is_own h.item y) members
      ≡ true → some_asked (asks_some w place (same_ask ask)) members ≡ true
  found-by ask h members asks =
      let r = asked-found (λ y. is_active_at a.table place y && names_as ask.is_own h.item y)
      members asks in
      let both = and_parts _ _ r.passes in
      asked-again (asks_some w place (same_ask ask)) members (record {
        member = r.member;
        in_field = r.in_field;
        alternative = r.alternative;
        named = r.named;
        passes = is-found ask h r.alternative both.0 both.1;
      })

  is-any : (ask : Ask) → IsMine ask → asks_any w place (same_ask ask) ≡ true
  is-any ask h =
      let row = and_parts _ _ h.asked in
      let on = and_parts _ _ row.1 in
      elim (or_cases _ _ on.1) [
        | inl first ↦ or_left _ _
            (ap (some_asked (asks_some w place (same_ask ask))) first-is
            ∙ found-by ask h (build_depends_of a s) first)
        | inr second ↦ or_right _ _
            (ap (some_asked (asks_some w place (same_ask ask))) for_arch-is
            ∙ found-by ask h (build_depends_arch_of a s) second)
      ]

  -- the asks that are found are those of the source there
  pub are-asks : (asks : List Ask)
      → ((test : Ask → Bool) → list_any test asks ≡ asks_any w place test) → IsByOwner asks
      → AreAsks a ms w.mover s place asks
  are-asks asks found in_order = record {
    each = λ ask has. any-is ask
        (sym (found (same_ask ask))
        ∙ any-again (same_ask ask) asks ask has (ask-itself ask ask refl));
    all = λ ask is.
        let r = any-found (same_ask ask) asks (found (same_ask ask) ∙ is-any ask is) in
        subst (Contains asks) (sym (ask-is ask r.0 r.2)) r.1;
    in_order = in_order;
  }
