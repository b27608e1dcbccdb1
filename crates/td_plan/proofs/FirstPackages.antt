-- For which package of a source a row waits.
use Rattle.std.proofs.Common.{◌≡◌, ◌⊎◌, ℕ, ◌&&◌, Bool, true, false, List, Option, Some, None, refl}
use Rattle.std.proofs.Common.{sym, ap, subst, ◌∙◌, inl, inr}
use Rattle.std.specs.Prelude.{filter, is_none, is_some}
use Rattle.std.specs.List.{Contains}
use Rattle.std.specs.Option.{option_or}
use Rattle.std.specs.Str.{bytes_eq}
use Rattle.std.proofs.lemmas.Bool.{and_from, and_parts, cases_Bool, cond-true, false≢true}
use Rattle.std.proofs.lemmas.Bool.{or_cases, or_left, or_right}
use Rattle.std.proofs.lemmas.Option.{cond_some}
use Rattle.std.proofs.lemmas.Slice.Eq.{bytes_eq-Decides}
use Rattle.td_version.specs.Order.{same_version}
use Rattle.td_relation.specs.Asked.{Asked}
use Rattle.td_supply.specs.Supplied.{with_rebuild}
use Rattle.td_indices.specs.Archive.{is_of}
use Rattle.td_indices.specs.Kept.{KeptBinary}
use Rattle.td_indices.specs.OfferedNames.{offered_names}
use Rattle.td_indices.specs.Opening.{is_current}
use Rattle.td_indices.specs.PackageKeys.{same_home}
use Rattle.td_indices.specs.Sources.{KeptSource}
use Rattle.td_indices.specs.Stanzas.{build_depends_of, build_depends_arch_of}
use Rattle.td_indices.proofs.CountingLaws.{same_home-refl}
use Rattle.td_indices.proofs.Keeping.{same_home-is}
use Rattle.td_waves.specs.BuildsOn.{is_active_at}
use Rattle.td_plan.specs.AwaitedLaws.{AsksFor, IsFirstOf, IsForPackage, IsNamed, IsOwnNamed}
use Rattle.td_plan.specs.AwaitedLaws.{IsPackageFor, IsPresent, NoPackage, NoWaitsAreRight}
use Rattle.td_plan.specs.AwaitedLaws.{WaitsAreForFirsts}
use Rattle.td_plan.specs.BuildsThere.{asks_active, names_itself, names_offer}
use Rattle.td_plan.specs.Due.{arrival_number, is_present}
use Rattle.td_plan.specs.InOrder.{first_where}
use Rattle.td_plan.specs.Packages.{arrival_base, is_written, own_package, package_name}
use Rattle.td_plan.specs.Packages.{present_package, rebuilt_text}
use Rattle.td_plan.specs.Premises.{Premises}
use Rattle.td_plan.specs.Reasons.{is_exactly}
use Rattle.td_plan.specs.Waits.{Wait, is_waitless, wait_for, wait_if, wait_of, wait_with}
use Rattle.td_plan.proofs.AlwaysWaited.{first-some}
use Rattle.td_plan.proofs.Chosen.{any-again, any-found, filter-again}
use Rattle.td_plan.proofs.InOrders.{first-least}
use Rattle.td_plan.proofs.Somewhere.{asked-again, asked-found}

-- ---- 1. the first package that passes a test

-- a test passes exactly those packages of the archive of which something holds
record IsTestOf (p : Premises) (test : KeptBinary → Bool) (Holds : KeptBinary → Type 0)
    : Type 0 where
  there : (b : KeptBinary) → Contains p.archive.binaries b → test b ≡ true → Holds b
  back : (b : KeptBinary) → Holds b → Contains p.archive.binaries b × (test b ≡ true)

module _ (p : Premises) (test : KeptBinary → Bool) (Holds : KeptBinary → Type 0)
    (is : IsTestOf p test Holds) where
  first-holds : (b : KeptBinary) → first_where package_name test p.archive.binaries ≡ Some b
      → IsFirstOf Holds b
  first-holds b found =
      let least = first-least package_name test p.archive.binaries b found in
      record {
        holds = is.there b least.0 least.1;
        first = λ c holds. let own = is.back c holds in least.2 c own.0 own.1;
      }

  none-holds : first_where package_name test p.archive.binaries ≡ None → NoPackage Holds
  none-holds none b holds =
      let own = is.back b holds in
      let some : is_some (first_where package_name test p.archive.binaries) ≡ true =
      first-some package_name (filter test p.archive.binaries) b
      (filter-again test p.archive.binaries b own.0 own.1) in
      false≢true (sym (ap is_some none) ∙ some)

-- ---- 2. what a source asks for

-- an alternative of the build of s that is active at a place passes a test
record IsAsking (p : Premises) (s : KeptSource) (place : ℕ) (test : Asked → Bool) : Type 0 where
  member : List Asked
  in_field : Contains (build_depends_of p.archive s) member
      ⊎ Contains (build_depends_arch_of p.archive s) member
  alternative : Asked
  among : Contains member alternative
  active : is_active_at p.archive.table place alternative ≡ true
  passes : test alternative ≡ true

module _ (p : Premises) (s : KeptSource) (place : ℕ) where
  abbrev passes_at : (Asked → Bool) → Asked → Bool
  passes_at test x = is_active_at p.archive.table place x && test x

  asking-found : (test : Asked → Bool) → asks_active p.archive s place test ≡ true
      → IsAsking p s place test
  asking-found test is = elim (or_cases _ _ is) [
    | inl first ↦
        (let found = asked-found (passes_at test) (build_depends_of p.archive s) first in
        let both = and_parts _ (test found.alternative) found.passes in
        record {
          member = found.member;
          in_field = inl found.in_field;
          alternative = found.alternative;
          among = found.named;
          active = both.0;
          passes = both.1;
        })
    | inr second ↦
        (let found = asked-found (passes_at test) (build_depends_arch_of p.archive s) second in
        let both = and_parts _ (test found.alternative) found.passes in
        record {
          member = found.member;
          in_field = inr found.in_field;
          alternative = found.alternative;
          among = found.named;
          active = both.0;
          passes = both.1;
        })
  ]

  asking-again : (test : Asked → Bool) → IsAsking p s place test
      → asks_active p.archive s place test ≡ true
  asking-again test is = elim is.in_field [
    | inl first ↦ or_left _ _ (asked-again (passes_at test) (build_depends_of p.archive s)
        (record {
          member = is.member;
          in_field = first;
          alternative = is.alternative;
          named = is.among;
          passes = and_from _ (test is.alternative) is.active is.passes;
        }))
    | inr second ↦ or_right _ _ (asked-again (passes_at test) (build_depends_arch_of p.archive s)
        (record {
          member = is.member;
          in_field = second;
          alternative = is.alternative;
          named = is.among;
          passes = and_from _ (test is.alternative) is.active is.passes;
        }))
  ]

  -- a name for which s asks
  abbrev AsksOffer : KeptBinary → Type 0
  AsksOffer b = (name : List ℕ) × Contains (offered_names b) name × AsksFor p s place name

  offer-found : (b : KeptBinary) → asks_active p.archive s place (names_offer b) ≡ true
      → AsksOffer b
  offer-found b is =
      let asking = asking-found (names_offer b) is in
      let name = any-found (λ (n : List ℕ). bytes_eq asking.alternative.name n) (offered_names b)
      asking.passes in (
        name.0,
        name.1,
        record {
          member = asking.member;
          in_field = asking.in_field;
          alternative = asking.alternative;
          among = asking.among;
          active = asking.active;
          named = (bytes_eq-Decides asking.alternative.name name.0).0 name.2;
        },
      )

  offer-again : (b : KeptBinary) → AsksOffer b
      → asks_active p.archive s place (names_offer b) ≡ true
  offer-again b (name, has, asks) = asking-again (names_offer b) (record {
    member = asks.member;
    in_field = asks.in_field;
    alternative = asks.alternative;
    among = asks.among;
    active = asks.active;
    passes = any-again (λ (n : List ℕ). bytes_eq asks.alternative.name n) (offered_names b) name
        has ((bytes_eq-Decides asks.alternative.name name).1 asks.named);
  })

  itself-found : (b : KeptBinary) → asks_active p.archive s place (names_itself b) ≡ true
      → AsksFor p s place b.head.name
  itself-found b is =
      let asking = asking-found (names_itself b) is in
      record {
        member = asking.member;
        in_field = asking.in_field;
        alternative = asking.alternative;
        among = asking.among;
        active = asking.active;
        named = (bytes_eq-Decides asking.alternative.name b.head.name).0 asking.passes;
      }

  itself-again : (b : KeptBinary) → AsksFor p s place b.head.name
      → asks_active p.archive s place (names_itself b) ≡ true
  itself-again b asks = asking-again (names_itself b) (record {
    member = asks.member;
    in_field = asks.in_field;
    alternative = asks.alternative;
    among = asks.among;
    active = asks.active;
    passes = (bytes_eq-Decides asks.alternative.name b.head.name).1 asks.named;
  })

-- ---- 3. the three kinds of packages

module _ (p : Premises) (t : KeptSource) (place : ℕ) where
  of-found : (b : KeptBinary) → is_of t.head.name b ≡ true → t.head.name ≡ b.head.source
  of-found b is = (bytes_eq-Decides t.head.name b.head.source).0 is

  of-again : (b : KeptBinary) → t.head.name ≡ b.head.source → is_of t.head.name b ≡ true
  of-again b is = (bytes_eq-Decides t.head.name b.head.source).1 is

  home-again : (b : KeptBinary) → b.head.home ≡ Some place → is_exactly place b ≡ true
  home-again b is =
      ap (λ (h : Option ℕ). same_home h (Some place)) is ∙ same_home-refl (Some place)

  present-test : IsTestOf p (is_present t place) (IsPresent p t place)
  present-test = record {
    there = λ b has is.
        let of = and_parts (is_of t.head.name b) (is_current t.head.parts place b) is in
        let now = and_parts (same_home b.head.home (Some place))
        (same_version b.head.source_parts t.head.parts) of.1 in
        ((has, of-found b of.0), (same_home-is b.head.home (Some place) now.0, now.1));
    back = λ b h. (
      h.0.0,
      and_from (is_of t.head.name b) (is_current t.head.parts place b) (of-again b h.0.1)
          (and_from (same_home b.head.home (Some place))
          (same_version b.head.source_parts t.head.parts) (home-again b h.1.0) h.1.1),
    );
  }

module _ (p : Premises) (s t : KeptSource) (place : ℕ) where
  abbrev is_named : KeptBinary → Bool
  is_named b = is_present t place b && asks_active p.archive s place (names_offer b)

  abbrev is_own : KeptBinary → Bool
  is_own b = is_of t.head.name b
      && (is_exactly place b && asks_active p.archive s place (names_itself b))

  named-test : IsTestOf p is_named (IsNamed p s t place)
  named-test = record {
    there = λ b has is.
        let both = and_parts (is_present t place b) _ is in
        ((present-test p t place).there b has both.0, offer-found p s place b both.1);
    back = λ b h.
        let present = (present-test p t place).back b h.0 in (
          present.0,
          and_from (is_present t place b) _ present.1 (offer-again p s place b h.1),
        );
  }

  own-test : IsTestOf p is_own (IsOwnNamed p s t place)
  own-test = record {
    there = λ b has is.
        let of = and_parts (is_of t.head.name b) _ is in
        let rest = and_parts (is_exactly place b) _ of.1 in (
          (has, of-found p t place b of.0),
          same_home-is b.head.home (Some place) rest.0,
          itself-found p s place b rest.1,
        );
    back = λ b h. (
      h.0.0,
      and_from (is_of t.head.name b) _ (of-again p t place b h.0.1)
          (and_from (is_exactly place b) _ (home-again p t place b h.1)
          (itself-again p s place b h.2)),
    );
  }

  -- ---- 4. the package that is waited for

  abbrev first_named : Option KeptBinary
  first_named = first_where package_name is_named p.archive.binaries

  abbrev first_present : Option KeptBinary
  first_present = first_where package_name (is_present t place) p.archive.binaries

  present-is : (b : KeptBinary) → present_package p.archive s t place ≡ Some b
      → IsPackageFor p s t place b false
  present-is b is = by first_named refl is
    where
      by : (o : Option KeptBinary) → first_named ≡ o → option_or o first_present ≡ Some b
          → IsPackageFor p s t place b false
      by None none one = inr (inl (
        refl,
        none-holds p is_named (IsNamed p s t place) named-test none,
        first-holds p (is_present t place) (IsPresent p t place) (present-test p t place) b one,
      ))
      by (Some c) at one = inl (
        refl,
        first-holds p is_named (IsNamed p s t place) named-test b (at ∙ one),
      )

  none-present : present_package p.archive s t place ≡ None → NoPackage (IsPresent p t place)
  none-present is = by first_named is
    where
      by : (o : Option KeptBinary) → option_or o first_present ≡ None
          → NoPackage (IsPresent p t place)
      by None none =
          none-holds p (is_present t place) (IsPresent p t place) (present-test p t place) none
      by (Some c) none = absurd (cc)

  own-is : (b : KeptBinary) → present_package p.archive s t place ≡ None
      → own_package p.archive s t place ≡ Some b → IsPackageFor p s t place b true
  own-is b none is = inr (inr (
    refl,
    none-present none,
    first-holds p is_own (IsOwnNamed p s t place) own-test b is,
  ))

  -- ---- 5. its wait

  abbrev wait_on : KeptBinary → Bool → Wait
  wait_on b older = record {
    name = package_name b;
    version = rebuilt_text (arrival_base t b) (arrival_number p t place);
    parts = with_rebuild (arrival_base t b) (arrival_number p t place);
    on = t.head.name;
    older = older;
  }

  written-for : (b : KeptBinary) (older : Bool) (w : Wait) → IsPackageFor p s t place b older
      → wait_for t b (arrival_base t b) (arrival_number p t place) older ≡ Some w
      → IsForPackage p s t place w
  written-for b older w is h =
      let one : wait_on b older ≡ w = (cond_some
      (is_written (arrival_base t b) (arrival_number p t place)) (wait_on b older) w h).1 in
      subst (IsForPackage p s t place) one
      (record { binary = b; is = is; name = refl; version = refl; parts = refl })

  unwritten : (b : KeptBinary) (older : Bool)
      → is_none (wait_for t b (arrival_base t b) (arrival_number p t place) older) ≡ true
      → is_written (arrival_base t b) (arrival_number p t place) ≡ false
  unwritten b older none =
      elim (cases_Bool (is_written (arrival_base t b) (arrival_number p t place))) [
        | inl is ↦ absurd (false≢true (sym (ap is_none
            (cond-true (is_written (arrival_base t b) (arrival_number p t place))
            (Some (wait_on b older)) None is)) ∙ none))
        | inr other ↦ other
      ]

  wait-is : (w : Wait) → wait_of p s place t ≡ Some w → IsForPackage p s t place w
  wait-is w is = by (present_package p.archive s t place) refl is
    where
      own : present_package p.archive s t place ≡ None → (o : Option KeptBinary)
          → own_package p.archive s t place ≡ o
          → wait_if t (arrival_number p t place) true o ≡ Some w → IsForPackage p s t place w
      own none None at h = absurd (cc)
      own none (Some b) at h = written-for b true w (own-is b none at) h

      by : (o : Option KeptBinary) → present_package p.archive s t place ≡ o
          → wait_with p s t place o ≡ Some w → IsForPackage p s t place w
      by None at h = own at (own_package p.archive s t place) refl h
      by (Some b) at h = written-for b false w (present-is b at) h

  -- why there is no wait
  abbrev IsUntold : Type 0
  IsUntold = (NoPackage (IsPresent p t place) × NoPackage (IsOwnNamed p s t place))
      ⊎ ((b : KeptBinary) × (older : Bool) × IsPackageFor p s t place b older
      × (is_written (arrival_base t b) (arrival_number p t place) ≡ false))

  untold-is : is_waitless p s place t ≡ true → IsUntold
  untold-is none = by (present_package p.archive s t place) refl none
    where
      own : present_package p.archive s t place ≡ None → (o : Option KeptBinary)
          → own_package p.archive s t place ≡ o
          → is_none (wait_if t (arrival_number p t place) true o) ≡ true → IsUntold
      own at None missing h = inl (
        none-present at,
        none-holds p is_own (IsOwnNamed p s t place) own-test missing,
      )
      own at (Some b) is h = inr (b, true, own-is b at is, unwritten b true h)

      by : (o : Option KeptBinary) → present_package p.archive s t place ≡ o
          → is_none (wait_with p s t place o) ≡ true → IsUntold
      by None at h = own at (own_package p.archive s t place) refl h
      by (Some b) at h = inr (b, false, present-is b at, unwritten b false h)

pub waits_are_for_firsts : WaitsAreForFirsts
waits_are_for_firsts p s t place w is = wait-is p s t place w is

pub no_waits_are_right : NoWaitsAreRight
no_waits_are_right p s t place none = untold-is p s t place none
