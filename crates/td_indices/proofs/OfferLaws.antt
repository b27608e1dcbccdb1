-- Each offer comes of a package, and each package offers what it should.
use Rattle.std.proofs.Common.{◌≡◌, ◌⊎◌, ℕ, zero, suc, Bool, true, cond, List, [], ◌∷◌, Option, Some}
use Rattle.std.proofs.Common.{None, refl, sym, ap, subst, inl, inr, arith}
use Rattle.std.specs.Prelude.{Contains}
use Rattle.std.specs.List.{flat_map}
use Rattle.std.proofs.lemmas.Bool.{cases_Bool}
use Rattle.std.proofs.lemmas.List.Concat.{flat_map-cons}
use Rattle.std.proofs.lemmas.List.Elements.{Contains-append_left, Contains-append_right}
use Rattle.std.proofs.lemmas.List.Elements.{Contains-append_cases}
use Rattle.td_version.specs.Version.{Parts}
use Rattle.td_relation.specs.Asked.{Asked, Bound}
use Rattle.td_relation.specs.declared.relation.Operator.{Operator}
use Rattle.td_relation.specs.declared.relation.Operator.TheVariants.{Earlier, EarlierOrEqual, Equal}
use Rattle.td_relation.specs.declared.relation.Operator.TheVariants.{LaterOrEqual, Later}
use Rattle.td_supply.specs.Supplied.{Supplied}
use Rattle.td_indices.specs.Archive.{Contents}
use Rattle.td_indices.specs.Kept.{KeptBinary}
use Rattle.td_indices.specs.OfferLaws.{ComesOf, IsItself, IsOfferedAt, IsProvidedBy, OffersAreExact}
use Rattle.td_indices.specs.Supplying.{is_equal, offers_by, own_offer, provided, provided_at}
use Rattle.td_indices.specs.Supplying.{supply_of}

-- ---- what lists have

none_has : {X : Type 0} (x : X) → Contains [] x → ⊥
none_has x h = let low = h.1 in omega arith

pub has_cases : {X : Type 0} (x : X) (xs : List X) (y : X) → Contains (x ∷ xs) y
    → (x ≡ y) ⊎ Contains xs y
has_cases x xs y (zero, low, is) = inl is
has_cases x xs y (suc k, low, is) = inr (k, omega arith, is)

pub has_first : {X : Type 0} (x : X) (xs : List X) → Contains (x ∷ xs) x
has_first x xs = (0, omega arith, refl)

pub has_more : {X : Type 0} (x : X) (xs : List X) (y : X) → Contains xs y → Contains (x ∷ xs) y
has_more x xs y h = let low = h.1 in (suc h.0, omega arith, h.2)

one_has : {X : Type 0} (x y : X) → Contains (x ∷ []) y → x ≡ y
one_has x y h =
    elim (has_cases x [] y h) [
      | inl is ↦ is
      | inr more ↦ absurd (none_has y more)
    ]

module _ {X A : Type 0} (f : X → List A) where
  pub has_found : (xs : List X) (y : A) → Contains (flat_map f xs) y
      → (x : X) × Contains xs x × Contains (f x) y
  has_found [] y h = absurd (none_has y h)
  has_found (x ∷ xs) y h =
      elim (Contains-append_cases (f x) (flat_map f xs) y
      (subst (λ (l : List A). Contains l y) (flat_map-cons f x xs) h)) [
        | inl here ↦ (x, has_first x xs, here)
        | inr later ↦ (let r = has_found xs y later in (r.0, has_more x xs r.0 r.1, r.2))
      ]

  pub has_again : (xs : List X) (x : X) (y : A) → Contains xs x → Contains (f x) y
      → Contains (flat_map f xs) y
  has_again [] x y h k = absurd (none_has x h)
  has_again (z ∷ xs) x y h k =
      subst (λ (l : List A). Contains l y) (sym (flat_map-cons f z xs)) (elim (has_cases z xs x h) [
        | inl is ↦
            Contains-append_left (f z) (flat_map f xs) y
            (subst (λ (w : X). Contains (f w) y) (sym is) k)
        | inr more ↦ Contains-append_right (f z) (flat_map f xs) y (has_again xs x y more k)
      ])

-- ---- what a member offers

equal_is : (operator : Operator) → is_equal operator ≡ true → operator ≡ Equal
equal_is Equal h = refl
equal_is Earlier h = absurd cc
equal_is EarlierOrEqual h = absurd cc
equal_is LaterOrEqual h = absurd cc
equal_is Later h = absurd cc

pub record IsOfferOf (home : Option ℕ) (x : Asked) (o : Supplied) : Type 0 where
  pub name : o.name ≡ x.name
  pub version : IsOfferedAt x.restriction o.version
  pub arch : o.arch ≡ home
  pub build : o.build ≡ None

abbrev offer : Option ℕ → List ℕ → Option Parts → Supplied
offer home name version = record { name = name; version = version; arch = home; build = None }

offer_is : (home : Option ℕ) (name : List ℕ) (version : Option Parts) (o : Supplied) → o.name ≡ name
    → o.version ≡ version → o.arch ≡ home → o.build ≡ None → offer home name version ≡ o
offer_is home name version o n v a b =
    λ i. record { name = sym n i; version = sym v i; arch = sym a i; build = sym b i }

at_found : (home : Option ℕ) (x : Asked) (r : Option Bound) (o : Supplied) → x.restriction ≡ r
    → Contains (provided_at home x.name r) o → IsOfferOf home x o
at_found home x None o is h =
    let same = one_has (offer home x.name None) o h in
    subst (IsOfferOf home x) same
    (record {
      name = refl;
      version = subst (λ (q : Option Bound). IsOfferedAt q None) (sym is) refl;
      arch = refl;
      build = refl;
    })
at_found home x (Some r) o is h =
    elim (cases_Bool (is_equal r.operator)) [
      | inl equal ↦
          let given : Contains (offer home x.name (Some r.version) ∷ []) o =
          subst (λ (b : Bool). Contains (cond b (offer home x.name (Some r.version) ∷ []) []) o)
          equal h in
          let same = one_has (offer home x.name (Some r.version)) o given in
          subst (IsOfferOf home x) same
          (record {
            name = refl;
            version = subst (λ (q : Option Bound). IsOfferedAt q (Some r.version)) (sym is)
                (equal_is r.operator equal, refl);
            arch = refl;
            build = refl;
          })
      | inr other ↦
          absurd (none_has o (subst
          (λ (b : Bool). Contains (cond b (offer home x.name (Some r.version) ∷ []) []) o) other h))
    ]

at_again : (home : Option ℕ) (x : Asked) (r : Option Bound) (o : Supplied) → IsOfferedAt r o.version
    → o.name ≡ x.name → o.arch ≡ home → o.build ≡ None → Contains (provided_at home x.name r) o
at_again home x None o v n a b =
    subst (Contains (offer home x.name None ∷ [])) (offer_is home x.name None o n v a b)
    (has_first (offer home x.name None) [])
at_again home x (Some r) o v n a b =
    let one : Contains (offer home x.name (Some r.version) ∷ []) o =
    subst (Contains (offer home x.name (Some r.version) ∷ []))
    (offer_is home x.name (Some r.version) o n v.1 a b)
    (has_first (offer home x.name (Some r.version)) []) in
    subst (λ (b : Bool). Contains (cond b (offer home x.name (Some r.version) ∷ []) []) o)
    (sym (ap is_equal v.0)) one

member_found : (b : KeptBinary) (m : List Asked) (o : Supplied) → Contains b.provides m
    → Contains (provided b.head.home m) o → IsProvidedBy b o
member_found b [] o at h = absurd (none_has o h)
member_found b (x ∷ []) o at h =
    let is = at_found b.head.home x x.restriction o refl h in
    record {
      alternative = x;
      member = at;
      name = is.name;
      version = is.version;
      arch = is.arch;
      build = is.build;
    }
member_found b (x ∷ y ∷ more) o at h = absurd (none_has o h)

-- ---- what a package offers

own_found : (a : Contents) (b : KeptBinary) (o : Supplied) → own_offer a.sources b ≡ o
    → IsItself a b o
own_found a b o is =
    subst (IsItself a b) is (record { name = refl; version = refl; arch = refl; build = refl })

own_again : (a : Contents) (b : KeptBinary) (o : Supplied) → IsItself a b o
    → own_offer a.sources b ≡ o
own_again a b o h =
    λ i. record {
      name = sym h.name i;
      version = sym h.version i;
      arch = sym h.arch i;
      build = sym h.build i;
    }

found : (a : Contents) (o : Supplied) → Contains (supply_of a).offers o → ComesOf a o
found a o h =
    let r = has_found (offers_by a.sources) a.binaries o h in
    record { binary = r.0; kept = r.1; offered = by r.0 r.2 }
  where
    by : (b : KeptBinary) → Contains (offers_by a.sources b) o → IsItself a b o ⊎ IsProvidedBy b o
    by b k =
        elim (has_cases (own_offer a.sources b) (flat_map (provided b.head.home) b.provides) o k) [
          | inl is ↦ inl (own_found a b o is)
          | inr more ↦
              (let m = has_found (provided b.head.home) b.provides o more in
              inr (member_found b m.0 o m.1 m.2))
        ]

again : (a : Contents) (o : Supplied) → ComesOf a o → Contains (supply_of a).offers o
again a o h = has_again (offers_by a.sources) a.binaries h.binary o h.kept (by h.binary h.offered)
  where
    by : (b : KeptBinary) → IsItself a b o ⊎ IsProvidedBy b o → Contains (offers_by a.sources b) o
    by b (inl own) =
        subst (λ (x : Supplied). Contains (x ∷ flat_map (provided b.head.home) b.provides) o)
        (sym (own_again a b o own)) (has_first o (flat_map (provided b.head.home) b.provides))
    by b (inr p) =
        has_more (own_offer a.sources b) (flat_map (provided b.head.home) b.provides) o
        (has_again (provided b.head.home) b.provides (p.alternative ∷ []) o p.member
        (at_again b.head.home p.alternative p.alternative.restriction o p.version p.name p.arch
        p.build))

pub offers_are_exact : OffersAreExact
offers_are_exact a o = (found a o, again a o)
