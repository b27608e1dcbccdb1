-- The version of a rebuild, as it is written, is read as the version under which it arrives.
use Rattle.std.proofs.Common.{◌≡◌, ◌<◌, ◌≤◌, ◌^◌, ℕ, zero, suc, Bool, true, false, not, cond}
use Rattle.std.proofs.Common.{eqb, ltb}
use Rattle.std.proofs.Common.{leb, ◌&&◌, ◌||◌, List, [], ◌∷◌, ◌++◌, Option, Some, None, length}
use Rattle.std.proofs.Common.{refl, sym}
use Rattle.std.proofs.Common.{ap, subst, ◌∙◌, arith, append_assoc, append-nil, codes, decimal}
use Rattle.std.proofs.Common.{inl, inr, length-append}
use Rattle.std.specs.Prelude.{is_some, unwrap_or}
use Rattle.std.specs.Char.{is_ascii_digit}
use Rattle.std.specs.List.{list_all, list_any}
use Rattle.std.specs.Str.{all_ascii_digits}
use Rattle.std.specs.Str.Parse.{digits_value}
use Rattle.std.proofs.lemmas.Bool.{and_from, and_parts, cases_Bool, eqb-true, le-leb, leb-true}
use Rattle.std.proofs.lemmas.Bool.{lt-ltb, ltb-true, not-true, or_from, or_left, or_right}
use Rattle.std.proofs.lemmas.Fmt.{decimal_nonempty, digits_decimal, digits_value-decimal}
use Rattle.std.proofs.lemmas.List.Folds.{list_all-append, list_any-append}
use Rattle.td_text.specs.Cut.{Without}
use Rattle.td_text.proofs.Cut.{Without-append, Without-from_test, Without-left}
use Rattle.td_text.proofs.Numbers.{decimal_model}
use Rattle.td_version.specs.Base.{base_by, base_of, base_part, rebuilt_from, upstream_base}
use Rattle.td_version.specs.Grammar.{EpochFits, IsLastHyphen, IsVersion, RevisionFits}
use Rattle.td_version.specs.Grammar.{epoch_number, is_epoch, is_part, is_revision_byte}
use Rattle.td_version.specs.Grammar.{is_upstream_byte, parts_written, revision_back}
use Rattle.td_version.specs.Order.{is_letter}
use Rattle.td_version.specs.Rebuild.{rebuild_suffix}
use Rattle.td_version.specs.Version.{Parts}
use Rattle.td_version.proofs.Rebuilds.{rebuilt_found}
use Rattle.td_supply.specs.Supplied.{with_rebuild}
use Rattle.td_plan.specs.Packages.{RebuiltTextsAreRead, epoch_text, is_written, rebuilt_text}
use Rattle.td_plan.specs.Packages.{revision_text, version_text}
use Rattle.td_plan.specs.ReadingLaws.{RebuiltVersionsAreRead}
use Rattle.td_plan.proofs.SaidBytes.{each_passes, lacks_any}

-- ---- 1. a version as it is written

-- whether a text has a colon
abbrev has_colon : List ℕ → Bool
has_colon t = list_any (λ c. eqb c 58) t

-- parts that can be written as a version
record CanBeSpelled (v : Parts) : Type 0 where
  epoch : v.epoch ≤ 2147483647
  some : 0 < length v.upstream
  upstream : list_all (is_upstream_byte true) v.upstream ≡ true
  revision : RevisionFits v.revision
  hyphen : IsLastHyphen v.upstream v.revision

revision_same : (r : Option (List ℕ)) → revision_text r ≡ revision_back r
revision_same None = refl
revision_same (Some r) = refl

revision_lacks : (r : Option (List ℕ)) → RevisionFits r → Without 58 (revision_back r)
revision_lacks None h = tt
revision_lacks (Some r) h = (
  (λ e. omega arith),
  Without-from_test is_revision_byte 58 r refl
      (and_parts (ltb 0 (length r)) (list_all is_revision_byte r) h).1,
)

-- a byte that isn't a colon needs no epoch
narrow : (b : ℕ) → eqb b 58 ≡ false → is_upstream_byte true b ≡ true
    → is_upstream_byte false b ≡ true
narrow b other h = by (is_revision_byte b) (eqb b 45) (eqb b 58) other h
  where
    by : (r m c : Bool) → c ≡ false → (r || (m || (true && c))) ≡ true
        → (r || (m || (false && c))) ≡ true
    by true m c o g = refl
    by false true c o g = refl
    by false false true o g = absurd cc
    by false false false o g = absurd cc

all_narrow : (t : List ℕ) → has_colon t ≡ false → list_all (is_upstream_byte true) t ≡ true
    → list_all (is_upstream_byte false) t ≡ true
all_narrow [] none h = refl
all_narrow (x ∷ t) none h =
    let a = and_parts (is_upstream_byte true x) (list_all (is_upstream_byte true) t) h in
    and_from (is_upstream_byte false x) (list_all (is_upstream_byte false) t)
    (narrow x (left_false (eqb x 58) (has_colon t) none) a.0)
    (all_narrow t (right_false (eqb x 58) (has_colon t) none) a.1)
  where
    left_false : (a b : Bool) → (a || b) ≡ false → a ≡ false
    left_false true b g = g
    left_false false b g = refl

    right_false : (a b : Bool) → (a || b) ≡ false → b ≡ false
    right_false true b g = absurd cc
    right_false false b g = g

all_digits : (t : List ℕ) → all_ascii_digits t ≡ true → list_all is_ascii_digit t ≡ true
all_digits [] h = refl
all_digits (x ∷ t) h =
    let a = and_parts (is_ascii_digit x) (all_ascii_digits t) h in
    and_from (is_ascii_digit x) (list_all is_ascii_digit t) a.0 (all_digits t a.1)

number_digits : (n : ℕ) → n < 2 ^ 64 → all_ascii_digits (decimal n) ≡ true
number_digits n small = digits_decimal decimal_model n small

epoch_is : (e : ℕ) → e ≤ 2147483647 → is_epoch (decimal e) ≡ true
epoch_is e within =
    let small : e < 2 ^ 64 = omega arith in
    and_from (ltb 0 (length (decimal e))) _
    (lt-ltb 0 (length (decimal e)) (decimal_nonempty e small))
    (and_from (all_ascii_digits (decimal e)) (leb (digits_value 10 (decimal e)) 2147483647)
    (number_digits e small)
    (le-leb (digits_value 10 (decimal e)) 2147483647
    (let same = digits_value-decimal decimal_model e small in omega arith)))

spelled : (e : ℕ) (u : List ℕ) (r : Option (List ℕ))
    → CanBeSpelled (record { epoch = e; upstream = u; revision = r })
    → IsVersion (version_text (record { epoch = e; upstream = u; revision = r }))
    (record { epoch = e; upstream = u; revision = r })
spelled e u r h = by (eqb e 0 && not (has_colon u)) refl
  where
    tail : u ++ revision_text r ≡ u ++ revision_back r
    tail = ap (λ (t : List ℕ). u ++ t) (revision_same r)

    by : (b : Bool) → (eqb e 0 && not (has_colon u)) ≡ b
        → IsVersion (cond b [] (decimal e ++ codes ":") ++ (u ++ revision_text r))
        (record { epoch = e; upstream = u; revision = r })
    by true is =
        let a = and_parts (eqb e 0) (not (has_colon u)) is in
        let none = not-true (has_colon u) a.1 in
        record {
          written = record { epoch = None; upstream = u; revision = r };
          cut = record {
            joined = tail;
            first_colon = Without-append 58 u (revision_back r) (lacks_any 58 u none)
                (revision_lacks r h.revision);
            last_hyphen = h.hyphen;
          };
          epoch = tt;
          upstream = and_from (ltb 0 (length u)) (list_all (is_upstream_byte false) u)
              (lt-ltb 0 (length u) h.some) (all_narrow u none h.upstream);
          revision = h.revision;
          parts = ap (λ (n : ℕ). record { epoch = n; upstream = u; revision = r })
              (eqb-true e 0 a.0);
        }
    by false is =
        let within = h.epoch in
        let small : e < 2 ^ 64 = omega arith in
        record {
          written = record { epoch = Some (decimal e); upstream = u; revision = r };
          cut = record {
            joined = ap (λ (t : List ℕ). (decimal e ++ 58 ∷ []) ++ t) tail;
            first_colon = Without-from_test is_ascii_digit 58 (decimal e) refl
                (all_digits (decimal e) (number_digits e small));
            last_hyphen = h.hyphen;
          };
          epoch = epoch_is e h.epoch;
          upstream = and_from (ltb 0 (length u)) (list_all (is_upstream_byte true) u)
              (lt-ltb 0 (length u) h.some) h.upstream;
          revision = h.revision;
          parts = ap (λ (n : ℕ). record { epoch = n; upstream = u; revision = r })
              (sym (digits_value-decimal decimal_model e small));
        }

-- ---- 2. the suffix

suffix_bytes : (n : ℕ) → n ≤ 9999 → list_all is_revision_byte (rebuild_suffix n) ≡ true
suffix_bytes zero small = refl
suffix_bytes (suc n) small =
    each_passes is_ascii_digit is_revision_byte (decimal (suc n))
    (λ b h. or_right (is_letter b) _ (or_left (is_ascii_digit b) _ h))
    (all_digits (decimal (suc n)) (number_digits (suc n) (omega arith)))

suffix_colon : (n : ℕ) → n ≤ 9999 → has_colon (rebuild_suffix n) ≡ false
suffix_colon n small = none (rebuild_suffix n) (suffix_bytes n small)
  where
    one : (b : ℕ) → is_revision_byte b ≡ true → eqb b 58 ≡ false
    one b h = elim (cases_Bool (eqb b 58)) [
      | inl is ↦
          let same : b ≡ 58 = eqb-true b 58 is in
          let bad : true ≡ false = sym h ∙ ap is_revision_byte same in absurd cc
      | inr other ↦ other
    ]

    none : (t : List ℕ) → list_all is_revision_byte t ≡ true → has_colon t ≡ false
    none [] h = refl
    none (x ∷ t) h =
        let a = and_parts (is_revision_byte x) (list_all is_revision_byte t) h in
        or_from (eqb x 58) (has_colon t) (one x a.0) (none t a.1)

or_none : (b : Bool) → (b || false) ≡ b
or_none true = refl
or_none false = refl

-- a suffix adds no colon
same_colon : (u : List ℕ) (n : ℕ) → n ≤ 9999 → has_colon (u ++ rebuild_suffix n) ≡ has_colon u
same_colon u n small = list_any-append (λ c. eqb c 58) u (rebuild_suffix n)
    ∙ ap (λ (b : Bool). has_colon u || b) (suffix_colon n small) ∙ or_none (has_colon u)

rebuilt_is : (e : ℕ) (u : List ℕ) (r : Option (List ℕ)) (n : ℕ) → n ≤ 9999
    → version_text (with_rebuild (record { epoch = e; upstream = u; revision = r }) n)
    ≡ rebuilt_text (record { epoch = e; upstream = u; revision = r }) n
rebuilt_is e u None n small =
    ap (λ (b : Bool). cond (eqb e 0 && not b) [] (decimal e ++ codes ":")
    ++ ((u ++ rebuild_suffix n) ++ [])) (same_colon u n small)
    ∙ ap (λ (t : List ℕ). epoch_text e u ++ t)
    (append-nil (u ++ rebuild_suffix n)
    ∙ ap (λ (t : List ℕ). t ++ rebuild_suffix n) (sym (append-nil u)))
    ∙ sym (append_assoc (epoch_text e u) (u ++ []) (rebuild_suffix n))
rebuilt_is e u (Some r) n small =
    sym (append_assoc (epoch_text e u) (u ++ 45 ∷ r) (rebuild_suffix n)
    ∙ ap (λ (t : List ℕ). epoch_text e u ++ t) (append_assoc u (45 ∷ r) (rebuild_suffix n)))

-- ---- 3. the base

-- what is before a suffix is a front of the part
base_front : (part : List ℕ) → (more : List ℕ) × (part ≡ base_part part ++ more)
base_front part = by (rebuilt_from part) refl
  where
    by : (o : Option (List ℕ)) → rebuilt_from part ≡ o
        → (more : List ℕ) × (part ≡ unwrap_or o part ++ more)
    by None is = ([], sym (append-nil part))
    by (Some b) is =
        let found = rebuilt_found part b is in (rebuild_suffix found.0, found.3)

upstream_front : (e : ℕ) (u : List ℕ) → (more : List ℕ) × (u ≡ upstream_base e u ++ more)
upstream_front e u = by (eqb (length (base_part u)) 0 && eqb e 0)
  where
    by : (b : Bool) → (more : List ℕ) × (u ≡ cond b u (base_part u) ++ more)
    by true = ([], sym (append-nil u))
    by false = base_front u

front_passes : (test : ℕ → Bool) (t front more : List ℕ) → t ≡ front ++ more
    → list_all test t ≡ true → list_all test front ≡ true
front_passes test t front more is h =
    (and_parts (list_all test front) (list_all test more)
    (sym (list_all-append test front more) ∙ ap (list_all test) (sym is) ∙ h)).0

-- with a number, or with something left of the base, a part has a byte
filled : (part : List ℕ) (n : ℕ) → (ltb 0 n || ltb 0 (length part)) ≡ true
    → 0 < length (part ++ rebuild_suffix n)
filled part zero h =
    let some = ltb-true 0 (length part) h in
    omega (arith, length-append part [])
filled part (suc n) h =
    omega (arith, length-append part (rebuild_suffix (suc n)))

epoch_within : (epoch : Option (List ℕ)) → EpochFits epoch → epoch_number epoch ≤ 2147483647
epoch_within None h = omega arith
epoch_within (Some digits) h =
    let a = and_parts (ltb 0 (length digits)) _ h in
    let b = and_parts (all_ascii_digits digits) _ a.1 in
    leb-true (digits_value 10 digits) 2147483647 b.1

widen : (has : Bool) (b : ℕ) → is_upstream_byte has b ≡ true → is_upstream_byte true b ≡ true
widen true b h = h
widen false b h = by (is_revision_byte b) (eqb b 45) h
  where
    by : (r m : Bool) → (r || (m || false)) ≡ true → (r || (m || eqb b 58)) ≡ true
    by true m g = refl
    by false true g = refl
    by false false g = absurd cc

-- ---- 4. the law

-- a front of an upstream part with no revision, and a suffix
upstream_so : (epoch : Option (List ℕ)) (u base more : List ℕ) (n : ℕ) → n ≤ 9999
    → EpochFits epoch → is_part (is_upstream_byte (is_some epoch)) u ≡ true → Without 45 u
    → u ≡ base ++ more → (ltb 0 n || ltb 0 (length base)) ≡ true
    → CanBeSpelled (record {
      epoch = epoch_number epoch;
      upstream = base ++ rebuild_suffix n;
      revision = None;
    })
upstream_so epoch u base more n small fits part hyphen is some =
    let a = and_parts (ltb 0 (length u)) (list_all (is_upstream_byte (is_some epoch)) u) part in
    let bytes : list_all (is_upstream_byte true) u ≡ true =
    each_passes (is_upstream_byte (is_some epoch)) (is_upstream_byte true) u
    (widen (is_some epoch)) a.1 in
    let suffix = suffix_bytes n small in
    record {
      epoch = epoch_within epoch fits;
      some = filled base n some;
      upstream = list_all-append (is_upstream_byte true) base (rebuild_suffix n)
          ∙ and_from (list_all (is_upstream_byte true) base)
          (list_all (is_upstream_byte true) (rebuild_suffix n))
          (front_passes (is_upstream_byte true) u base more is bytes)
          (each_passes is_revision_byte (is_upstream_byte true) (rebuild_suffix n)
          (λ b h. or_left (is_revision_byte b) _ h) suffix);
      revision = tt;
      hyphen = Without-append 45 base (rebuild_suffix n)
          (Without-left 45 base more (subst (Without 45) is hyphen))
          (Without-from_test is_revision_byte 45 (rebuild_suffix n) refl suffix);
    }

-- a front of a revision, and a suffix
revision_so : (epoch : Option (List ℕ)) (u r base more : List ℕ) (n : ℕ) → n ≤ 9999
    → EpochFits epoch → is_part (is_upstream_byte (is_some epoch)) u ≡ true
    → is_part is_revision_byte r ≡ true → r ≡ base ++ more
    → (ltb 0 n || ltb 0 (length base)) ≡ true
    → CanBeSpelled (record {
      epoch = epoch_number epoch;
      upstream = u;
      revision = Some (base ++ rebuild_suffix n);
    })
revision_so epoch u r base more n small fits part revision is some =
    let a = and_parts (ltb 0 (length u)) (list_all (is_upstream_byte (is_some epoch)) u) part in
    let b = and_parts (ltb 0 (length r)) (list_all is_revision_byte r) revision in
    let bytes : list_all is_revision_byte (base ++ rebuild_suffix n) ≡ true =
    list_all-append is_revision_byte base (rebuild_suffix n)
    ∙ and_from (list_all is_revision_byte base) (list_all is_revision_byte (rebuild_suffix n))
    (front_passes is_revision_byte r base more is b.1) (suffix_bytes n small) in
    record {
      epoch = epoch_within epoch fits;
      some = ltb-true 0 (length u) a.0;
      upstream = each_passes (is_upstream_byte (is_some epoch)) (is_upstream_byte true) u
          (widen (is_some epoch)) a.1;
      revision = and_from (ltb 0 (length (base ++ rebuild_suffix n)))
          (list_all is_revision_byte (base ++ rebuild_suffix n))
          (lt-ltb 0 (length (base ++ rebuild_suffix n)) (filled base n some)) bytes;
      hyphen = Without-from_test is_revision_byte 45 (base ++ rebuild_suffix n) refl bytes;
    }

read_so : (e : ℕ) (u : List ℕ) (r : Option (List ℕ)) (n : ℕ) → n ≤ 9999
    → CanBeSpelled (with_rebuild (record { epoch = e; upstream = u; revision = r }) n)
    → IsVersion (rebuilt_text (record { epoch = e; upstream = u; revision = r }) n)
    (with_rebuild (record { epoch = e; upstream = u; revision = r }) n)
read_so e u None n small h =
    subst (λ (t : List ℕ). IsVersion t
    (with_rebuild (record { epoch = e; upstream = u; revision = None }) n))
    (rebuilt_is e u None n small) (spelled e (u ++ rebuild_suffix n) None h)
read_so e u (Some r) n small h =
    subst (λ (t : List ℕ). IsVersion t
    (with_rebuild (record { epoch = e; upstream = u; revision = Some r }) n))
    (rebuilt_is e u (Some r) n small) (spelled e u (Some (r ++ rebuild_suffix n)) h)

-- the rebuild of some parts is written so that it is read
abbrev IsReadSo : ℕ → Parts → Type 0
IsReadSo n base = is_written base n ≡ true
    → IsVersion (rebuilt_text base n) (with_rebuild base n)

itself : (epoch : Option (List ℕ)) (u : List ℕ) (r : Option (List ℕ)) (n : ℕ) → n ≤ 9999
    → EpochFits epoch → is_part (is_upstream_byte (is_some epoch)) u ≡ true → RevisionFits r
    → IsLastHyphen u r
    → IsReadSo n (record { epoch = epoch_number epoch; upstream = u; revision = r })
itself epoch u None n small fits part revision hyphen some =
    read_so (epoch_number epoch) u None n small
    (upstream_so epoch u u [] n small fits part hyphen (sym (append-nil u)) some)
itself epoch u (Some r) n small fits part revision hyphen some =
    read_so (epoch_number epoch) u (Some r) n small
    (revision_so epoch u r r [] n small fits part revision (sym (append-nil r)) some)

its_base : (epoch : Option (List ℕ)) (u : List ℕ) (r : Option (List ℕ)) (n : ℕ) → n ≤ 9999
    → EpochFits epoch → is_part (is_upstream_byte (is_some epoch)) u ≡ true → RevisionFits r
    → IsLastHyphen u r → IsReadSo n (base_by (epoch_number epoch) u r)
its_base epoch u None n small fits part revision hyphen some =
    let front = upstream_front (epoch_number epoch) u in
    read_so (epoch_number epoch) (upstream_base (epoch_number epoch) u) None n small
    (upstream_so epoch u (upstream_base (epoch_number epoch) u) front.0 n small fits part hyphen
    front.1 some)
its_base epoch u (Some r) n small fits part revision hyphen some =
    let front = base_front r in
    read_so (epoch_number epoch) u (Some (base_part r)) n small
    (revision_so epoch u r (base_part r) front.0 n small fits part revision front.1 some)

pub rebuilt_versions_are_read : RebuiltVersionsAreRead
rebuilt_versions_are_read text p base number small v (inl is) some =
    let w = v.written in
    let so : IsReadSo number (parts_written w) = itself w.epoch w.upstream w.revision number small
    v.epoch v.upstream v.revision v.cut.last_hyphen in
    subst (IsReadSo number) (sym v.parts ∙ sym is) so some
rebuilt_versions_are_read text p base number small v (inr is) some =
    let w = v.written in
    let so : IsReadSo number (base_of (parts_written w)) =
    its_base w.epoch w.upstream w.revision number small v.epoch v.upstream v.revision
    v.cut.last_hyphen in
    subst (IsReadSo number) (ap base_of (sym v.parts) ∙ sym is) so some

pub rebuilt_texts_are_read : RebuiltTextsAreRead
rebuilt_texts_are_read text p number small v some =
    rebuilt_versions_are_read text p (base_of p) number small v (inr refl) some
