-- What a relation doesn't name makes no difference to it, and what is met stays met.
use Rattle.std.proofs.Common.{◌≡◌, ◌≢◌, ℕ, Bool, true, false, cond, not, eqb, ltb, ◌&&◌, ◌||◌, List}
use Rattle.std.proofs.Common.{[], ◌∷◌, ◌++◌, length, map, refl, sym, ap, ◌∙◌}
use Rattle.std.specs.Prelude.{IsTrue}
use Rattle.std.specs.List.{list_all, list_any, AllByRecursion}
use Rattle.std.specs.Str.{bytes_eq}
use Rattle.std.proofs.lemmas.Bool.{and_parts, and_from, or_parts, or_left, or_right}
use Rattle.std.proofs.lemmas.List.Folds.{list_any-append}
use Rattle.std.proofs.lemmas.Slice.Eq.{bytes_eq-Decides}
use Rattle.td_text.specs.Words.{is_arch_byte, is_arch}
use Rattle.td_text.proofs.Chain.{list_any-map}
use Rattle.td_relation.specs.Arch.{ArchWords, matches}
use Rattle.td_relation.specs.ArchList.{is_negated, bare, counts}
use Rattle.td_relation.specs.Asked.{Asked}
use Rattle.td_relation.specs.Meeting.{satisfies, is_there, active, alternative_met, member_met, met}
use Rattle.td_relation.specs.Meeting.{names}
use Rattle.td_relation.specs.MeetingLaws.{OthersMakeNoDifference, MoreStillMeets, ListsCount}
use Rattle.td_relation.specs.Offers.{Offered}
use Rattle.td_relation.specs.RelationWriting.{marked}
use Rattle.td_text.proofs.RunTexts.{misses}

-- ---- tests that agree, and tests that go on from one another

any_and_all_same : {X : Type 0} (test f g : X → Bool) → ((x : X) → test x ≡ false → f x ≡ g x)
    → (xs : List X) → list_any test xs ≡ false
    → (list_any f xs ≡ list_any g xs) × (list_all f xs ≡ list_all g xs)
any_and_all_same test f g same [] h = (refl, refl)
any_and_all_same test f g same (x ∷ xs) h =
    let p = or_parts (test x) (list_any test xs) h in
    let head = same x p.0 in
    let later = any_and_all_same test f g same xs p.1 in
    (rw (head, later.0) refl, rw (head, later.1) refl)

any_goes_on : {X : Type 0} (f g : X → Bool) → ((x : X) → f x ≡ true → g x ≡ true) → (xs : List X)
    → list_any f xs ≡ true → list_any g xs ≡ true
any_goes_on f g on [] h = h
any_goes_on f g on (x ∷ xs) h = by (any_goes_on f g on xs) (f x) refl h
  where
    by : (list_any f xs ≡ true → list_any g xs ≡ true) → (b : Bool) → f x ≡ b
        → (b || list_any f xs) ≡ true → (g x || list_any g xs) ≡ true
    by later true is k = or_left (g x) _ (on x is)
    by later false is k = or_right (g x) _ (later k)

all_go_on : {X : Type 0} (f g : X → Bool) → ((x : X) → f x ≡ true → g x ≡ true) → (xs : List X)
    → list_all f xs ≡ true → list_all g xs ≡ true
all_go_on f g on [] h = h
all_go_on f g on (x ∷ xs) h =
    let p = and_parts (f x) (list_all f xs) h in
    and_from _ _ (on x p.0) (all_go_on f g on xs p.1)

-- ---- other names

module _ (some other : List ℕ → List Offered) (place : ℕ) (a : ArchWords) (name : List ℕ)
    (agree : (q : List ℕ) → q ≢ name → some q ≡ other q) where
  alternative_same : (x : Asked) → (active a x && bytes_eq x.name name) ≡ false
      → (active a x && alternative_met some place x) ≡ (active a x && alternative_met other place x)
  alternative_same x h = by (active a x) h
    where
      by : (b : Bool) → (b && bytes_eq x.name name) ≡ false
          → (b && alternative_met some place x) ≡ (b && alternative_met other place x)
      by false k = refl
      by true k =
          ap (list_any (λ o. is_there place o && satisfies x.restriction o.version))
          (agree x.name (λ e.
          (let bad : true ≡ false = sym ((bytes_eq-Decides x.name name).1 e) ∙ k in cc)))

  member_same : (m : List Asked) → list_any (λ x. active a x && bytes_eq x.name name) m ≡ false
      → member_met some place a m ≡ member_met other place a m
  member_same m h =
      ap (λ (b : Bool). not (list_any (λ x. active a x) m) || b)
      (any_and_all_same (λ x. active a x && bytes_eq x.name name)
      (λ x. active a x && alternative_met some place x)
      (λ x. active a x && alternative_met other place x) alternative_same m h).0

  pub relation_same : (ms : List (List Asked)) → names a name ms ≡ false
      → met some place a ms ≡ met other place a ms
  relation_same ms h =
      (any_and_all_same (λ m. list_any (λ x. active a x && bytes_eq x.name name) m)
      (λ m. member_met some place a m) (λ m. member_met other place a m) member_same ms h).1

pub others_make_no_difference : OthersMakeNoDifference
others_make_no_difference some other place a name ms agree h =
    relation_same some other place a name agree ms h

-- ---- more offers

module _ (some more : List ℕ → List Offered) (place : ℕ) (a : ArchWords) where
  alternative_on : (x : Asked) → (active a x && alternative_met some place x) ≡ true
      → (active a x && alternative_met (λ q. some q ++ more q) place x) ≡ true
  alternative_on x h =
      let p = and_parts (active a x) (alternative_met some place x) h in
      and_from _ _ p.0 (list_any-append (λ o. is_there place o && satisfies x.restriction o.version)
      (some x.name) (more x.name) ∙ or_left (alternative_met some place x) _ p.1)

  member_on : (m : List Asked) → member_met some place a m ≡ true
      → member_met (λ q. some q ++ more q) place a m ≡ true
  member_on m h = by (not (list_any (λ x. active a x) m)) h
    where
      by : (b : Bool) → (b || list_any (λ x. active a x && alternative_met some place x) m) ≡ true
          → (b || list_any (λ x. active a x && alternative_met (λ q. some q ++ more q) place x) m)
          ≡ true
      by true k = refl
      by false k =
          any_goes_on (λ x. active a x && alternative_met some place x)
          (λ x. active a x && alternative_met (λ q. some q ++ more q) place x) alternative_on m k

pub more_still_meets : MoreStillMeets
more_still_meets some more place a ms h =
    all_go_on (λ m. member_met some place a m) (λ m. member_met (λ q. some q ++ more q) place a m)
    (member_on some more place a) ms h

-- ---- architecture lists

plain_word : (n : List ℕ) → is_arch n ≡ true → (is_negated n ≡ false) × (bare n ≡ n)
plain_word [] h = absurd cc
plain_word (x ∷ n) h =
    let p = and_parts (ltb 0 (length (x ∷ n))) (list_all is_arch_byte (x ∷ n)) h in
    let other : eqb x 33 ≡ false =
    misses is_arch_byte 33 x refl (and_parts (is_arch_byte x) (list_all is_arch_byte n) p.1).0 in
    (other, rw other refl)

none_negated : (ns : List (List ℕ)) → AllByRecursion (λ n. IsTrue (is_arch n)) ns
    → list_any is_negated (map (marked false) ns) ≡ false
none_negated [] h = refl
none_negated (n ∷ ns) h = rw ((plain_word n h.0).0, none_negated ns h.1) refl

plain_matches : (a : ArchWords) (ns : List (List ℕ)) → AllByRecursion (λ n. IsTrue (is_arch n)) ns
    → list_any (λ w. matches a (bare w)) (map (marked false) ns) ≡ list_any (matches a) ns
plain_matches a [] h = refl
plain_matches a (n ∷ ns) h =
    ap (λ (w : List ℕ). matches a w || list_any (λ v. matches a (bare v)) (map (marked false) ns))
    (plain_word n h.0).1 ∙ ap (λ (b : Bool). matches a n || b) (plain_matches a ns h.1)

lists_count : (a : ArchWords) (negated : Bool) (ns : List (List ℕ)) → ns ≢ []
    → AllByRecursion (λ n. IsTrue (is_arch n)) ns
    → counts a (map (marked negated) ns)
    ≡ cond negated (not (list_any (matches a) ns)) (list_any (matches a) ns)
lists_count a true [] some h = absurd (some refl)
lists_count a true (n ∷ ns) some h =
    ap not (list_any-map (λ w. matches a (bare w)) (marked true) (n ∷ ns))
lists_count a false ns some h =
    ap (λ (b : Bool). cond b (not (list_any (λ w. matches a (bare w)) (map (marked false) ns)))
    (list_any (λ w. matches a (bare w)) (map (marked false) ns))) (none_negated ns h)
    ∙ plain_matches a ns h

pub lists_count_so : ListsCount
lists_count_so a l h = lists_count a l.negated l.names h.0 h.1
