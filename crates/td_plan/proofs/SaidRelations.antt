-- The relations of waits are read as the waits, and need no other quotes.
use Rattle.std.proofs.Common.{◌≡◌, ◌<◌, ℕ, Bool, true, false, eqb, List, [], ◌∷◌, ◌++◌}
use Rattle.std.proofs.Common.{Ok}
use Rattle.std.proofs.Common.{length, map, refl, ap, ◌∙◌, arith, codes}
use Rattle.std.specs.List.{AllByRecursion, flat_map, list_all, list_any}
use Rattle.std.proofs.lemmas.Bool.{and_parts, or_from}
use Rattle.std.proofs.lemmas.List.Folds.{list_any-append}
use Rattle.td_text.specs.Words.{is_name_byte}
use Rattle.td_text.proofs.RunTexts.{misses}
use Rattle.td_relation.specs.Asked.{Asked}
use Rattle.td_relation.specs.RelationGrammar.{is_version_byte, relation_at}
use Rattle.td_relation.specs.RelationWriting.{WrittenAlternative, alternative_asked}
use Rattle.td_relation.specs.RelationWriting.{MemberFits, RelationFits, member_text}
use Rattle.td_relation.proofs.VersionBytes.{version_bytes}
use Rattle.td_relation.proofs.WrittenMembers.{read_again}
use Rattle.td_plan.specs.ReadingLaws.{CanBeWritten, RelationsAreRead, asked_for}
use Rattle.td_plan.specs.Relations.{member_of, relation_of}
use Rattle.td_plan.specs.Waits.{Wait}
use Rattle.td_plan.proofs.SaidBytes.{name_parts}

-- ---- 1. how it is read

members_fit : (waits : List Wait) → AllByRecursion CanBeWritten waits
    → AllByRecursion MemberFits (map member_of waits)
members_fit [] all = tt
members_fit (w ∷ waits) all = (
  (
    (λ e. let bad : ⊥ = (cc) in bad),
    (
      record {
        name = all.0.name;
        qualifier = tt;
        bound = all.0.version;
        archs = tt;
        profiles = tt;
      },
      tt,
    ),
  ),
  members_fit waits all.1,
)

relation_fits : (waits : List Wait) → 0 < length waits → AllByRecursion CanBeWritten waits
    → RelationFits (map member_of waits)
relation_fits [] some all = absurd (omega arith)
relation_fits (w ∷ waits) some all =
    ((λ e. let bad : ⊥ = (cc) in bad), members_fit (w ∷ waits) all)

asked_so : (waits : List Wait) → map (λ (m : List WrittenAlternative). map alternative_asked m)
    (map member_of waits) ≡ map (λ (w : Wait). asked_for w ∷ []) waits
asked_so [] = refl
asked_so (w ∷ waits) =
    ap (λ (ms : List (List Asked)). (asked_for w ∷ []) ∷ ms) (asked_so waits)

-- ---- 2. its bytes

-- no byte of a text passes a test
lacks_byte : (c : ℕ) (test : ℕ → Bool) (t : List ℕ) → test c ≡ false → list_all test t ≡ true
    → list_any (λ x. eqb x c) t ≡ false
lacks_byte c test [] out h = refl
lacks_byte c test (x ∷ t) out h =
    let a = and_parts (test x) (list_all test t) h in
    or_from (eqb x c) (list_any (λ y. eqb y c) t) (misses test c x out a.0)
    (lacks_byte c test t out a.1)

-- a byte that is neither in a name, nor in a version, nor elsewhere in a relation of waits
record IsOutside (c : ℕ) : Type 0 where
  name : is_name_byte c ≡ false
  version : is_version_byte c ≡ false
  bound : list_any (λ x. eqb x c) (codes " (>= ") ≡ false
  end : list_any (λ x. eqb x c) (codes ")") ≡ false
  comma : list_any (λ x. eqb x c) (codes ", ") ≡ false

both_lack : (c : ℕ) (a b : List ℕ) → list_any (λ x. eqb x c) a ≡ false
    → list_any (λ x. eqb x c) b ≡ false → list_any (λ x. eqb x c) (a ++ b) ≡ false
both_lack c a b p q = list_any-append (λ x. eqb x c) a b
    ∙ or_from (list_any (λ x. eqb x c) a) (list_any (λ x. eqb x c) b) p q

member_lacks : (c : ℕ) (w : Wait) → IsOutside c → CanBeWritten w
    → list_any (λ x. eqb x c) (member_text (member_of w)) ≡ false
member_lacks c w o h =
    let name = lacks_byte c is_name_byte w.name o.name (name_parts w.name h.name).1 in
    let version = lacks_byte c is_version_byte w.version o.version
    (version_bytes w.version w.parts h.version) in
    let closed = both_lack c w.version (codes ")") version o.end in
    let bound = both_lack c (codes " (>= ") (w.version ++ codes ")") o.bound closed in
    let inside = codes " (>= " ++ (w.version ++ codes ")") in
    let with_none = both_lack c inside [] bound refl in
    both_lack c (w.name ++ (inside ++ [])) [] (both_lack c w.name (inside ++ []) name with_none)
    refl

more_lack : (c : ℕ) (waits : List Wait) → IsOutside c → AllByRecursion CanBeWritten waits
    → list_any (λ x. eqb x c)
    (flat_map (λ (m : List WrittenAlternative). codes ", " ++ member_text m)
    (map member_of waits)) ≡ false
more_lack c [] o all = refl
more_lack c (w ∷ waits) o all =
    both_lack c (codes ", " ++ member_text (member_of w))
    (flat_map (λ (m : List WrittenAlternative). codes ", " ++ member_text m) (map member_of waits))
    (both_lack c (codes ", ") (member_text (member_of w)) o.comma (member_lacks c w o all.0))
    (more_lack c waits o all.1)

relation_lacks : (c : ℕ) (waits : List Wait) → IsOutside c → AllByRecursion CanBeWritten waits
    → list_any (λ x. eqb x c) (relation_of waits) ≡ false
relation_lacks c [] o all = refl
relation_lacks c (w ∷ waits) o all =
    both_lack c (member_text (member_of w))
    (flat_map (λ (m : List WrittenAlternative). codes ", " ++ member_text m) (map member_of waits))
    (member_lacks c w o all.0) (more_lack c waits o all.1)

-- ---- 3. both

pub relations_are_read : RelationsAreRead
relations_are_read waits some all =
    let read : relation_at (relation_of waits) ≡ Ok (map (λ (w : Wait). asked_for w ∷ []) waits) =
    read_again (map member_of waits) (relation_fits waits some all)
    ∙ ap (λ (ms : List (List Asked)). Ok ms) (asked_so waits) in (
      read,
      record {
        members = map (λ (w : Wait). asked_for w ∷ []) waits;
        read = read;
        one_line = relation_lacks 10 waits (record {
          name = refl;
          version = refl;
          bound = refl;
          end = refl;
          comma = refl;
        }) all;
        unquoted = relation_lacks 34 waits (record {
          name = refl;
          version = refl;
          bound = refl;
          end = refl;
          comma = refl;
        }) all;
      },
    )
