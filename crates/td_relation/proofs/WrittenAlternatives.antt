-- An alternative that is written in the canonical way is read again.
use Rattle.std.proofs.Common.{◌≡◌, ◌≢◌, ℕ, Bool, false, List, [], ◌∷◌, ◌++◌, Option, Some, None, Ok}
use Rattle.std.proofs.Common.{true, eqb, refl, sym, ap, ◌∙◌, append_assoc}
use Rattle.std.specs.Prelude.{codes, IsTrue}
use Rattle.std.specs.List.{list_any}
use Rattle.td_text.specs.Cut.{Without}
use Rattle.td_text.specs.Words.{is_name_byte, is_arch_byte, is_arch}
use Rattle.td_text.proofs.Cut.{Without-append, Without-from_test}
use Rattle.td_text.proofs.Words.{Without-name, Without-arch}
use Rattle.td_relation.specs.declared.relation.Operator.{Operator}
use Rattle.td_relation.specs.declared.relation.Operator.TheVariants.{Earlier, EarlierOrEqual, Equal}
use Rattle.td_relation.specs.declared.relation.Operator.TheVariants.{LaterOrEqual, Later}
use Rattle.td_relation.specs.RelationGrammar.{is_version_byte, alternative_at}
use Rattle.td_relation.specs.RelationWriting.{WrittenBound, WrittenArchs, WrittenProfile}
use Rattle.td_relation.specs.RelationWriting.{WrittenAlternative, operator_text, marked}
use Rattle.td_relation.specs.RelationWriting.{qualifier_part, bound_part, archs_part, profile_part}
use Rattle.td_relation.specs.RelationWriting.{alternative_text, is_profile_byte, QualifierFits}
use Rattle.td_relation.specs.RelationWriting.{BoundFits, ArchsFit, ProfilesFit, AlternativeFits}
use Rattle.td_relation.specs.RelationWriting.{alternative_asked}
use Rattle.td_text.proofs.RunTexts.{gap}
use Rattle.td_relation.proofs.VersionBytes.{version_bytes}
use Rattle.td_relation.proofs.WordTexts.{all-map, Without-flat_map, Without-join, Without-marked}
use Rattle.td_relation.proofs.WrittenParts.{bound_on, bound_begins, name_ends, name_again}
use Rattle.td_relation.proofs.WrittenParts.{restriction_again, archs_again}
use Rattle.td_relation.proofs.WrittenProfiles.{profiles_lack, unprofiled_again}

-- ---- it is read again, with a space in front or behind

joined : (a : WrittenAlternative) (e : Bool) → alternative_text a ++ gap e
    ≡ a.name ++ (qualifier_part a.qualifier ++ bound_on a.bound a.archs a.profiles e)
joined a e = simp append_assoc

pub alternative_again : (f e : Bool) (a : WrittenAlternative) → AlternativeFits a
    → alternative_at (gap f ++ (alternative_text a ++ gap e)) ≡ Ok (alternative_asked a)
unfolding alternative_at
alternative_again f e a h =
    ap (λ (t : List ℕ). alternative_at (gap f ++ t)) (joined a e)
    ∙ rw (
      name_again f a.name a.qualifier (bound_on a.bound a.archs a.profiles e) h.name h.qualifier
          (bound_begins a.bound a.archs a.profiles e) (name_ends a.bound a.archs a.profiles e),
      restriction_again a.bound a.archs a.profiles e h.bound,
      archs_again a.archs a.profiles e h.archs,
      unprofiled_again a.profiles e h.profiles,
    ) refl

-- ---- the bytes that it has not

-- a byte that no alternative has
pub record Apart (c : ℕ) : Type 0 where
  pub name : is_name_byte c ≡ false
  pub arch : is_arch_byte c ≡ false
  pub version : is_version_byte c ≡ false
  pub profile : is_profile_byte c ≡ false
  pub space : 32 ≢ c
  pub mark : 33 ≢ c
  pub opens : 40 ≢ c
  pub closes : 41 ≢ c
  pub colon : 58 ≢ c
  pub less : 60 ≢ c
  pub equal : 61 ≢ c
  pub greater : 62 ≢ c
  pub opens_list : 91 ≢ c
  pub closes_list : 93 ≢ c

-- the bytes with a meaning of their own
abbrev is_mark : ℕ → Bool
is_mark b = list_any (eqb b) (codes " !():<=>[]")

-- a given byte is put to five tests
Apart-from_tests : (c : ℕ) → is_name_byte c ≡ false → is_arch_byte c ≡ false
    → is_version_byte c ≡ false → is_profile_byte c ≡ false → is_mark c ≡ false → Apart c
Apart-from_tests c name arch version profile out =
    record {
      name = name;
      arch = arch;
      version = version;
      profile = profile;
      space = other 32 refl;
      mark = other 33 refl;
      opens = other 40 refl;
      closes = other 41 refl;
      colon = other 58 refl;
      less = other 60 refl;
      equal = other 61 refl;
      greater = other 62 refl;
      opens_list = other 91 refl;
      closes_list = other 93 refl;
    }
  where
    other : (m : ℕ) → is_mark m ≡ true → m ≢ c
    other m is e = let bad : true ≡ false = sym is ∙ ap is_mark e ∙ out in cc

pub Apart-bar : Apart 124
Apart-bar = Apart-from_tests 124 refl refl refl refl refl

pub Apart-comma : Apart 44
Apart-comma = Apart-from_tests 44 refl refl refl refl refl

module _ (c : ℕ) (apart : Apart c) where
  pub qualifier_lacks : (q : Option (List ℕ)) → QualifierFits q → Without c (qualifier_part q)
  qualifier_lacks None h = tt
  qualifier_lacks (Some word) h = (apart.colon, Without-arch c word apart.arch h)

  pub operator_lacks : (o : Operator) → Without c (operator_text o)
  operator_lacks Earlier = (apart.less, (apart.less, tt))
  operator_lacks EarlierOrEqual = (apart.less, (apart.equal, tt))
  operator_lacks Equal = (apart.equal, tt)
  operator_lacks LaterOrEqual = (apart.greater, (apart.equal, tt))
  operator_lacks Later = (apart.greater, (apart.greater, tt))

  bound_lacks : (b : Option WrittenBound) → BoundFits b → Without c (bound_part b)
  bound_lacks None h = tt
  bound_lacks (Some b) h =
      let version = Without-from_test is_version_byte c b.version apart.version
      (version_bytes b.version b.parts h) in (
        apart.space,
        (
          apart.opens,
          Without-append c (operator_text b.operator) _ (operator_lacks b.operator)
              (apart.space, Without-append c b.version (41 ∷ []) version (apart.closes, tt)),
        ),
      )

  archs_lack : (l : Option WrittenArchs) → ArchsFit l → Without c (archs_part l)
  archs_lack None h = tt
  archs_lack (Some l) h =
      let names = Without-join c (marked l.negated) (codes " ") l.names (apart.space, tt)
      (all-map (λ n. IsTrue (is_arch n)) (λ n. Without c (marked l.negated n))
      (λ n w. Without-marked c l.negated n apart.mark (Without-arch c n apart.arch w)) l.names
      h.1) in
      (apart.space, (apart.opens_list, Without-append c _ (93 ∷ []) names (apart.closes_list, tt)))

  profile_part-lacks : (l : List WrittenProfile) → ProfilesFit l → Without c (profile_part l)
  profile_part-lacks l h = (
    apart.space,
    (
      apart.less,
      Without-append c _ (62 ∷ []) (profiles_lack c apart.profile apart.mark apart.space l h)
          (apart.greater, tt),
    ),
  )

  pub alternative_lacks : (a : WrittenAlternative) → AlternativeFits a
      → Without c (alternative_text a)
  alternative_lacks a h =
      Without-append c a.name _ (Without-name c a.name apart.name h.name)
      (Without-append c (qualifier_part a.qualifier) _ (qualifier_lacks a.qualifier h.qualifier)
      (Without-append c (bound_part a.bound) _ (bound_lacks a.bound h.bound)
      (Without-append c (archs_part a.archs) _ (archs_lack a.archs h.archs)
      (Without-flat_map c profile_part a.profiles
      (all-map ProfilesFit (λ l. Without c (profile_part l)) profile_part-lacks a.profiles
      h.profiles)))))
