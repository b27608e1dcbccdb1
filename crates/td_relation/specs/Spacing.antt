-- Relations, written with whitespace wherever it is free: Debian Policy 7.1 and 7.5,
-- deb-src-control(5) on build profiles. That newlines count as whitespace, and that a member may be
-- of only whitespace, is this project's own.
use Rattle.std.specs.Prelude.{◌≡◌, ◌≢◌, ◌↔◌, ℕ, IsTrue, List, [], ◌∷◌, ◌++◌, Option, Some, None}
use Rattle.std.specs.Prelude.{option_map, Ok, map, codes}
use Rattle.std.specs.List.{AllByRecursion, join_by}
use Rattle.td_text.specs.Runs.{is_space, is_blank}
use Rattle.td_relation.specs.Asked.{Asked}
use Rattle.td_relation.specs.RelationGrammar.{relation_at}
use Rattle.td_relation.specs.RelationWriting.{WrittenBound, WrittenArchs, WrittenProfile}
use Rattle.td_relation.specs.RelationWriting.{WrittenAlternative, operator_text, marked}
use Rattle.td_relation.specs.RelationWriting.{profile_text, qualifier_part, AlternativeFits}
use Rattle.td_relation.specs.RelationWriting.{alternative_asked}

-- ---- 1. words

-- a word ends at whitespace, or where the text ends
abbrev pub EndsAWord : List ℕ → Type 0
EndsAWord [] = Unit {0}
EndsAWord (b ∷ text) = IsTrue (is_space b)

-- the text is these words, with whitespace between any two, and maybe before the first and after
-- the last
abbrev pub AreWords : List (List ℕ) → List ℕ → Type 0
AreWords [] text = IsTrue (is_blank text)
AreWords (word ∷ words) text = (space : List ℕ) × (rest : List ℕ) × (text ≡ space ++ (word ++ rest))
    × IsTrue (is_blank space) × EndsAWord rest × AreWords words rest

-- ---- 2. what is written

-- a restriction, and the whitespace before its `(`, its operator, its version and its `)`
pub record SpacedBound : Type 0 where
  pub bound : WrittenBound
  pub before : List ℕ
  pub before_operator : List ℕ
  pub before_version : List ℕ
  pub before_end : List ℕ

-- an architecture list, the whitespace before its `[`, and what stands between the brackets
pub record SpacedArchs : Type 0 where
  pub list : WrittenArchs
  pub before : List ℕ
  pub inside : List ℕ

-- a build profile list, the whitespace before its `<`, and what stands up to its `>`
pub record SpacedProfiles : Type 0 where
  pub list : List WrittenProfile
  pub before : List ℕ
  pub inside : List ℕ

-- an alternative, and the whitespace before it and after it
pub record SpacedAlternative : Type 0 where
  pub front : List ℕ
  pub name : List ℕ
  pub qualifier : Option (List ℕ)
  pub bound : Option SpacedBound
  pub archs : Option SpacedArchs
  pub profiles : List SpacedProfiles
  pub back : List ℕ

-- a member of a relation: alternatives, or only whitespace
pub data SpacedMember : Type 0 where
  Filled : List SpacedAlternative → SpacedMember
  Blank : List ℕ → SpacedMember

-- ---- 3. how it is written: each part, and what follows it

-- a restriction in its brackets, if there is one
abbrev pub bound_then : Option SpacedBound → List ℕ → List ℕ
bound_then None rest = rest
bound_then (Some b) rest = b.before ++ (codes "("
    ++ (b.before_operator ++ (operator_text b.bound.operator
    ++ (b.before_version ++ (b.bound.version ++ (b.before_end ++ (codes ")" ++ rest)))))))

-- an architecture list in its brackets, if there is one
abbrev pub archs_then : Option SpacedArchs → List ℕ → List ℕ
archs_then None rest = rest
archs_then (Some l) rest = l.before ++ (codes "[" ++ (l.inside ++ (codes "]" ++ rest)))

-- the build profile lists, each in its angle brackets
abbrev pub profiles_then : List SpacedProfiles → List ℕ → List ℕ
profiles_then [] rest = rest
profiles_then (l ∷ lists) rest = l.before ++ (codes "<"
    ++ (l.inside ++ (codes ">" ++ profiles_then lists rest)))

-- what follows the name and its qualifier
abbrev pub behind_name : SpacedAlternative → List ℕ
behind_name a = bound_then a.bound (archs_then a.archs (profiles_then a.profiles a.back))

-- `foo:any(>=1.2)[ amd64 i386 ]<!nocheck cross><nodoc>`
abbrev pub spaced_alternative : SpacedAlternative → List ℕ
spaced_alternative a = a.front ++ (a.name ++ (qualifier_part a.qualifier ++ behind_name a))

-- alternatives stand between bars
abbrev pub spaced_member : SpacedMember → List ℕ
spaced_member (Filled m) = join_by spaced_alternative (codes "|") m
spaced_member (Blank space) = space

-- members stand between commas
abbrev pub spaced_relation : List SpacedMember → List ℕ
spaced_relation r = join_by spaced_member (codes ",") r

-- ---- 4. without its whitespace

-- only the parts of an alternative, without the whitespace
abbrev pub unspaced : SpacedAlternative → WrittenAlternative
unspaced a = record {
  name = a.name;
  qualifier = a.qualifier;
  bound = option_map (λ b. b.bound) a.bound;
  archs = option_map (λ l. l.list) a.archs;
  profiles = map (λ l. l.list) a.profiles;
}

-- the members of a relation; one of only whitespace is none
abbrev pub unspaced_members : List SpacedMember → List (List WrittenAlternative)
unspaced_members [] = []
unspaced_members (Filled m ∷ r) = map unspaced m ∷ unspaced_members r
unspaced_members (Blank space ∷ r) = unspaced_members r

-- ---- 5. what may be written

-- what is between the parts of a restriction, if there is one, is whitespace or nothing
abbrev pub BoundIsSpaced : Option SpacedBound → Type 0
BoundIsSpaced None = Unit {0}
BoundIsSpaced (Some b) = IsTrue (is_blank b.before) × IsTrue (is_blank b.before_operator)
    × IsTrue (is_blank b.before_version) × IsTrue (is_blank b.before_end)

-- what is before an architecture list is whitespace or nothing, and so is what is around its words
abbrev pub ArchsAreSpaced : Option SpacedArchs → Type 0
ArchsAreSpaced None = Unit {0}
ArchsAreSpaced (Some l) = IsTrue (is_blank l.before)
    × AreWords (map (marked l.list.negated) l.list.names) l.inside

-- what is before a build profile list is whitespace or nothing, and so is what is around its words
abbrev pub ProfilesAreSpaced : SpacedProfiles → Type 0
ProfilesAreSpaced l = IsTrue (is_blank l.before) × AreWords (map profile_text l.list) l.inside

-- an alternative that may be written,
-- with whitespace between its parts and between the words of its lists
pub record IsSpaced (a : SpacedAlternative) : Type 0 where
  pub fits : AlternativeFits (unspaced a)
  pub front : IsTrue (is_blank a.front)
  pub bound : BoundIsSpaced a.bound
  pub archs : ArchsAreSpaced a.archs
  pub profiles : AllByRecursion ProfilesAreSpaced a.profiles
  pub back : IsTrue (is_blank a.back)

-- a member that may be written: alternatives that may, at least one; or whitespace, or nothing
abbrev pub MemberIsSpaced : SpacedMember → Type 0
MemberIsSpaced (Filled m) = (m ≢ []) × AllByRecursion IsSpaced m
MemberIsSpaced (Blank space) = IsTrue (is_blank space)

-- a relation has a member that isn't of only whitespace
abbrev pub RelationIsSpaced : List SpacedMember → Type 0
RelationIsSpaced r = AllByRecursion MemberIsSpaced r × (unspaced_members r ≢ [])

-- ---- 6. the laws

-- what is written so is read as what its parts ask
abbrev pub SpacedRelationsAreRead : Type 0
SpacedRelationsAreRead = (r : List SpacedMember) → RelationIsSpaced r
    → relation_at (spaced_relation r) ≡ Ok (map (λ m. map alternative_asked m) (unspaced_members r))

-- relations that differ only in whitespace, and in members of it, are read alike
abbrev pub WhitespaceMakesNoDifference : Type 0
WhitespaceMakesNoDifference = (r s : List SpacedMember) → RelationIsSpaced r → RelationIsSpaced s
    → unspaced_members r ≡ unspaced_members s
    → relation_at (spaced_relation r) ≡ relation_at (spaced_relation s)

-- the text is a relation, written with some whitespace, whose parts ask this
pub record IsRelation (text : List ℕ) (asked : List (List Asked)) : Type 0 where
  pub written : List SpacedMember
  pub spaced : RelationIsSpaced written
  pub spelled : text ≡ spaced_relation written
  pub asks : asked ≡ map (λ m. map alternative_asked m) (unspaced_members written)

-- a text is read as what it asks if and only if it is a relation that asks this
abbrev pub RelationsAreExact : Type 0
RelationsAreExact = (text : List ℕ) (asked : List (List Asked))
    → (relation_at text ≡ Ok asked) ↔ IsRelation text asked
