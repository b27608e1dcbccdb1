-- Relations, written in one canonical way: Debian Policy 7.1 and 7.5, deb-src-control(5) on build
-- profiles. One space stands where one helps a reader, and none elsewhere (this project's own).
use Rattle.std.specs.Prelude.{◌≡◌, ◌≢◌, ℕ, ◌==◌, nat_lt, ◌&&◌, ◌||◌, not, Bool, true, false, IsTrue}
use Rattle.std.specs.Prelude.{List, [], ◌∷◌, ◌++◌, Option, Some, None, option_map, Ok, length, map}
use Rattle.std.specs.Prelude.{codes}
use Rattle.std.specs.List.{list_all, list_any, flat_map, join_by, AllByRecursion}
use Rattle.td_text.specs.Words.{is_name, is_arch}
use Rattle.td_version.specs.Grammar.{IsVersion}
use Rattle.td_version.specs.Version.{Parts}
use Rattle.td_relation.specs.declared.relation.Operator.{Operator}
use Rattle.td_relation.specs.declared.relation.Operator.TheVariants.{Earlier, EarlierOrEqual, Equal}
use Rattle.td_relation.specs.declared.relation.Operator.TheVariants.{LaterOrEqual, Later}
use Rattle.td_text.specs.Runs.{is_space}
use Rattle.td_relation.specs.Asked.{Bound, Asked}
use Rattle.td_relation.specs.RelationGrammar.{relation_at}

-- ---- 1. what is written

-- an operator, and a version with its parts
pub record WrittenBound : Type 0 where
  pub operator : Operator
  pub version : List ℕ
  pub parts : Parts

-- an architecture list: names and wildcards, all with a `!` before them or none
pub record WrittenArchs : Type 0 where
  pub negated : Bool
  pub names : List (List ℕ)

-- a word of a build profile list: a profile, with a `!` before it or without
pub record WrittenProfile : Type 0 where
  pub negated : Bool
  pub name : List ℕ

-- an alternative with all that may stand in it
pub record WrittenAlternative : Type 0 where
  pub name : List ℕ
  pub qualifier : Option (List ℕ)
  pub bound : Option WrittenBound
  pub archs : Option WrittenArchs
  pub profiles : List (List WrittenProfile)

-- ---- 2. how it is written

-- the operators (Policy 7.1)
abbrev pub operator_text : Operator → List ℕ
operator_text Earlier = codes "<<"
operator_text EarlierOrEqual = codes "<="
operator_text Equal = codes "="
operator_text LaterOrEqual = codes ">="
operator_text Later = codes ">>"

-- a word with a `!` before it, or without
abbrev pub marked : Bool → List ℕ → List ℕ
marked true word = 33 ∷ word
marked false word = word

-- a word of a build profile list
abbrev pub profile_text : WrittenProfile → List ℕ
profile_text p = marked p.negated p.name

-- `:any`
abbrev pub qualifier_part : Option (List ℕ) → List ℕ
qualifier_part None = []
qualifier_part (Some word) = codes ":" ++ word

-- ` (>= 1.2)`
abbrev pub bound_part : Option WrittenBound → List ℕ
bound_part None = []
bound_part (Some b) = codes " ("
    ++ (operator_text b.operator ++ (codes " " ++ (b.version ++ codes ")")))

-- ` [amd64 i386]`
abbrev pub archs_part : Option WrittenArchs → List ℕ
archs_part None = []
archs_part (Some l) = codes " [" ++ (join_by (marked l.negated) (codes " ") l.names ++ codes "]")

-- ` <!nocheck cross>`
abbrev pub profile_part : List WrittenProfile → List ℕ
profile_part l = codes " <" ++ (join_by profile_text (codes " ") l ++ codes ">")

-- `foo:any (>= 1.2) [amd64 i386] <!nocheck cross> <nodoc>`
abbrev pub alternative_text : WrittenAlternative → List ℕ
alternative_text a = a.name ++ (qualifier_part a.qualifier
    ++ (bound_part a.bound ++ (archs_part a.archs ++ flat_map profile_part a.profiles)))

-- `foo | bar`
abbrev pub member_text : List WrittenAlternative → List ℕ
member_text m = join_by alternative_text (codes " | ") m

-- `foo | bar, baz`
abbrev pub relation_text : List (List WrittenAlternative) → List ℕ
relation_text r = join_by member_text (codes ", ") r

-- ---- 3. what may be written

-- a byte of a profile's name:
-- any but whitespace and `!`, `,`, `<`, `>`, `|`, which mean something else in a relation
abbrev pub is_profile_byte : ℕ → Bool
is_profile_byte b = not (is_space b
    || ((b == 33) || ((b == 44) || ((b == 60) || ((b == 62) || (b == 124))))))

-- a profile's name
abbrev pub is_profile_name : List ℕ → Bool
is_profile_name word = nat_lt 0 (length word) && list_all is_profile_byte word

-- a qualifier is a word as architectures have
abbrev pub QualifierFits : Option (List ℕ) → Type 0
QualifierFits None = Unit {0}
QualifierFits (Some word) = IsTrue (is_arch word)

-- a restriction has a version
abbrev pub BoundFits : Option WrittenBound → Type 0
BoundFits None = Unit {0}
BoundFits (Some b) = IsVersion b.version b.parts

-- an architecture list has a word
abbrev pub ArchsFit : Option WrittenArchs → Type 0
ArchsFit None = Unit {0}
ArchsFit (Some l) = (l.names ≢ []) × AllByRecursion (λ n. IsTrue (is_arch n)) l.names

-- a build profile list has a word
abbrev pub ProfilesFit : List WrittenProfile → Type 0
ProfilesFit l = (l ≢ []) × AllByRecursion (λ p. IsTrue (is_profile_name p.name)) l

-- an alternative that may be written
pub record AlternativeFits (a : WrittenAlternative) : Type 0 where
  pub name : IsTrue (is_name a.name)
  pub qualifier : QualifierFits a.qualifier
  pub bound : BoundFits a.bound
  pub archs : ArchsFit a.archs
  pub profiles : AllByRecursion ProfilesFit a.profiles

-- a member has an alternative
abbrev pub MemberFits : List WrittenAlternative → Type 0
MemberFits m = (m ≢ []) × AllByRecursion AlternativeFits m

-- a relation has a member
abbrev pub RelationFits : List (List WrittenAlternative) → Type 0
RelationFits r = (r ≢ []) × AllByRecursion MemberFits r

-- ---- 4. what it asks

-- where no profile is active, a word holds where it has a `!`, a list where each of its words does,
-- and lists where one of them does, or there is none (deb-src-control(5))
abbrev pub hold_unprofiled : List (List WrittenProfile) → Bool
hold_unprofiled [] = true
hold_unprofiled (l ∷ lists) = list_any (λ words. list_all (λ p. p.negated) words) (l ∷ lists)

-- the operator and the version's parts
abbrev pub bound_asked : WrittenBound → Bound
bound_asked b = record { operator = b.operator; version = b.parts }

-- what an alternative asks; its qualifier says nothing (this project's own)
abbrev pub alternative_asked : WrittenAlternative → Asked
alternative_asked a = record {
  name = a.name;
  restriction = option_map bound_asked a.bound;
  archs = option_map (λ l. map (marked l.negated) l.names) a.archs;
  unprofiled = hold_unprofiled a.profiles;
}

-- what is written so is read again, as what it asks
abbrev pub RelationsAreReadAgain : Type 0
RelationsAreReadAgain = (r : List (List WrittenAlternative)) → RelationFits r
    → relation_at (relation_text r) ≡ Ok (map (λ m. map alternative_asked m) r)
