-- What is wrong with a text that is no relation: its first fault from the left. The parts are those
-- of Debian Policy 7.1 and 7.5 and deb-src-control(5); the faults' order is this project's own.
use Rattle.std.specs.Prelude.{◌≡◌, ◌↔◌, ◌⊎◌, ℕ, ◌==◌, Bool, false, IsTrue, List, [], ◌∷◌, ◌++◌}
use Rattle.std.specs.Prelude.{Option, Some, Err, map}
use Rattle.std.specs.List.{list_all, AllByRecursion}
use Rattle.td_text.specs.Lines.{pieces_of}
use Rattle.td_text.specs.Runs.{is_blank}
use Rattle.td_text.specs.Words.{is_name}
use Rattle.td_version.specs.Grammar.{IsVersion}
use Rattle.td_version.specs.Version.{Parts}
use Rattle.td_relation.specs.declared.relation.Operator.{Operator}
use Rattle.td_relation.specs.declared.relation_fault.RelationFault.{RelationFault}
use Rattle.td_relation.specs.declared.relation_fault.RelationFault.TheVariants.{BadName}
use Rattle.td_relation.specs.declared.relation_fault.RelationFault.TheVariants.{BadOperator}
use Rattle.td_relation.specs.declared.relation_fault.RelationFault.TheVariants.{BadVersion}
use Rattle.td_relation.specs.declared.relation_fault.RelationFault.TheVariants.{BadArchList}
use Rattle.td_relation.specs.declared.relation_fault.RelationFault.TheVariants.{BadProfile, Empty}
use Rattle.td_relation.specs.declared.relation_fault.RelationFault.TheVariants.{NoMemory}
use Rattle.td_relation.specs.Asked.{Asked}
use Rattle.td_relation.specs.EmptyRelations.{parts_members}
use Rattle.td_relation.specs.RelationGrammar.{ends_a_name, ends_a_restriction, is_operator_byte}
use Rattle.td_relation.specs.RelationGrammar.{relation_at}
use Rattle.td_relation.specs.RelationWriting.{WrittenArchs, operator_text, marked, qualifier_part}
use Rattle.td_relation.specs.RelationWriting.{QualifierFits, ArchsFit, ProfilesFit}
use Rattle.td_relation.specs.Spacing.{AreWords, SpacedProfiles, SpacedAlternative, SpacedMember}
use Rattle.td_relation.specs.Spacing.{profiles_then, spaced_alternative, spaced_member}
use Rattle.td_relation.specs.Spacing.{ProfilesAreSpaced, IsSpaced, MemberIsSpaced, IsRelation}

-- ---- 1. the parts of an alternative, and what follows each

-- the text doesn't go on with a byte of this kind
abbrev pub GoesOnWithout : (ℕ → Bool) → List ℕ → Type 0
GoesOnWithout kind [] = Unit {0}
GoesOnWithout kind (b ∷ text) = kind b ≡ false

-- The text begins with a package's name, with a qualifier or none. After it and whitespace comes
-- the rest: nothing, or a `(`, `[` or `<` and more.
pub record HasName (text rest : List ℕ) : Type 0 where
  pub front : List ℕ
  pub name : List ℕ
  pub qualifier : Option (List ℕ)
  pub space : List ℕ
  pub joined : text ≡ front ++ (name ++ (qualifier_part qualifier ++ (space ++ rest)))
  pub blank : IsTrue (is_blank front)
  pub legal : IsTrue (is_name name)
  pub fits : QualifierFits qualifier
  pub apart : IsTrue (is_blank space)
  pub ends : IsTrue (ends_a_name rest)

-- What follows a `(` is an operator, and then the rest, which doesn't make the operator longer.
pub record HasOperator (text rest : List ℕ) : Type 0 where
  pub operator : Operator
  pub space : List ℕ
  pub joined : text ≡ space ++ (operator_text operator ++ rest)
  pub blank : IsTrue (is_blank space)
  pub ends : GoesOnWithout is_operator_byte rest

-- What follows an operator is a version, a `)`, and then the rest.
pub record HasVersion (text rest : List ℕ) : Type 0 where
  pub version : List ℕ
  pub parts : Parts
  pub space : List ℕ
  pub end : List ℕ
  pub joined : text ≡ space ++ (version ++ (end ++ 41 ∷ rest))
  pub blank : IsTrue (is_blank space)
  pub blank_end : IsTrue (is_blank end)
  pub legal : IsVersion version parts

-- What follows a `)` is whitespace, and then the rest: nothing, or a `[` or `<` and more.
pub record IsFollowed (text rest : List ℕ) : Type 0 where
  pub space : List ℕ
  pub joined : text ≡ space ++ rest
  pub blank : IsTrue (is_blank space)
  pub ends : IsTrue (ends_a_restriction rest)

-- The text begins with a restriction: a `(`, an operator, a version, a `)`.
pub record HasRestriction (text rest : List ℕ) : Type 0 where
  pub inside : List ℕ
  pub asked : List ℕ
  pub on : List ℕ
  pub opened : text ≡ 40 ∷ inside
  pub operator : HasOperator inside asked
  pub version : HasVersion asked on
  pub followed : IsFollowed on rest

-- the text begins with a restriction or has none, and the rest follows
abbrev pub MayBeRestricted : List ℕ → List ℕ → Type 0
MayBeRestricted text rest =
    (GoesOnWithout (λ b. b == 40) text × (text ≡ rest)) ⊎ HasRestriction text rest

-- What follows a `[` is the words of an architecture list, a `]`, and then the rest.
pub record HasArchs (text rest : List ℕ) : Type 0 where
  pub list : WrittenArchs
  pub inside : List ℕ
  pub joined : text ≡ inside ++ 93 ∷ rest
  pub fits : ArchsFit (Some list)
  pub spaced : AreWords (map (marked list.negated) list.names) inside

-- the text begins with an architecture list or has none, and the rest follows
abbrev pub MayHaveArchs : List ℕ → List ℕ → Type 0
MayHaveArchs text rest =
    (GoesOnWithout (λ b. b == 91) text × (text ≡ rest))
    ⊎ ((inside : List ℕ) × (text ≡ 91 ∷ inside) × HasArchs inside rest)

-- The text is build profile lists, with whitespace before each and at the end, or only whitespace.
pub record AreProfiles (text : List ℕ) : Type 0 where
  pub lists : List SpacedProfiles
  pub back : List ℕ
  pub joined : text ≡ profiles_then lists back
  pub fits : AllByRecursion ProfilesFit (map (λ l. l.list) lists)
  pub spaced : AllByRecursion ProfilesAreSpaced lists
  pub blank : IsTrue (is_blank back)

-- ---- 2. the fault of an alternative

-- The fault of an alternative's text: the parts before it are there, and the next one isn't.
abbrev pub HasFault : List ℕ → RelationFault → Type 0
HasFault text BadName = (rest : List ℕ) → ¬ HasName text rest
HasFault text BadOperator =
    (inside : List ℕ) × HasName text (40 ∷ inside) × ((rest : List ℕ) → ¬ HasOperator inside rest)
HasFault text BadVersion =
    (inside : List ℕ) × (asked : List ℕ) × HasName text (40 ∷ inside) × HasOperator inside asked
    × ((rest : List ℕ) → ¬ HasVersion asked rest)
HasFault text BadArchList =
    ((inside : List ℕ) × (asked : List ℕ) × (on : List ℕ) × HasName text (40 ∷ inside)
    × HasOperator inside asked × HasVersion asked on × ((rest : List ℕ) → ¬ IsFollowed on rest))
    ⊎ ((named : List ℕ) × (inside : List ℕ) × HasName text named
    × MayBeRestricted named (91 ∷ inside) × ((rest : List ℕ) → ¬ HasArchs inside rest))
HasFault text BadProfile =
    (named : List ℕ) × (restricted : List ℕ) × (listed : List ℕ) × HasName text named
    × MayBeRestricted named restricted × MayHaveArchs restricted listed × (¬ AreProfiles listed)
HasFault text Empty = ⊥
HasFault text NoMemory = ⊥

-- ---- 3. the first fault of a text

-- the text is an alternative, written with some whitespace
abbrev pub IsAlternativeText : List ℕ → Type 0
IsAlternativeText text = (a : SpacedAlternative) × IsSpaced a × (text ≡ spaced_alternative a)

-- the text is a member, written with some whitespace, or only whitespace
abbrev pub IsMemberText : List ℕ → Type 0
IsMemberText text = (m : SpacedMember) × MemberIsSpaced m × (text ≡ spaced_member m)

-- One of these pieces is faulty, and those before it are sound.
pub record IsFirst (Sound Faulty : List ℕ → Type 0) (pieces : List (List ℕ)) : Type 0 where
  pub before : List (List ℕ)
  pub piece : List ℕ
  pub after : List (List ℕ)
  pub parts : pieces ≡ before ++ piece ∷ after
  pub sound : AllByRecursion Sound before
  pub faulty : Faulty piece

-- a member's fault: it isn't only whitespace, and the first of the pieces between its bars that is
-- no alternative has this fault
abbrev pub MemberHasFault : RelationFault → List ℕ → Type 0
MemberHasFault fault member = (is_blank member ≡ false)
    × IsFirst IsAlternativeText (λ text. HasFault text fault) (pieces_of 124 member)

-- a text's first fault: that of the first of the pieces between its commas that is no member; or it
-- has only commas and whitespace, so no member
abbrev pub IsFirstFault : List ℕ → RelationFault → Type 0
IsFirstFault text fault =
    IsFirst IsMemberText (MemberHasFault fault) (pieces_of 44 text)
    ⊎ ((fault ≡ Empty) × IsTrue (list_all parts_members text))

-- ---- 4. the laws

-- a text is refused with a fault if and only if that is its first fault
abbrev pub FirstFaultsAreExact : Type 0
FirstFaultsAreExact = (text : List ℕ) (fault : RelationFault)
    → (relation_at text ≡ Err fault) ↔ IsFirstFault text fault

-- a text has one first fault at most
abbrev pub FirstFaultsAreOne : Type 0
FirstFaultsAreOne = (text : List ℕ) (fault other : RelationFault)
    → IsFirstFault text fault → IsFirstFault text other → fault ≡ other

-- each text is a relation or has a first fault
abbrev pub RelationOrFault : Type 0
RelationOrFault = (text : List ℕ)
    → ((asked : List (List Asked)) × IsRelation text asked)
    ⊎ ((fault : RelationFault) × IsFirstFault text fault)

-- no text is a relation and has a first fault
abbrev pub RelationsHaveNoFault : Type 0
RelationsHaveNoFault = (text : List ℕ) (asked : List (List Asked)) (fault : RelationFault)
    → IsRelation text asked → ¬ IsFirstFault text fault
