-- Relation texts, by cases on the text: Debian Policy 7.1 and 7.5, deb-src-control(5) on build
-- profiles. What is read and what is wrong with a text are said together: the first fault from the
-- left decides.
use Rattle.std.specs.Prelude.{ℕ, ◌==◌, nat_lt, ◌&&◌, ◌||◌, not, Bool, true, false, List, [], ◌∷◌}
use Rattle.std.specs.Prelude.{◌++◌, Option, Some, None, Result, Ok, Err, length, slice_index, codes}
use Rattle.std.specs.Prelude.{if◌then◌else◌}
use Rattle.std.specs.List.{list_all, slice_split}
use Rattle.std.specs.Str.{bytes_eq}
use Rattle.td_text.specs.Cut.{cut, strip}
use Rattle.td_text.specs.Lines.{on_ok}
use Rattle.td_text.specs.Words.{is_name_byte, is_arch_byte, is_name, is_arch}
use Rattle.td_version.specs.Grammar.{is_upstream_byte}
use Rattle.td_version.specs.Reading.{reading}
use Rattle.td_version.specs.Version.{Parts}
use Rattle.td_version.specs.declared.version.VersionFault.{VersionFault}
use Rattle.td_relation.specs.declared.relation.Operator.{Operator}
use Rattle.td_relation.specs.declared.relation.Operator.TheVariants.{Earlier, EarlierOrEqual, Equal}
use Rattle.td_relation.specs.declared.relation.Operator.TheVariants.{LaterOrEqual, Later}
use Rattle.td_relation.specs.declared.relation_fault.RelationFault.{RelationFault}
use Rattle.td_relation.specs.declared.relation_fault.RelationFault.TheVariants.{BadName}
use Rattle.td_relation.specs.declared.relation_fault.RelationFault.TheVariants.{BadOperator}
use Rattle.td_relation.specs.declared.relation_fault.RelationFault.TheVariants.{BadVersion}
use Rattle.td_relation.specs.declared.relation_fault.RelationFault.TheVariants.{BadArchList}
use Rattle.td_relation.specs.declared.relation_fault.RelationFault.TheVariants.{BadProfile, Empty}
use Rattle.td_relation.specs.ArchList.{is_negated, bare, words}
use Rattle.td_relation.specs.Asked.{Bound, Asked}
use Rattle.td_text.specs.Runs.{run, behind, trimmed, is_blank}

-- ---- 1. the name

-- nothing, or the byte that begins a restriction `(`,
-- an architecture list `[` or a profile list `<`
abbrev pub ends_a_name : List ℕ → Bool
ends_a_name text = (length text == 0)
    || ((slice_index text 0 == 40) || ((slice_index text 0 == 91) || (slice_index text 0 == 60)))

-- what follows the word after a colon; the text itself if there is no colon
abbrev pub after_colon : List ℕ → Option (List ℕ) → Option (List ℕ)
after_colon text None = Some text
after_colon text (Some word) = if nat_lt 0 (length (run is_arch_byte word))
    then Some (behind is_arch_byte word) else None

-- what follows a qualifier as `:any` or `:i386`, which is ignored (this project's own)
unfoldable pub unqualified : List ℕ → Option (List ℕ)
unqualified text = after_colon text (strip (codes ":") text)

-- the name with what follows it, if it may
abbrev pub named : List ℕ → Option (List ℕ) → Option (List ℕ × List ℕ)
named name None = None
named name (Some rest) = if is_name name && ends_a_name (trimmed rest)
    then Some (name, trimmed rest) else None

-- the name, and what follows it and its qualifier
unfoldable pub name_at : List ℕ → Option (List ℕ × List ℕ)
name_at text = named (run is_name_byte (trimmed text))
    (unqualified (behind is_name_byte (trimmed text)))

-- ---- 2. the restriction

-- the bytes of operators
abbrev pub is_operator_byte : ℕ → Bool
is_operator_byte b = (b == 60) || ((b == 61) || (b == 62))

-- the operators (Policy 7.1); the old `<` and `>` are none
unfoldable pub operator_at : List ℕ → Option Operator
operator_at text =
    if bytes_eq text (codes "<<") then Some Earlier
    else (if bytes_eq text (codes "<=") then Some EarlierOrEqual
    else (if bytes_eq text (codes "=") then Some Equal
    else (if bytes_eq text (codes ">=") then Some LaterOrEqual
    else (if bytes_eq text (codes ">>") then Some Later else None))))

-- the bytes of versions
abbrev pub is_version_byte : ℕ → Bool
is_version_byte b = is_upstream_byte true b

-- nothing, or the byte that begins an architecture list or a profile list
abbrev pub ends_a_restriction : List ℕ → Bool
ends_a_restriction text = (length text == 0)
    || ((slice_index text 0 == 91) || (slice_index text 0 == 60))

-- a restriction that is closed, and what follows it
abbrev pub closed : Operator → Result Parts VersionFault → Option (List ℕ)
    → Result (Option Bound × List ℕ) RelationFault
closed operator (Err fault) rest = Err BadVersion
closed operator (Ok version) None = Err BadVersion
closed operator (Ok version) (Some rest) = if ends_a_restriction (trimmed rest) then Ok
    (Some (record { operator = operator; version = version }), trimmed rest) else Err BadArchList

-- the version, its `)`, and what follows
abbrev pub version_at : Option Operator → List ℕ → Result (Option Bound × List ℕ) RelationFault
version_at None text = Err BadOperator
version_at (Some operator) text = closed operator (reading (run is_version_byte (trimmed text)))
    (strip (codes ")") (trimmed (behind is_version_byte (trimmed text))))

-- the restriction after a `(`, if there is one, and what follows
abbrev pub restricted : List ℕ → Option (List ℕ) → Result (Option Bound × List ℕ) RelationFault
restricted text None = Ok (None, text)
restricted text (Some inside) = version_at (operator_at (run is_operator_byte (trimmed inside)))
    (behind is_operator_byte (trimmed inside))

-- the restriction, if there is one, and what follows it
unfoldable pub restriction_at : List ℕ → Result (Option Bound × List ℕ) RelationFault
restriction_at text = restricted text (strip (codes "(") text)

-- ---- 3. the architecture list

-- a word after a `!`
abbrev pub is_negated_word : (List ℕ → Bool) → List ℕ → Bool
is_negated_word test word = is_negated word && test (bare word)

-- one word or more, all with a `!` before them or none (Policy 7.1)
abbrev pub is_arch_list : List (List ℕ) → Bool
is_arch_list list = nat_lt 0 (length list)
    && (list_all is_arch list || list_all (is_negated_word is_arch) list)

-- what stands between the brackets, if they are closed
abbrev pub listed : Option (List ℕ × List ℕ) → Option (Option (List (List ℕ)) × List ℕ)
listed None = None
listed (Some p) = if is_arch_list (words p.0) then Some (Some (words p.0), trimmed p.1) else None

-- the architecture list after a `[`, if there is one, and what follows
abbrev pub bracketed : List ℕ → Option (List ℕ) → Option (Option (List (List ℕ)) × List ℕ)
bracketed text None = Some (None, text)
bracketed text (Some inside) = listed (cut 93 inside)

-- the architecture list, if there is one, and what follows it
unfoldable pub archs_at : List ℕ → Option (Option (List (List ℕ)) × List ℕ)
archs_at text = bracketed text (strip (codes "[") text)

-- ---- 4. the profile lists

-- a profile's name: no `<` and no `!`
abbrev pub is_profile : List ℕ → Bool
is_profile word = nat_lt 0 (length word) && list_all (λ b. not ((b == 60) || (b == 33))) word

-- one word or more, each with a `!` before it or without
abbrev pub is_profile_list : List (List ℕ) → Bool
is_profile_list list = nat_lt 0 (length list) && list_all (λ w. is_profile (bare w)) list

-- where no profile is active, a list holds where each word has a `!`
abbrev pub holds_unprofiled : List (List ℕ) → Bool
holds_unprofiled list = list_all is_negated list

-- what stands between `<` and `>`: whether it holds where no profile is active
abbrev pub profile_list : Option (List ℕ) → Option Bool
profile_list None = None
profile_list (Some inside) = if is_profile_list (words inside)
    then Some (holds_unprofiled (words inside)) else None

-- a piece before a `>`
unfoldable pub profile_piece : List ℕ → Option Bool
profile_piece piece = profile_list (strip (codes "<") (trimmed piece))

-- a reading goes over pieces from left to right; the first fault stays
unfoldable pub over : {S : Type 0} → (S → List ℕ → Result S RelationFault) → S → List (List ℕ)
    → Result S RelationFault
over step seen [] = Ok seen
over step seen (piece ∷ pieces) = on_ok (step seen piece) (λ more. over step more pieces)

-- what a reading gives, or this fault
abbrev pub or_fault : {A : Type 0} → RelationFault → Option A → Result A RelationFault
or_fault fault None = Err fault
or_fault fault (Some x) = Ok x

-- with a piece before a `>`:
-- whether a list so far holds where no profile is active, and whether the lists have ended
abbrev pub profile_step : Bool × Bool → List ℕ → Result (Bool × Bool) RelationFault
profile_step seen piece =
    if seen.1 then Err BadProfile
    else (if is_blank piece then Ok (seen.0, true)
    else on_ok (or_fault BadProfile (profile_piece piece)) (λ holds. Ok (seen.0 || holds, false)))

-- the lists have ended where what follows the last `>` is blank
abbrev pub ended : Bool × Bool → Result Bool RelationFault
ended seen = if seen.1 then Ok seen.0 else Err BadProfile

-- whether one of the profile lists holds where no profile is active;
-- so where there is none (deb-src-control(5))
unfoldable pub unprofiled_at : List ℕ → Result Bool RelationFault
unprofiled_at text = if is_blank text then Ok true
    else on_ok (over profile_step (false, false) (slice_split (λ b. b == 62) text)) ended

-- ---- 5. alternatives, members, relations

-- an alternative: a name, a restriction, an architecture list, profile lists
unfoldable pub alternative_at : List ℕ → Result Asked RelationFault
alternative_at text =
    on_ok (or_fault BadName (name_at text)) (λ name.
    on_ok (restriction_at name.1) (λ restriction.
    on_ok (or_fault BadArchList (archs_at restriction.1)) (λ archs.
    on_ok (unprofiled_at archs.1) (λ unprofiled.
    Ok (record {
      name = name.0;
      restriction = restriction.0;
      archs = archs.0;
      unprofiled = unprofiled;
    })))))

-- the alternatives so far, and the next
abbrev pub alternative_step : List Asked → List ℕ → Result (List Asked) RelationFault
alternative_step seen piece = on_ok (alternative_at piece) (λ a. Ok (seen ++ a ∷ []))

-- the alternatives of a member stand between bars (Policy 7.1)
abbrev pub member_at : List ℕ → Result (List Asked) RelationFault
member_at text = over alternative_step [] (slice_split (λ b. b == 124) text)

-- the members so far, and the next; one of only whitespace is skipped (this project's own)
abbrev pub member_step : List (List Asked) → List ℕ → Result (List (List Asked)) RelationFault
member_step seen piece = if is_blank piece then Ok seen
    else on_ok (member_at piece) (λ m. Ok (seen ++ m ∷ []))

-- a relation has a member
abbrev pub some_members : List (List Asked) → Result (List (List Asked)) RelationFault
some_members [] = Err Empty
some_members (m ∷ ms) = Ok (m ∷ ms)

-- the members of a relation stand between commas (Policy 7.1)
unfoldable pub relation_at : List ℕ → Result (List (List Asked)) RelationFault
relation_at text = on_ok (over member_step [] (slice_split (λ b. b == 44) text)) some_members
