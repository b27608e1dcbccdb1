-- Relations with whitespace wherever it is free are read.
use Rattle.std.proofs.Common.{◌≡◌, ◌≢◌, ℕ, Bool, true, false, eqb, List, [], ◌∷◌, ◌++◌}
use Rattle.std.proofs.Common.{map, Option, Some, None, option_map, Ok, refl, sym, ap, ◌∙◌}
use Rattle.std.proofs.Common.{append_assoc, append-nil, arith}
use Rattle.std.specs.Prelude.{codes}
use Rattle.std.specs.List.{slice_split, flat_map, list_any, AllByRecursion}
use Rattle.std.proofs.lemmas.Bool.{or_parts}
use Rattle.std.proofs.lemmas.List.Splits.{slice_split_at, slice_split_none}
use Rattle.td_text.specs.Cut.{Without}
use Rattle.td_text.specs.Lines.{on_ok}
use Rattle.td_text.specs.Words.{is_name_byte, is_arch_byte}
use Rattle.td_text.proofs.Cut.{Without-append, Without-from_test, none_is}
use Rattle.td_text.proofs.Words.{Without-name}
use Rattle.td_text.specs.Runs.{is_space, is_blank}
use Rattle.td_relation.specs.Asked.{Asked}
use Rattle.td_relation.specs.RelationGrammar.{ends_a_name, is_version_byte, alternative_at, over}
use Rattle.td_relation.specs.RelationGrammar.{alternative_step, member_at, member_step}
use Rattle.td_relation.specs.RelationGrammar.{some_members, relation_at}
use Rattle.td_relation.specs.RelationWriting.{operator_text, qualifier_part}
use Rattle.td_relation.specs.RelationWriting.{BoundFits, ArchsFit, ProfilesFit, WrittenAlternative}
use Rattle.td_relation.specs.RelationWriting.{alternative_asked}
use Rattle.td_relation.specs.Spacing.{SpacedBound, SpacedArchs, SpacedProfiles, SpacedAlternative}
use Rattle.td_relation.specs.Spacing.{SpacedMember, Filled, Blank, bound_then, archs_then}
use Rattle.td_relation.specs.Spacing.{profiles_then, behind_name, spaced_alternative, spaced_member}
use Rattle.td_relation.specs.Spacing.{spaced_relation, unspaced, unspaced_members, BoundIsSpaced}
use Rattle.td_relation.specs.Spacing.{ArchsAreSpaced, ProfilesAreSpaced, IsSpaced, MemberIsSpaced}
use Rattle.td_relation.specs.Spacing.{SpacedRelationsAreRead, WhitespaceMakesNoDifference}
use Rattle.td_text.proofs.Blanks.{is_blank-behind}
use Rattle.td_relation.proofs.MemberTexts.{member_step-blank, member_step-filled}
use Rattle.td_relation.proofs.WrittenMembers.{name_not_blank}
use Rattle.td_relation.proofs.SpacedParts.{Outer, bound_stops, bound_trimmed, name_ends, name_again}
use Rattle.td_relation.proofs.SpacedParts.{restriction_again, archs_again}
use Rattle.td_relation.proofs.SpacedProfiles.{unprofiled_again}
use Rattle.td_relation.proofs.SpacedWords.{arch_words-lack, profile_words-lack}
use Rattle.td_relation.proofs.VersionBytes.{version_bytes}
use Rattle.td_relation.proofs.WordTexts.{Without-join}
use Rattle.td_relation.proofs.WrittenAlternatives.{Apart, Apart-bar, Apart-comma}
use Rattle.td_relation.proofs.WrittenAlternatives.{operator_lacks, qualifier_lacks}

-- ---- an alternative

-- whitespace, and what begins a part
abbrev outside : List ℕ
outside = 32 ∷ 9 ∷ 10 ∷ 40 ∷ 91 ∷ 60 ∷ []

outer : (test : ℕ → Bool) → list_any test outside ≡ false → Outer test
outer test out =
    let space = or_parts (test 32) _ out in
    let tab = or_parts (test 9) _ space.1 in
    let newline = or_parts (test 10) _ tab.1 in
    let opens = or_parts (test 40) _ newline.1 in
    let opens_list = or_parts (test 91) _ opens.1 in
    record {
      lacks = record { space = space.0; tab = tab.0; newline = newline.0 };
      opens = opens.0;
      opens_list = opens_list.0;
      less = (or_parts (test 60) _ opens_list.1).0;
    }

pub alternative_again : (a : SpacedAlternative) → IsSpaced a
    → alternative_at (spaced_alternative a) ≡ Ok (alternative_asked (unspaced a))
unfolding alternative_at
alternative_again a h =
    let stops = λ (test : ℕ → Bool) (out : list_any test outside ≡ false). bound_stops test a.bound
    a.archs a.profiles a.back (outer test out) h.bound h.archs h.profiles h.back in
    let bare = bound_trimmed a.bound a.archs a.profiles a.back h.bound h.archs h.profiles h.back in
    let name = name_again a.front a.name a.qualifier (behind_name a) h.front h.fits.name
    h.fits.qualifier (stops is_name_byte refl) (stops is_arch_byte refl) (stops (eqb 58) refl)
    (ap ends_a_name bare ∙ name_ends a.bound a.archs a.profiles a.back)
    ∙ ap (λ (t : List ℕ). Some (a.name, t)) bare in
    let restriction = restriction_again a.bound a.archs a.profiles a.back h.fits.bound h.bound
    h.archs h.profiles h.back in
    let archs = archs_again a.archs a.profiles a.back h.fits.archs h.archs h.profiles h.back in
    let unprofiled = unprofiled_again a.profiles a.back h.fits.profiles h.profiles h.back in
    rw (name, restriction, archs, unprofiled) refl

-- ---- the bytes that it has not

module _ (c : ℕ) (apart : Apart c) (out : is_space c ≡ false) where
  blank_lacks : (s : List ℕ) → is_blank s ≡ true → Without c s
  blank_lacks s h = Without-from_test is_space c s out h

  profiles_lack : (ls : List SpacedProfiles) (rest : List ℕ)
      → AllByRecursion ProfilesFit (map (λ x. x.list) ls) → AllByRecursion ProfilesAreSpaced ls
      → Without c rest → Without c (profiles_then ls rest)
  profiles_lack [] rest fits h w = w
  profiles_lack (l ∷ ls) rest fits h w =
      Without-append c l.before _ (blank_lacks l.before h.0.0) (
        apart.less,
        Without-append c l.inside _
            (profile_words-lack c l.list l.inside out apart.profile apart.mark fits.0 h.0.1)
            (apart.greater, profiles_lack ls rest fits.1 h.1 w),
      )

  archs_lack : (l : Option SpacedArchs) (rest : List ℕ) → ArchsFit (option_map (λ x. x.list) l)
      → ArchsAreSpaced l → Without c rest → Without c (archs_then l rest)
  archs_lack None rest fits h w = w
  archs_lack (Some l) rest fits h w =
      Without-append c l.before _ (blank_lacks l.before h.0) (
        apart.opens_list,
        Without-append c l.inside _
            (arch_words-lack c l.list.negated l.list.names l.inside out apart.arch apart.mark fits.1
            h.1) (apart.closes_list, w),
      )

  bound_lacks : (b : Option SpacedBound) (rest : List ℕ) → BoundFits (option_map (λ x. x.bound) b)
      → BoundIsSpaced b → Without c rest → Without c (bound_then b rest)
  bound_lacks None rest fits h w = w
  bound_lacks (Some b) rest fits h w =
      let version = Without-from_test is_version_byte c b.bound.version apart.version
      (version_bytes b.bound.version b.bound.parts fits) in
      Without-append c b.before _ (blank_lacks b.before h.0) (
        apart.opens,
        Without-append c b.before_operator _ (blank_lacks b.before_operator h.1)
            (Without-append c (operator_text b.bound.operator) _
            (operator_lacks c apart b.bound.operator)
            (Without-append c b.before_version _ (blank_lacks b.before_version h.2)
            (Without-append c b.bound.version _ version
            (Without-append c b.before_end _ (blank_lacks b.before_end h.3) (apart.closes, w))))),
      )

  pub alternative_lacks : (a : SpacedAlternative) → IsSpaced a → Without c (spaced_alternative a)
  alternative_lacks a h =
      Without-append c a.front _ (blank_lacks a.front h.front)
      (Without-append c a.name _ (Without-name c a.name apart.name h.fits.name)
      (Without-append c (qualifier_part a.qualifier) _
      (qualifier_lacks c apart a.qualifier h.fits.qualifier)
      (bound_lacks a.bound _ h.fits.bound h.bound
      (archs_lack a.archs _ h.fits.archs h.archs
      (profiles_lack a.profiles a.back h.fits.profiles h.profiles (blank_lacks a.back h.back))))))

-- ---- the alternatives of a member

abbrev is_bar : ℕ → Bool
is_bar b = eqb b 124

-- the last piece
last_piece : (c : ℕ) (t : List ℕ) → Without c t → slice_split (λ b. eqb b c) (t ++ []) ≡ t ∷ []
last_piece c t h =
    ap (slice_split (λ b. eqb b c)) (append-nil t)
    ∙ slice_split_none (λ b. eqb b c) t (none_is c t h)

next_piece : (c : ℕ) (t rest : List ℕ) → eqb c c ≡ true → Without c t
    → slice_split (λ b. eqb b c) (t ++ c ∷ rest) ≡ t ∷ slice_split (λ b. eqb b c) rest
next_piece c t rest same h = slice_split_at (λ b. eqb b c) t c rest (none_is c t h) same

pub piece_again : (seen : List Asked) (a : SpacedAlternative) → IsSpaced a → alternative_step seen
    (spaced_alternative a) ≡ Ok (seen ++ alternative_asked (unspaced a) ∷ [])
piece_again seen a h = ap (λ r. on_ok r (λ x. Ok (seen ++ x ∷ []))) (alternative_again a h)

alternatives_again : (seen : List Asked) (a : SpacedAlternative) (others : List SpacedAlternative)
    → IsSpaced a → AllByRecursion IsSpaced others
    → over alternative_step seen (slice_split is_bar (spaced_member (Filled (a ∷ others))))
    ≡ Ok (seen ++ map alternative_asked (map unspaced (a ∷ others)))
unfolding over
alternatives_again seen a [] h hs =
    ap (over alternative_step seen)
    (last_piece 124 (spaced_alternative a) (alternative_lacks 124 Apart-bar refl a h))
    ∙ ap (λ r. on_ok r (λ more. Ok more)) (piece_again seen a h)
alternatives_again seen a (b ∷ others) h hs =
    let rest = spaced_member (Filled (b ∷ others)) in
    ap (over alternative_step seen)
    (next_piece 124 (spaced_alternative a) rest refl (alternative_lacks 124 Apart-bar refl a h))
    ∙ ap (λ r. on_ok r (λ more. over alternative_step more (slice_split is_bar rest)))
    (piece_again seen a h)
    ∙ alternatives_again (seen ++ alternative_asked (unspaced a) ∷ []) b others hs.0 hs.1
    ∙ ap (λ (l : List Asked). Ok l)
    (append_assoc seen (alternative_asked (unspaced a) ∷ [])
    (map alternative_asked (map unspaced (b ∷ others))))

member_again : (m : List SpacedAlternative) → m ≢ [] → AllByRecursion IsSpaced m
    → member_at (spaced_member (Filled m)) ≡ Ok (map alternative_asked (map unspaced m))
member_again [] some h = absurd (some refl)
member_again (a ∷ others) some h = alternatives_again [] a others h.0 h.1

-- ---- the members of a relation

abbrev is_comma : ℕ → Bool
is_comma b = eqb b 44

member_not_blank : (m : List SpacedAlternative) → m ≢ [] → AllByRecursion IsSpaced m
    → is_blank (spaced_member (Filled m)) ≡ false
member_not_blank [] some h = absurd (some refl)
member_not_blank (a ∷ others) some h =
    let more = flat_map (λ y. codes "|" ++ spaced_alternative y) others in
    let on = qualifier_part a.qualifier ++ behind_name a in
    ap is_blank (append_assoc a.front (a.name ++ on) more
    ∙ ap (λ (t : List ℕ). a.front ++ t) (append_assoc a.name on more))
    ∙ is_blank-behind a.front (a.name ++ (on ++ more)) h.0.front
    ∙ name_not_blank a.name (on ++ more) h.0.fits.name

each_lacks : (c : ℕ) (apart : Apart c) → is_space c ≡ false → (m : List SpacedAlternative)
    → AllByRecursion IsSpaced m → AllByRecursion (λ a. Without c (spaced_alternative a)) m
each_lacks c apart out [] h = tt
each_lacks c apart out (a ∷ m) h =
    (alternative_lacks c apart out a h.0, each_lacks c apart out m h.1)

member_lacks : (m : SpacedMember) → MemberIsSpaced m → Without 44 (spaced_member m)
member_lacks (Filled m) h =
    Without-join 44 spaced_alternative (codes "|") m ((λ z. omega arith), tt)
    (each_lacks 44 Apart-comma refl m h.1)
member_lacks (Blank space) h = Without-from_test is_space 44 space refl h

-- the members so far, and what this one adds
abbrev pub asked_of : List SpacedMember → List (List Asked)
asked_of r = map (λ m. map alternative_asked m) (unspaced_members r)

pub step_again : (seen : List (List Asked)) (m : SpacedMember) → MemberIsSpaced m
    → member_step seen (spaced_member m) ≡ Ok (seen ++ asked_of (m ∷ []))
step_again seen (Filled m) h =
    member_step-filled seen (spaced_member (Filled m)) (member_not_blank m h.0 h.1)
    ∙ ap (λ r. on_ok r (λ x. Ok (seen ++ x ∷ []))) (member_again m h.0 h.1)
step_again seen (Blank space) h =
    member_step-blank seen space h ∙ ap (λ (l : List (List Asked)). Ok l) (sym (append-nil seen))

pub one_more : (m : SpacedMember) (r : List SpacedMember)
    → asked_of (m ∷ []) ++ asked_of r ≡ asked_of (m ∷ r)
one_more (Filled m) r = refl
one_more (Blank space) r = refl

members_again : (seen : List (List Asked)) (m : SpacedMember) (r : List SpacedMember)
    → MemberIsSpaced m → AllByRecursion MemberIsSpaced r
    → over member_step seen (slice_split is_comma (spaced_relation (m ∷ r)))
    ≡ Ok (seen ++ asked_of (m ∷ r))
unfolding over
members_again seen m [] h hs =
    ap (over member_step seen) (last_piece 44 (spaced_member m) (member_lacks m h))
    ∙ ap (λ r. on_ok r (λ more. Ok more)) (step_again seen m h)
members_again seen m (n ∷ r) h hs =
    let rest = spaced_relation (n ∷ r) in
    ap (over member_step seen) (next_piece 44 (spaced_member m) rest refl (member_lacks m h))
    ∙ ap (λ r. on_ok r (λ more. over member_step more (slice_split is_comma rest)))
    (step_again seen m h)
    ∙ members_again (seen ++ asked_of (m ∷ [])) n r hs.0 hs.1
    ∙ ap (λ (l : List (List Asked)). Ok l)
    (append_assoc seen (asked_of (m ∷ [])) (asked_of (n ∷ r))
    ∙ ap (λ (l : List (List Asked)). seen ++ l) (one_more m (n ∷ r)))

some_left : (ms : List (List WrittenAlternative)) → ms ≢ [] → some_members
    (map (λ m. map alternative_asked m) ms) ≡ Ok (map (λ m. map alternative_asked m) ms)
some_left [] some = absurd (some refl)
some_left (m ∷ ms) some = refl

pub spaced_relations_are_read : SpacedRelationsAreRead
unfolding relation_at
spaced_relations_are_read [] h = absurd (h.1 refl)
spaced_relations_are_read (m ∷ r) h =
    ap (λ r. on_ok r some_members) (members_again [] m r h.0.0 h.0.1)
    ∙ some_left (unspaced_members (m ∷ r)) h.1

pub whitespace_makes_no_difference : WhitespaceMakesNoDifference
whitespace_makes_no_difference r s h k same =
    spaced_relations_are_read r h
    ∙ ap (λ (ms : List (List WrittenAlternative)). Ok (map (λ m. map alternative_asked m) ms)) same
    ∙ sym (spaced_relations_are_read s k)
