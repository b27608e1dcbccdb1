-- The parts of an alternative, with whitespace between them, are read one by one.
use Rattle.std.proofs.Common.{◌≡◌, ℕ, ◌<◌, Bool, true, false, cond, eqb, ltb, List, [], ◌∷◌, ◌++◌}
use Rattle.std.proofs.Common.{length, get_or, map, Option, Some, None, option_map, Ok, Err, refl}
use Rattle.std.proofs.Common.{ap, ◌∙◌, arith}
use Rattle.std.specs.Prelude.{codes, IsTrue}
use Rattle.std.specs.List.{list_all, AllByRecursion}
use Rattle.std.proofs.lemmas.Bool.{and_parts, ltb-true, or_right, and_from}
use Rattle.td_text.specs.Cut.{Without, strip}
use Rattle.td_text.specs.Words.{is_alphanumeric, is_name_byte, is_arch_byte, is_name}
use Rattle.td_text.proofs.Cut.{cut-at}
use Rattle.td_text.proofs.Prefix.{strip_again}
use Rattle.td_version.specs.Reading.{reading}
use Rattle.td_version.specs.Version.{Parts}
use Rattle.td_version.specs.Grammar.{IsVersion}
use Rattle.td_version.proofs.Outcomes.{read_only}
use Rattle.td_relation.specs.declared.relation.Operator.{Operator}
use Rattle.td_relation.specs.declared.relation.Operator.TheVariants.{Earlier, EarlierOrEqual, Equal}
use Rattle.td_relation.specs.declared.relation.Operator.TheVariants.{LaterOrEqual, Later}
use Rattle.td_relation.specs.declared.relation_fault.RelationFault.TheVariants.{BadArchList}
use Rattle.td_text.specs.Runs.{is_space, run, behind, trimmed, is_blank}
use Rattle.td_relation.specs.RelationGrammar.{ends_a_name, after_colon, unqualified, named, name_at}
use Rattle.td_relation.specs.RelationGrammar.{is_operator_byte, operator_at, is_version_byte}
use Rattle.td_relation.specs.RelationGrammar.{ends_a_restriction, closed, version_at, restricted}
use Rattle.td_relation.specs.RelationGrammar.{restriction_at, is_arch_list, listed, bracketed}
use Rattle.td_relation.specs.RelationGrammar.{archs_at}
use Rattle.td_relation.specs.RelationWriting.{WrittenArchs, operator_text, marked, qualifier_part}
use Rattle.td_relation.specs.RelationWriting.{QualifierFits}
use Rattle.td_relation.specs.RelationWriting.{BoundFits, ArchsFit, bound_asked}
use Rattle.td_relation.specs.Spacing.{AreWords, SpacedBound, SpacedArchs, SpacedProfiles}
use Rattle.td_relation.specs.Spacing.{bound_then}
use Rattle.td_relation.specs.Spacing.{archs_then, profiles_then, BoundIsSpaced, ArchsAreSpaced}
use Rattle.td_relation.specs.Spacing.{ProfilesAreSpaced}
use Rattle.td_text.proofs.RunTexts.{Stops, run_again, behind_again, misses, NoSpace, Stops-front}
use Rattle.td_text.proofs.Blanks.{Stops-blank, Stops-back, trimmed_behind, trimmed_all}
use Rattle.td_relation.proofs.SpacedWords.{arch_words, arch_words-lack}
use Rattle.td_relation.proofs.VersionBytes.{version_bytes, version_filled}
use Rattle.td_relation.proofs.WordTexts.{is_arch_list-again, name_no_space}

-- ---- what follows each part, without the whitespace in front of it

abbrev pub lists_bare : List SpacedProfiles → List ℕ → List ℕ
lists_bare [] back = []
lists_bare (l ∷ ls) back = 60 ∷ (l.inside ++ 62 ∷ profiles_then ls back)

abbrev pub archs_bare : Option SpacedArchs → List SpacedProfiles → List ℕ → List ℕ
archs_bare None ls back = lists_bare ls back
archs_bare (Some l) ls back = 91 ∷ (l.inside ++ 93 ∷ profiles_then ls back)

abbrev pub bound_bare : Option SpacedBound → Option SpacedArchs → List SpacedProfiles → List ℕ
    → List ℕ
bound_bare None l ls back = archs_bare l ls back
bound_bare (Some b) l ls back =
    40 ∷ (b.before_operator
    ++ (operator_text b.bound.operator
    ++ (b.before_version
    ++ (b.bound.version ++ (b.before_end ++ 41 ∷ archs_then l (profiles_then ls back))))))

pub lists_trimmed : (ls : List SpacedProfiles) (back : List ℕ) → AllByRecursion ProfilesAreSpaced ls
    → is_blank back ≡ true → trimmed (profiles_then ls back) ≡ lists_bare ls back
lists_trimmed [] back h end = trimmed_all back end
lists_trimmed (l ∷ ls) back h end =
    trimmed_behind l.before (60 ∷ (l.inside ++ 62 ∷ profiles_then ls back)) h.0.0 refl

pub archs_trimmed : (l : Option SpacedArchs) (ls : List SpacedProfiles) (back : List ℕ)
    → ArchsAreSpaced l → AllByRecursion ProfilesAreSpaced ls → is_blank back ≡ true
    → trimmed (archs_then l (profiles_then ls back)) ≡ archs_bare l ls back
archs_trimmed None ls back s h end = lists_trimmed ls back h end
archs_trimmed (Some l) ls back s h end =
    trimmed_behind l.before (91 ∷ (l.inside ++ 93 ∷ profiles_then ls back)) s.0 refl

pub bound_trimmed : (b : Option SpacedBound) (l : Option SpacedArchs) (ls : List SpacedProfiles)
    (back : List ℕ) → BoundIsSpaced b → ArchsAreSpaced l → AllByRecursion ProfilesAreSpaced ls
    → is_blank back ≡ true
    → trimmed (bound_then b (archs_then l (profiles_then ls back))) ≡ bound_bare b l ls back
bound_trimmed None l ls back t s h end = archs_trimmed l ls back s h end
bound_trimmed (Some b) l ls back t s h end =
    trimmed_behind b.before (bound_bare (Some b) l ls back) t.0 refl

-- runs that end at whitespace and at what begins a part
pub record Outer (test : ℕ → Bool) : Type 0 where
  pub lacks : NoSpace test
  pub opens : test 40 ≡ false
  pub opens_list : test 91 ≡ false
  pub less : test 60 ≡ false

lists_stop : (test : ℕ → Bool) (ls : List SpacedProfiles) (back : List ℕ) → Outer test
    → AllByRecursion ProfilesAreSpaced ls → is_blank back ≡ true
    → Stops test (profiles_then ls back)
lists_stop test [] back o h end = Stops-back test back o.lacks end
lists_stop test (l ∷ ls) back o h end =
    Stops-blank test l.before (60 ∷ (l.inside ++ 62 ∷ profiles_then ls back)) o.lacks h.0.0 o.less

archs_stop : (test : ℕ → Bool) (l : Option SpacedArchs) (ls : List SpacedProfiles) (back : List ℕ)
    → Outer test → ArchsAreSpaced l → AllByRecursion ProfilesAreSpaced ls → is_blank back ≡ true
    → Stops test (archs_then l (profiles_then ls back))
archs_stop test None ls back o s h end = lists_stop test ls back o h end
archs_stop test (Some l) ls back o s h end =
    Stops-blank test l.before (91 ∷ (l.inside ++ 93 ∷ profiles_then ls back)) o.lacks s.0
    o.opens_list

pub bound_stops : (test : ℕ → Bool) (b : Option SpacedBound) (l : Option SpacedArchs)
    (ls : List SpacedProfiles) (back : List ℕ) → Outer test → BoundIsSpaced b → ArchsAreSpaced l
    → AllByRecursion ProfilesAreSpaced ls → is_blank back ≡ true
    → Stops test (bound_then b (archs_then l (profiles_then ls back)))
bound_stops test None l ls back o t s h end = archs_stop test l ls back o s h end
bound_stops test (Some b) l ls back o t s h end =
    Stops-blank test b.before (bound_bare (Some b) l ls back) o.lacks t.0 o.opens

restriction_ends : (l : Option SpacedArchs) (ls : List SpacedProfiles) (back : List ℕ)
    → ends_a_restriction (archs_bare l ls back) ≡ true
restriction_ends None [] back = refl
restriction_ends None (p ∷ ls) back = or_right _ true refl
restriction_ends (Some l) ls back = or_right _ true refl

pub name_ends : (b : Option SpacedBound) (l : Option SpacedArchs) (ls : List SpacedProfiles)
    (back : List ℕ) → ends_a_name (bound_bare b l ls back) ≡ true
name_ends None None [] back = refl
name_ends None None (p ∷ ls) back = or_right _ true refl
name_ends None (Some l) ls back = or_right _ true refl
name_ends (Some b) l ls back = or_right _ true refl

no_list : (ls : List SpacedProfiles) (back : List ℕ) → strip (codes "[") (lists_bare ls back) ≡ None
unfolding strip
no_list [] back = refl
no_list (p ∷ ls) back = refl

no_bound : (l : Option SpacedArchs) (ls : List SpacedProfiles) (back : List ℕ)
    → strip (codes "(") (archs_bare l ls back) ≡ None
unfolding strip
no_bound None [] back = refl
no_bound None (p ∷ ls) back = refl
no_bound (Some l) ls back = refl

-- ---- the name

strip_stops : (c : ℕ) (t : List ℕ) → Stops (eqb c) t → strip (c ∷ []) t ≡ None
unfolding strip
strip_stops c [] s = refl
strip_stops c (x ∷ t) s = rw s refl

unqualified_again : (q : Option (List ℕ)) (rest : List ℕ) → QualifierFits q
    → Stops is_arch_byte rest → Stops (eqb 58) rest
    → unqualified (qualifier_part q ++ rest) ≡ Some rest
unfolding unqualified
unqualified_again None rest h s n = ap (after_colon rest) (strip_stops 58 rest n)
unqualified_again (Some word) rest h s n =
    let p = and_parts (ltb 0 (length word)) (list_all is_arch_byte word) h in
    ap (after_colon (codes ":" ++ (word ++ rest))) (strip_again (codes ":") (word ++ rest))
    ∙ ap (λ (w : List ℕ). cond (ltb 0 (length w)) (Some (behind is_arch_byte (word ++ rest))) None)
    (run_again is_arch_byte word rest p.1 s)
    ∙ ap (λ (b : Bool). cond b (Some (behind is_arch_byte (word ++ rest))) None) p.0
    ∙ ap (λ (t : List ℕ). Some t) (behind_again is_arch_byte word rest p.1 s)

qualifier_stops : (q : Option (List ℕ)) (rest : List ℕ) → Stops is_name_byte rest
    → Stops is_name_byte (qualifier_part q ++ rest)
qualifier_stops None rest s = s
qualifier_stops (Some word) rest s = refl

pub name_again : (front name : List ℕ) (q : Option (List ℕ)) (rest : List ℕ) → is_blank front ≡ true
    → IsTrue (is_name name) → QualifierFits q → Stops is_name_byte rest → Stops is_arch_byte rest
    → Stops (eqb 58) rest → ends_a_name (trimmed rest) ≡ true
    → name_at (front ++ (name ++ (qualifier_part q ++ rest))) ≡ Some (name, trimmed rest)
unfolding name_at
name_again front name q rest blank h fits stops archs colon ends =
    let a = and_parts (ltb 1 (length name)) _ h in
    let b = and_parts (is_alphanumeric (get_or name 0 0)) (list_all is_name_byte name) a.1 in
    let long = ltb-true 1 (length name) a.0 in
    let on = qualifier_part q ++ rest in
    let ends_here = qualifier_stops q rest stops in
    ap (λ (t : List ℕ). named (run is_name_byte t) (unqualified (behind is_name_byte t)))
    (trimmed_behind front (name ++ on) blank
    (Stops-front is_name_byte name on name_no_space (omega arith) b.1))
    ∙ ap (λ (n : List ℕ). named n (unqualified (behind is_name_byte (name ++ on))))
    (run_again is_name_byte name on b.1 ends_here)
    ∙ ap (λ (t : List ℕ). named name (unqualified t))
    (behind_again is_name_byte name on b.1 ends_here)
    ∙ ap (named name) (unqualified_again q rest fits archs colon)
    ∙ ap (λ (y : Bool). cond y (Some (name, trimmed rest)) None) (and_from _ _ h ends)

-- ---- the restriction

operator_no_space : NoSpace is_operator_byte
operator_no_space = record { space = refl; tab = refl; newline = refl }

version_no_space : NoSpace is_version_byte
version_no_space = record { space = refl; tab = refl; newline = refl }

pub operator_bytes : (o : Operator) → list_all is_operator_byte (operator_text o) ≡ true
operator_bytes Earlier = refl
operator_bytes EarlierOrEqual = refl
operator_bytes Equal = refl
operator_bytes LaterOrEqual = refl
operator_bytes Later = refl

pub operator_first : (o : Operator) (t : List ℕ) → Stops is_space (operator_text o ++ t)
operator_first Earlier t = refl
operator_first EarlierOrEqual t = refl
operator_first Equal t = refl
operator_first LaterOrEqual t = refl
operator_first Later t = refl

pub operator_read : (o : Operator) → operator_at (operator_text o) ≡ Some o
unfolding operator_at
operator_read Earlier = refl
operator_read EarlierOrEqual = refl
operator_read Equal = refl
operator_read LaterOrEqual = refl
operator_read Later = refl

-- no byte of a version is one of an operator
version_stops : (version t : List ℕ) → 0 < length version → list_all is_version_byte version ≡ true
    → Stops is_operator_byte (version ++ t)
version_stops [] t some h = absurd (omega arith)
version_stops (x ∷ version) t some h =
    let is = (and_parts (is_version_byte x) (list_all is_version_byte version) h).0 in
    let less : eqb x 60 ≡ false = misses is_version_byte 60 x refl is in
    let equal : eqb x 61 ≡ false = misses is_version_byte 61 x refl is in
    let greater : eqb x 62 ≡ false = misses is_version_byte 62 x refl is in
    rw (less, equal, greater) refl

-- a version and its `)`, whatever follows them
pub version_reads : (o : Operator) (space version end rest : List ℕ) (p : Parts)
    → is_blank space ≡ true → is_blank end ≡ true → IsVersion version p
    → version_at (Some o) (space ++ (version ++ (end ++ 41 ∷ rest)))
    ≡ cond (ends_a_restriction (trimmed rest))
    (Ok (Some (record { operator = o; version = p }), trimmed rest)) (Err BadArchList)
version_reads o space version end rest p blank blank_end v =
    let bytes = version_bytes version p v in
    let on = end ++ 41 ∷ rest in
    let stops : Stops is_version_byte on =
    Stops-blank is_version_byte end (41 ∷ rest) version_no_space blank_end refl in
    ap (λ (t : List ℕ). closed o (reading (run is_version_byte t))
    (strip (codes ")") (trimmed (behind is_version_byte t))))
    (trimmed_behind space (version ++ on) blank
    (Stops-front is_version_byte version on version_no_space (version_filled version p v) bytes))
    ∙ ap (λ (t : List ℕ). closed o (reading t)
    (strip (codes ")") (trimmed (behind is_version_byte (version ++ on)))))
    (run_again is_version_byte version on bytes stops)
    ∙ ap (λ (t : List ℕ). closed o (reading version) (strip (codes ")") (trimmed t)))
    (behind_again is_version_byte version on bytes stops)
    ∙ ap (λ (t : List ℕ). closed o (reading version) (strip (codes ")") t))
    (trimmed_behind end (41 ∷ rest) blank_end refl)
    ∙ ap (closed o (reading version)) (strip_again (codes ")") rest)
    ∙ ap (λ r. closed o r (Some rest)) (read_only version p v)

version_again : (o : Operator) (space version end rest bare : List ℕ) (p : Parts)
    → is_blank space ≡ true → is_blank end ≡ true → IsVersion version p → trimmed rest ≡ bare
    → ends_a_restriction bare ≡ true
    → version_at (Some o) (space ++ (version ++ (end ++ 41 ∷ rest)))
    ≡ Ok (Some (record { operator = o; version = p }), bare)
version_again o space version end rest bare p blank blank_end v is ends =
    version_reads o space version end rest p blank blank_end v
    ∙ ap (λ (t : List ℕ). cond (ends_a_restriction t)
    (Ok (Some (record { operator = o; version = p }), t)) (Err BadArchList)) is
    ∙ ap (λ (y : Bool).
    cond y (Ok (Some (record { operator = o; version = p }), bare)) (Err BadArchList)) ends

-- a restriction in its brackets, whatever follows it
pub bound_again : (b : SpacedBound) (rest bare : List ℕ) → BoundFits (Some b.bound)
    → BoundIsSpaced (Some b) → trimmed rest ≡ bare → ends_a_restriction bare ≡ true
    → restriction_at (40 ∷ (b.before_operator ++ (operator_text b.bound.operator
    ++ (b.before_version ++ (b.bound.version ++ (b.before_end ++ 41 ∷ rest))))))
    ≡ Ok (Some (bound_asked b.bound), bare)
unfolding restriction_at
bound_again b rest bare fits t is ends =
    let on = b.before_version ++ (b.bound.version ++ (b.before_end ++ 41 ∷ rest)) in
    let text = operator_text b.bound.operator in
    let inside = b.before_operator ++ (text ++ on) in
    let stops : Stops is_operator_byte on =
    Stops-blank is_operator_byte b.before_version (b.bound.version ++ (b.before_end ++ 41 ∷ rest))
    operator_no_space t.2 (version_stops b.bound.version (b.before_end ++ 41 ∷ rest)
    (version_filled b.bound.version b.bound.parts fits)
    (version_bytes b.bound.version b.bound.parts fits)) in
    ap (restricted (40 ∷ inside)) (strip_again (codes "(") inside)
    ∙ ap (λ (u : List ℕ). version_at (operator_at (run is_operator_byte u))
    (behind is_operator_byte u))
    (trimmed_behind b.before_operator (text ++ on) t.1 (operator_first b.bound.operator on))
    ∙ ap (λ (u : List ℕ). version_at (operator_at u) (behind is_operator_byte (text ++ on)))
    (run_again is_operator_byte text on (operator_bytes b.bound.operator) stops)
    ∙ ap (λ (u : List ℕ). version_at (operator_at text) u)
    (behind_again is_operator_byte text on (operator_bytes b.bound.operator) stops)
    ∙ ap (λ o. version_at o on) (operator_read b.bound.operator)
    ∙ version_again b.bound.operator b.before_version b.bound.version b.before_end rest bare
    b.bound.parts t.2 t.3 fits is ends

pub restriction_again : (b : Option SpacedBound) (l : Option SpacedArchs) (ls : List SpacedProfiles)
    (back : List ℕ) → BoundFits (option_map (λ x. x.bound) b) → BoundIsSpaced b → ArchsAreSpaced l
    → AllByRecursion ProfilesAreSpaced ls → is_blank back ≡ true
    → restriction_at (bound_bare b l ls back)
    ≡ Ok (option_map bound_asked (option_map (λ x. x.bound) b), archs_bare l ls back)
unfolding restriction_at
restriction_again None l ls back fits t s h end =
    ap (restricted (archs_bare l ls back)) (no_bound l ls back)
restriction_again (Some b) l ls back fits t s h end =
    bound_again b (archs_then l (profiles_then ls back)) (archs_bare l ls back) fits t
    (archs_trimmed l ls back s h end) (restriction_ends l ls back)

-- ---- the architecture list

-- an architecture list in its brackets, whatever follows it
pub list_again : (l : WrittenArchs) (inside rest : List ℕ) → ArchsFit (Some l)
    → AreWords (map (marked l.negated) l.names) inside
    → archs_at (91 ∷ (inside ++ 93 ∷ rest))
    ≡ Some (Some (map (marked l.negated) l.names), trimmed rest)
unfolding archs_at
list_again l inside rest fits words =
    let names = map (marked l.negated) l.names in
    let lacks : Without 93 inside =
    arch_words-lack 93 l.negated l.names inside refl refl (λ z. omega arith) fits.1 words in
    ap (bracketed (91 ∷ (inside ++ 93 ∷ rest))) (strip_again (codes "[") (inside ++ 93 ∷ rest))
    ∙ ap listed (cut-at 93 inside rest lacks)
    ∙ ap (λ (w : List (List ℕ)). cond (is_arch_list w) (Some (Some w, trimmed rest)) None)
    (arch_words l.negated l.names inside fits.1 words)
    ∙ ap (λ (y : Bool). cond y (Some (Some names, trimmed rest)) None)
    (is_arch_list-again l.negated l.names fits.0 fits.1)

pub archs_again : (l : Option SpacedArchs) (ls : List SpacedProfiles) (back : List ℕ)
    → ArchsFit (option_map (λ x. x.list) l) → ArchsAreSpaced l → AllByRecursion ProfilesAreSpaced ls
    → is_blank back ≡ true
    → archs_at (archs_bare l ls back)
    ≡ Some (
      option_map (λ w. map (marked w.negated) w.names) (option_map (λ x. x.list) l),
      lists_bare ls back,
    )
unfolding archs_at
archs_again None ls back fits s h end = ap (bracketed (lists_bare ls back)) (no_list ls back)
archs_again (Some l) ls back fits s h end =
    let names = map (marked l.list.negated) l.list.names in
    list_again l.list l.inside (profiles_then ls back) fits s.1
    ∙ ap (λ (t : List ℕ). Some (Some names, t)) (lists_trimmed ls back h end)
