-- The parts of an alternative, written in the canonical way one after the other, are read again one
-- by one.
-- are read again one by one.
use Rattle.std.proofs.Common.{◌≡◌, ℕ, Bool, true, false, cond, eqb, List, [], ◌∷◌, ◌++◌}
use Rattle.std.proofs.Common.{map, Option, Some, None, option_map, Ok, refl}
use Rattle.std.proofs.Common.{ap, ◌∙◌, append_assoc, arith}
use Rattle.std.specs.Prelude.{codes, IsTrue}
use Rattle.std.specs.List.{flat_map, join_by}
use Rattle.std.proofs.lemmas.Bool.{or_right}
use Rattle.td_text.specs.Cut.{Without, strip}
use Rattle.td_text.specs.Words.{is_name_byte, is_arch_byte, is_name, is_arch}
use Rattle.td_text.proofs.Cut.{Begins, cut-at}
use Rattle.td_text.proofs.Prefix.{strip_again}
use Rattle.td_text.proofs.Words.{Without-arch}
use Rattle.td_relation.specs.ArchList.{words}
use Rattle.td_relation.specs.RelationGrammar.{ends_a_name, name_at, ends_a_restriction, restricted}
use Rattle.td_relation.specs.RelationGrammar.{restriction_at, is_arch_list, listed, bracketed}
use Rattle.td_relation.specs.RelationGrammar.{archs_at}
use Rattle.td_relation.specs.RelationWriting.{WrittenBound, WrittenArchs, WrittenProfile}
use Rattle.td_relation.specs.RelationWriting.{operator_text, marked, qualifier_part, bound_part}
use Rattle.td_relation.specs.RelationWriting.{archs_part, profile_part, QualifierFits, BoundFits}
use Rattle.td_relation.specs.RelationWriting.{ArchsFit, bound_asked}
use Rattle.td_relation.specs.Spacing.{SpacedBound}
use Rattle.td_text.specs.Runs.{trimmed, is_blank}
use Rattle.td_text.proofs.RunTexts.{Stops-at, gap, Begins-gap}
use Rattle.td_relation.proofs.SpacedParts as spaced
use Rattle.td_relation.proofs.WordTexts.{all-map, Without-join, Without-marked, is_arch_list-again}
use Rattle.td_relation.proofs.WordTexts.{arch_words-again}

-- ---- what follows each part; a space may stand at the end

abbrev pub lists_on : List (List WrittenProfile) → Bool → List ℕ
lists_on ps e = flat_map profile_part ps ++ gap e

abbrev pub archs_on : Option WrittenArchs → List (List WrittenProfile) → Bool → List ℕ
archs_on l ps e = archs_part l ++ lists_on ps e

abbrev pub bound_on : Option WrittenBound → Option WrittenArchs → List (List WrittenProfile) → Bool
    → List ℕ
bound_on b l ps e = bound_part b ++ archs_on l ps e

-- each begins with a space, where it isn't empty
lists_begin : (ps : List (List WrittenProfile)) (e : Bool) → Begins 32 (lists_on ps e)
lists_begin [] e = Begins-gap e
lists_begin (p ∷ ps) e = refl

archs_begin : (l : Option WrittenArchs) (ps : List (List WrittenProfile)) (e : Bool)
    → Begins 32 (archs_on l ps e)
archs_begin None ps e = lists_begin ps e
archs_begin (Some l) ps e = refl

pub bound_begins : (b : Option WrittenBound) (l : Option WrittenArchs)
    (ps : List (List WrittenProfile)) (e : Bool) → Begins 32 (bound_on b l ps e)
bound_begins None l ps e = archs_begin l ps e
bound_begins (Some b) l ps e = refl

restriction_ends : (l : Option WrittenArchs) (ps : List (List WrittenProfile)) (e : Bool)
    → ends_a_restriction (trimmed (archs_on l ps e)) ≡ true
restriction_ends None [] true = refl
restriction_ends None [] false = refl
restriction_ends None (p ∷ ps) e = or_right _ true refl
restriction_ends (Some l) ps e = or_right _ true refl

pub name_ends : (b : Option WrittenBound) (l : Option WrittenArchs)
    (ps : List (List WrittenProfile)) (e : Bool) → ends_a_name (trimmed (bound_on b l ps e)) ≡ true
name_ends None None [] true = refl
name_ends None None [] false = refl
name_ends None None (p ∷ ps) e = or_right _ true refl
name_ends None (Some l) ps e = or_right _ true refl
name_ends (Some b) l ps e = or_right _ true refl

no_list : (ps : List (List WrittenProfile)) (e : Bool)
    → strip (codes "[") (trimmed (lists_on ps e)) ≡ None
unfolding strip
no_list [] true = refl
no_list [] false = refl
no_list (p ∷ ps) e = refl

no_bound : (l : Option WrittenArchs) (ps : List (List WrittenProfile)) (e : Bool)
    → strip (codes "(") (trimmed (archs_on l ps e)) ≡ None
unfolding strip
no_bound None [] true = refl
no_bound None [] false = refl
no_bound None (p ∷ ps) e = refl
no_bound (Some l) ps e = refl

-- ---- the name

gap_blank : (e : Bool) → is_blank (gap e) ≡ true
gap_blank true = refl
gap_blank false = refl

pub name_again : (f : Bool) (name : List ℕ) (q : Option (List ℕ)) (rest : List ℕ)
    → IsTrue (is_name name) → QualifierFits q → Begins 32 rest → ends_a_name (trimmed rest) ≡ true
    → name_at (gap f ++ (name ++ (qualifier_part q ++ rest))) ≡ Some (name, trimmed rest)
name_again f name q rest h fits s ends =
    spaced.name_again (gap f) name q rest (gap_blank f) h fits
    (Stops-at is_name_byte 32 rest refl s) (Stops-at is_arch_byte 32 rest refl s)
    (Stops-at (eqb 58) 32 rest refl s) ends

-- ---- the restriction

pub restriction_again : (b : Option WrittenBound) (l : Option WrittenArchs)
    (ps : List (List WrittenProfile)) (e : Bool) → BoundFits b
    → restriction_at (trimmed (bound_on b l ps e))
    ≡ Ok (option_map bound_asked b, trimmed (archs_on l ps e))
unfolding restriction_at
restriction_again None l ps e h = ap (restricted (trimmed (archs_on l ps e))) (no_bound l ps e)
restriction_again (Some b) l ps e h =
    let rest = archs_on l ps e in
    let joined : (operator_text b.operator ++ 32 ∷ (b.version ++ 41 ∷ [])) ++ rest
    ≡ operator_text b.operator ++ 32 ∷ (b.version ++ 41 ∷ rest) =
    append_assoc (operator_text b.operator) (32 ∷ (b.version ++ 41 ∷ [])) rest
    ∙ ap (λ (t : List ℕ). operator_text b.operator ++ 32 ∷ t)
    (append_assoc b.version (41 ∷ []) rest) in
    let one_space : SpacedBound = record {
      bound = b;
      before = [];
      before_operator = [];
      before_version = 32 ∷ [];
      before_end = [];
    } in
    ap (λ (t : List ℕ). restriction_at (40 ∷ t)) joined
    ∙ spaced.bound_again one_space rest (trimmed rest) h (refl, refl, refl, refl) refl
    (restriction_ends l ps e)

-- ---- the architecture list

pub archs_again : (l : Option WrittenArchs) (ps : List (List WrittenProfile)) (e : Bool)
    → ArchsFit l
    → archs_at (trimmed (archs_on l ps e))
    ≡ Some (option_map (λ w. map (marked w.negated) w.names) l, trimmed (lists_on ps e))
unfolding archs_at
archs_again None ps e h = ap (bracketed (trimmed (lists_on ps e))) (no_list ps e)
archs_again (Some l) ps e h =
    let rest = lists_on ps e in
    let list = join_by (marked l.negated) (codes " ") l.names in
    let lacks : Without 93 list =
    Without-join 93 (marked l.negated) (codes " ") l.names ((λ z. omega arith), tt)
    (all-map (λ n. IsTrue (is_arch n)) (λ n. Without 93 (marked l.negated n))
    (λ n w. Without-marked 93 l.negated n (λ z. omega arith) (Without-arch 93 n refl w)) l.names
    h.1) in
    let same : words list ≡ map (marked l.negated) l.names =
    arch_words-again l.negated l.names h.0 h.1 in
    ap (λ (t : List ℕ). archs_at (91 ∷ t)) (append_assoc list (93 ∷ []) rest)
    ∙ ap (bracketed (91 ∷ (list ++ 93 ∷ rest))) (strip_again (codes "[") (list ++ 93 ∷ rest))
    ∙ ap listed (cut-at 93 list rest lacks)
    ∙ ap (λ (w : List (List ℕ)). cond (is_arch_list w) (Some (Some w, trimmed rest)) None) same
    ∙ ap (λ (y : Bool). cond y (Some (Some (map (marked l.negated) l.names), trimmed rest)) None)
    (is_arch_list-again l.negated l.names h.0 h.1)
