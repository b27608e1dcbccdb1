-- Build profile lists that are written in the canonical way are read again.
use Rattle.std.proofs.Common.{◌≡◌, ℕ, Bool, true, false, cond, eqb, ◌||◌, List, [], ◌∷◌, ◌++◌, map}
use Rattle.std.proofs.Common.{Some, None, Ok, refl, sym, ap, ◌∙◌, append_assoc, arith}
use Rattle.std.specs.Prelude.{codes, IsTrue}
use Rattle.std.specs.List.{list_all, list_any, slice_split, flat_map, join_by, AllByRecursion}
use Rattle.std.proofs.Math.Bool.{or_assoc, or-false}
use Rattle.std.proofs.lemmas.List.Splits.{slice_split_at}
use Rattle.std.proofs.lemmas.Bool.{and_parts}
use Rattle.td_text.specs.Cut.{Without, strip}
use Rattle.td_text.specs.Lines.{on_ok}
use Rattle.td_text.proofs.Cut.{Without-append, Without-from_test, none_is}
use Rattle.td_text.proofs.Prefix.{strip_again}
use Rattle.td_relation.specs.declared.relation_fault.RelationFault.TheVariants.{BadProfile}
use Rattle.td_relation.specs.RelationGrammar.{is_profile_list, profile_list, profile_piece}
use Rattle.td_relation.specs.RelationGrammar.{holds_unprofiled, over, or_fault, profile_step, ended}
use Rattle.td_relation.specs.RelationGrammar.{unprofiled_at}
use Rattle.td_relation.specs.RelationWriting.{WrittenProfile, profile_text, profile_part}
use Rattle.td_relation.specs.RelationWriting.{is_profile_byte, is_profile_name, ProfilesFit}
use Rattle.td_relation.specs.RelationWriting.{hold_unprofiled}
use Rattle.td_text.specs.Runs.{trimmed}
use Rattle.td_text.proofs.RunTexts.{gap, trimmed_gap, is_blank-gap}
use Rattle.td_relation.proofs.WordTexts.{all-map, Without-join, Without-marked, profile_words-again}
use Rattle.td_relation.proofs.WordTexts.{is_profile_list-again, holds-again}
use Rattle.td_relation.proofs.WrittenParts.{lists_on}

-- the words between `<` and `>`
abbrev list_text : List WrittenProfile → List ℕ
list_text l = join_by profile_text (codes " ") l

-- a list holds where each of its words has a `!`
abbrev holds : List WrittenProfile → Bool
holds l = list_all (λ p. p.negated) l

pub profiles_lack : (c : ℕ) → is_profile_byte c ≡ false → ¬ (33 ≡ c) → ¬ (32 ≡ c)
    → (l : List WrittenProfile) → ProfilesFit l → Without c (list_text l)
profiles_lack c out mark space l h =
    Without-join c profile_text (codes " ") l (space, tt)
    (all-map (λ p. IsTrue (is_profile_name p.name)) (λ p. Without c (profile_text p))
    (λ p w. Without-marked c p.negated p.name mark
    (Without-from_test is_profile_byte c p.name out
    (and_parts _ (list_all is_profile_byte p.name) w).1)) l h.1)

-- ---- one list

piece_again : (f : Bool) (l : List WrittenProfile) → ProfilesFit l
    → profile_piece (gap f ++ 60 ∷ list_text l) ≡ Some (holds l)
unfolding profile_piece
piece_again f l h =
    ap (λ (t : List ℕ). profile_list (strip (codes "<") t)) (trimmed_gap f (60 ∷ list_text l))
    ∙ ap profile_list (strip_again (codes "<") (list_text l))
    ∙ ap (λ (w : List (List ℕ)). cond (is_profile_list w) (Some (holds_unprofiled w)) None)
    (profile_words-again l h)
    ∙ ap (λ (b : Bool). cond b (Some (holds_unprofiled (map profile_text l))) None)
    (is_profile_list-again l h)
    ∙ ap (λ (b : Bool). Some b) (holds-again l h)

step_again : (seen f : Bool) (l : List WrittenProfile) → ProfilesFit l
    → profile_step (seen, false) (gap f ++ 60 ∷ list_text l) ≡ Ok (seen || holds l, false)
step_again seen f l h =
    ap (λ (b : Bool). cond b (Ok (seen, true))
    (on_ok (or_fault BadProfile (profile_piece (gap f ++ 60 ∷ list_text l)))
    (λ x. Ok (seen || x, false)))) (is_blank-gap f (60 ∷ list_text l))
    ∙ ap (λ o. on_ok (or_fault BadProfile o) (λ x. Ok (seen || x, false))) (piece_again f l h)

-- ---- lists one behind the other

abbrev is_greater : ℕ → Bool
is_greater b = eqb b 62

-- the first list, and what follows it
abbrev first_on : Bool → List WrittenProfile → List (List WrittenProfile) → Bool → List ℕ
first_on f l ls e = gap f ++ 60 ∷ (list_text l ++ 62 ∷ lists_on ls e)

first_joined : (l : List WrittenProfile) (ls : List (List WrittenProfile)) (e : Bool)
    → ((list_text l ++ 62 ∷ []) ++ flat_map profile_part ls) ++ gap e
    ≡ list_text l ++ 62 ∷ lists_on ls e
first_joined l ls e =
    ap (λ (t : List ℕ). t ++ gap e)
    (append_assoc (list_text l) (62 ∷ []) (flat_map profile_part ls))
    ∙ append_assoc (list_text l) (62 ∷ flat_map profile_part ls) (gap e)

first_cut : (f : Bool) (l : List WrittenProfile) (ls : List (List WrittenProfile)) (e : Bool)
    → ProfilesFit l → slice_split is_greater (first_on f l ls e)
    ≡ (gap f ++ 60 ∷ list_text l) ∷ slice_split is_greater (lists_on ls e)
first_cut f l ls e h =
    let lacks : Without 62 (gap f ++ 60 ∷ list_text l) =
    Without-append 62 (gap f) (60 ∷ list_text l) (gap_lacks f)
    ((λ z. omega arith), profiles_lack 62 refl (λ z. omega arith) (λ z. omega arith) l h) in
    ap (slice_split is_greater) (sym (append_assoc (gap f) (60 ∷ list_text l) (62 ∷ lists_on ls e)))
    ∙ slice_split_at is_greater (gap f ++ 60 ∷ list_text l) 62 (lists_on ls e)
    (none_is 62 (gap f ++ 60 ∷ list_text l) lacks) refl
  where
    gap_lacks : (b : Bool) → Without 62 (gap b)
    gap_lacks true = ((λ z. omega arith), tt)
    gap_lacks false = tt

-- what follows the last list
last_again : (seen e : Bool)
    → over profile_step (seen, false) (slice_split is_greater (gap e)) ≡ Ok (seen, true)
unfolding over
last_again seen true = refl
last_again seen false = refl

lists_again : (seen f : Bool) (l : List WrittenProfile) (ls : List (List WrittenProfile)) (e : Bool)
    → ProfilesFit l → AllByRecursion ProfilesFit ls
    → over profile_step (seen, false) (slice_split is_greater (first_on f l ls e))
    ≡ Ok (seen || list_any holds (l ∷ ls), true)
unfolding over
lists_again seen f l [] e h hs =
    ap (over profile_step (seen, false)) (first_cut f l [] e h)
    ∙ ap (λ r. on_ok r (λ more. over profile_step more (slice_split is_greater (gap e))))
    (step_again seen f l h)
    ∙ last_again (seen || holds l) e
    ∙ ap (λ (b : Bool). Ok (b, true)) (ap (λ (b : Bool). seen || b) (sym (or-false (holds l))))
lists_again seen f l (m ∷ ls) e h hs =
    ap (over profile_step (seen, false)) (first_cut f l (m ∷ ls) e h)
    ∙ ap (λ r. on_ok r (λ more.
    over profile_step more (slice_split is_greater (lists_on (m ∷ ls) e)))) (step_again seen f l h)
    ∙ ap (λ (t : List ℕ). over profile_step (seen || holds l, false)
    (slice_split is_greater (32 ∷ 60 ∷ t))) (first_joined m ls e)
    ∙ lists_again (seen || holds l) true m ls e hs.0 hs.1
    ∙ ap (λ (b : Bool). Ok (b, true)) (or_assoc seen (holds l) (list_any holds (m ∷ ls)))

pub unprofiled_again : (ls : List (List WrittenProfile)) (e : Bool) → AllByRecursion ProfilesFit ls
    → unprofiled_at (trimmed (lists_on ls e)) ≡ Ok (hold_unprofiled ls)
unfolding unprofiled_at
unprofiled_again [] true h = refl
unprofiled_again [] false h = refl
unprofiled_again (l ∷ ls) e h =
    ap (λ (t : List ℕ). unprofiled_at (60 ∷ t)) (first_joined l ls e)
    ∙ ap (λ r. on_ok r ended) (lists_again false false l ls e h.0 h.1)
