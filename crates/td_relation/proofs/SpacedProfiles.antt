-- Build profile lists with whitespace around them and in them are read.
use Rattle.std.proofs.Common.{◌≡◌, ℕ, Bool, true, false, cond, eqb, ◌||◌, List, [], ◌∷◌, ◌++◌, map}
use Rattle.std.proofs.Common.{Some, None, Ok, refl, sym, ap, ◌∙◌, append_assoc, arith}
use Rattle.std.specs.Prelude.{codes}
use Rattle.std.specs.List.{list_all, list_any, slice_split, AllByRecursion}
use Rattle.std.proofs.Math.Bool.{or_assoc, or-false}
use Rattle.std.proofs.lemmas.List.Splits.{slice_split_at, slice_split_none}
use Rattle.td_text.specs.Cut.{Without, strip}
use Rattle.td_text.specs.Lines.{on_ok}
use Rattle.td_text.proofs.Cut.{Without-append, Without-from_test, none_is}
use Rattle.td_text.proofs.Prefix.{strip_again}
use Rattle.td_relation.specs.declared.relation_fault.RelationFault.TheVariants.{BadProfile}
use Rattle.td_text.specs.Runs.{is_space, is_blank}
use Rattle.td_relation.specs.RelationGrammar.{is_profile_list, profile_list, profile_piece}
use Rattle.td_relation.specs.RelationGrammar.{holds_unprofiled, over, or_fault, profile_step, ended}
use Rattle.td_relation.specs.RelationGrammar.{unprofiled_at}
use Rattle.td_relation.specs.RelationWriting.{WrittenProfile, profile_text, ProfilesFit}
use Rattle.td_relation.specs.RelationWriting.{hold_unprofiled}
use Rattle.td_relation.specs.Spacing.{SpacedProfiles, profiles_then, ProfilesAreSpaced}
use Rattle.td_text.proofs.Blanks.{trimmed_behind, is_blank-behind}
use Rattle.td_relation.proofs.SpacedParts.{lists_bare}
use Rattle.td_relation.proofs.SpacedWords.{profile_words, profile_words-lack}
use Rattle.td_relation.proofs.WordTexts.{is_profile_list-again, holds-again}

-- a list holds where each of its words has a `!`
abbrev holds : List WrittenProfile → Bool
holds l = list_all (λ p. p.negated) l

-- ---- one list

piece_again : (s : List ℕ) (l : SpacedProfiles) → is_blank s ≡ true → ProfilesFit l.list
    → ProfilesAreSpaced l → profile_piece (s ++ 60 ∷ l.inside) ≡ Some (holds l.list)
unfolding profile_piece
piece_again s l blank fits h =
    ap (λ (t : List ℕ). profile_list (strip (codes "<") t))
    (trimmed_behind s (60 ∷ l.inside) blank refl)
    ∙ ap profile_list (strip_again (codes "<") l.inside)
    ∙ ap (λ (w : List (List ℕ)). cond (is_profile_list w) (Some (holds_unprofiled w)) None)
    (profile_words l.list l.inside fits h.1)
    ∙ ap (λ (b : Bool). cond b (Some (holds_unprofiled (map profile_text l.list))) None)
    (is_profile_list-again l.list fits)
    ∙ ap (λ (b : Bool). Some b) (holds-again l.list fits)

step_again : (seen : Bool) (s : List ℕ) (l : SpacedProfiles) → is_blank s ≡ true
    → ProfilesFit l.list → ProfilesAreSpaced l
    → profile_step (seen, false) (s ++ 60 ∷ l.inside) ≡ Ok (seen || holds l.list, false)
step_again seen s l blank fits h =
    ap (λ (b : Bool). cond b (Ok (seen, true))
    (on_ok (or_fault BadProfile (profile_piece (s ++ 60 ∷ l.inside))) (λ x. Ok (seen || x, false))))
    (is_blank-behind s (60 ∷ l.inside) blank)
    ∙ ap (λ o. on_ok (or_fault BadProfile o) (λ x. Ok (seen || x, false)))
    (piece_again s l blank fits h)

-- ---- lists one behind the other

abbrev is_greater : ℕ → Bool
is_greater b = eqb b 62

first_cut : (s : List ℕ) (l : SpacedProfiles) (rest : List ℕ) → is_blank s ≡ true
    → ProfilesFit l.list → ProfilesAreSpaced l → slice_split is_greater
    (s ++ 60 ∷ (l.inside ++ 62 ∷ rest)) ≡ (s ++ 60 ∷ l.inside) ∷ slice_split is_greater rest
first_cut s l rest blank fits h =
    let lacks : Without 62 (s ++ 60 ∷ l.inside) =
    Without-append 62 s (60 ∷ l.inside) (Without-from_test is_space 62 s refl blank) (
      (λ z. omega arith),
      profile_words-lack 62 l.list l.inside refl refl (λ z. omega arith) fits h.1,
    ) in
    ap (slice_split is_greater) (sym (append_assoc s (60 ∷ l.inside) (62 ∷ rest)))
    ∙ slice_split_at is_greater (s ++ 60 ∷ l.inside) 62 rest (none_is 62 (s ++ 60 ∷ l.inside) lacks)
    refl

-- what follows the last list
last_again : (seen : Bool) (back : List ℕ) → is_blank back ≡ true
    → over profile_step (seen, false) (slice_split is_greater back) ≡ Ok (seen, true)
unfolding over
last_again seen back end =
    ap (over profile_step (seen, false))
    (slice_split_none is_greater back
    (none_is 62 back (Without-from_test is_space 62 back refl end)))
    ∙ ap (λ (b : Bool). on_ok
    (cond b (Ok (seen, true))
    (on_ok (or_fault BadProfile (profile_piece back)) (λ x. Ok (seen || x, false))))
    (λ more. Ok more)) end

lists_again : (seen : Bool) (s : List ℕ) (l : SpacedProfiles) (ls : List SpacedProfiles)
    (back : List ℕ) → is_blank s ≡ true → AllByRecursion ProfilesFit (map (λ x. x.list) (l ∷ ls))
    → AllByRecursion ProfilesAreSpaced (l ∷ ls) → is_blank back ≡ true
    → over profile_step (seen, false)
    (slice_split is_greater (s ++ 60 ∷ (l.inside ++ 62 ∷ profiles_then ls back)))
    ≡ Ok (seen || list_any holds (map (λ x. x.list) (l ∷ ls)), true)
unfolding over
lists_again seen s l [] back blank fits h end =
    ap (over profile_step (seen, false)) (first_cut s l back blank fits.0 h.0)
    ∙ ap (λ r. on_ok r (λ more. over profile_step more (slice_split is_greater back)))
    (step_again seen s l blank fits.0 h.0)
    ∙ last_again (seen || holds l.list) back end
    ∙ ap (λ (b : Bool). Ok (b, true)) (ap (λ (b : Bool). seen || b) (sym (or-false (holds l.list))))
lists_again seen s l (m ∷ ls) back blank fits h end =
    ap (over profile_step (seen, false))
    (first_cut s l (profiles_then (m ∷ ls) back) blank fits.0 h.0)
    ∙ ap (λ r. on_ok r (λ more.
    over profile_step more (slice_split is_greater (profiles_then (m ∷ ls) back))))
    (step_again seen s l blank fits.0 h.0)
    ∙ lists_again (seen || holds l.list) m.before m ls back h.1.0.0 fits.1 h.1 end
    ∙ ap (λ (b : Bool). Ok (b, true))
    (or_assoc seen (holds l.list) (list_any holds (map (λ x. x.list) (m ∷ ls))))

pub unprofiled_again : (ls : List SpacedProfiles) (back : List ℕ)
    → AllByRecursion ProfilesFit (map (λ x. x.list) ls) → AllByRecursion ProfilesAreSpaced ls
    → is_blank back ≡ true
    → unprofiled_at (lists_bare ls back) ≡ Ok (hold_unprofiled (map (λ x. x.list) ls))
unfolding unprofiled_at
unprofiled_again [] back fits h end = refl
unprofiled_again (l ∷ ls) back fits h end =
    ap (λ r. on_ok r ended) (lists_again false [] l ls back refl fits h end)
