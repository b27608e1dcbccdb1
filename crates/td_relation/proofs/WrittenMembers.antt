-- Members and relations that are written in the canonical way are read again.
use Rattle.std.proofs.Common.{◌≡◌, ◌≢◌, ℕ, Bool, true, false, eqb, ltb, List, [], ◌∷◌, ◌++◌, length}
use Rattle.std.proofs.Common.{get_or, map, Ok, refl, sym, ap, ◌∙◌, append_assoc, append-nil, arith}
use Rattle.std.specs.Prelude.{codes}
use Rattle.std.specs.List.{list_all, slice_split, flat_map, AllByRecursion}
use Rattle.std.proofs.lemmas.Bool.{and_parts}
use Rattle.std.proofs.lemmas.List.Splits.{slice_split_at, slice_split_none}
use Rattle.td_text.specs.Cut.{Without}
use Rattle.td_text.specs.Lines.{on_ok}
use Rattle.td_text.specs.Words.{is_alphanumeric, is_name_byte, is_name}
use Rattle.td_text.proofs.Cut.{Without-append, none_is}
use Rattle.td_relation.specs.Asked.{Asked}
use Rattle.td_relation.specs.RelationGrammar.{over, alternative_step, member_at, member_step}
use Rattle.td_relation.specs.RelationGrammar.{some_members, relation_at}
use Rattle.td_relation.specs.RelationWriting.{WrittenAlternative, alternative_text, member_text}
use Rattle.td_relation.specs.RelationWriting.{relation_text, AlternativeFits, MemberFits}
use Rattle.td_relation.specs.RelationWriting.{alternative_asked, RelationsAreReadAgain}
use Rattle.td_text.specs.Runs.{is_blank}
use Rattle.td_relation.proofs.MemberTexts.{member_step-filled}
use Rattle.td_text.proofs.RunTexts.{not_space, gap, is_blank-gap}
use Rattle.td_relation.proofs.WordTexts.{all-map, name_no_space, Without-join}
use Rattle.td_relation.proofs.WrittenAlternatives.{Apart-bar, Apart-comma, alternative_again}
use Rattle.td_relation.proofs.WrittenAlternatives.{alternative_lacks}

-- ---- the text before a mark, with a space in front or none

Without-gap : (c : ℕ) (f : Bool) (t : List ℕ) → 32 ≢ c → Without c t → Without c (gap f ++ t)
Without-gap c true t out h = (out, h)
Without-gap c false t out h = h

-- the last piece
last_piece : (c : ℕ) (f : Bool) (t : List ℕ) → 32 ≢ c → Without c t
    → slice_split (λ b. eqb b c) (gap f ++ (t ++ [])) ≡ (gap f ++ t) ∷ []
last_piece c f t out h =
    ap (λ (u : List ℕ). slice_split (λ b. eqb b c) (gap f ++ u)) (append-nil t)
    ∙ slice_split_none (λ b. eqb b c) (gap f ++ t)
    (none_is c (gap f ++ t) (Without-gap c f t out h))

-- ---- the alternatives of a member

abbrev is_bar : ℕ → Bool
is_bar b = eqb b 124

piece_again : (seen : List Asked) (f e : Bool) (a : WrittenAlternative) → AlternativeFits a
    → alternative_step seen (gap f ++ (alternative_text a ++ gap e))
    ≡ Ok (seen ++ alternative_asked a ∷ [])
piece_again seen f e a h = ap (λ r. on_ok r (λ x. Ok (seen ++ x ∷ []))) (alternative_again f e a h)

next_alternative : (f : Bool) (a : WrittenAlternative) (rest : List ℕ) → AlternativeFits a
    → slice_split is_bar (gap f ++ (alternative_text a ++ 32 ∷ 124 ∷ rest))
    ≡ (gap f ++ (alternative_text a ++ gap true)) ∷ slice_split is_bar rest
next_alternative f a rest h =
    let piece = gap f ++ (alternative_text a ++ gap true) in
    let lacks : Without 124 piece =
    Without-gap 124 f (alternative_text a ++ gap true) (λ z. omega arith)
    (Without-append 124 (alternative_text a) (gap true) (alternative_lacks 124 Apart-bar a h)
    ((λ z. omega arith), tt)) in
    let joined : piece ++ 124 ∷ rest ≡ gap f ++ (alternative_text a ++ 32 ∷ 124 ∷ rest) =
    append_assoc (gap f) (alternative_text a ++ gap true) (124 ∷ rest)
    ∙ ap (λ (t : List ℕ). gap f ++ t) (append_assoc (alternative_text a) (gap true) (124 ∷ rest)) in
    ap (slice_split is_bar) (sym joined)
    ∙ slice_split_at is_bar piece 124 rest (none_is 124 piece lacks) refl

alternatives_again : (seen : List Asked) (f : Bool) (a : WrittenAlternative)
    (others : List WrittenAlternative) → AlternativeFits a → AllByRecursion AlternativeFits others
    → over alternative_step seen (slice_split is_bar (gap f ++ member_text (a ∷ others)))
    ≡ Ok (seen ++ map alternative_asked (a ∷ others))
unfolding over
alternatives_again seen f a [] h hs =
    ap (over alternative_step seen)
    (last_piece 124 f (alternative_text a) (λ z. omega arith) (alternative_lacks 124 Apart-bar a h)
    ∙ ap (λ (t : List ℕ). (gap f ++ t) ∷ []) (sym (append-nil (alternative_text a))))
    ∙ ap (λ r. on_ok r (λ more. Ok more)) (piece_again seen f false a h)
alternatives_again seen f a (b ∷ others) h hs =
    let rest = gap true ++ member_text (b ∷ others) in
    ap (over alternative_step seen) (next_alternative f a rest h)
    ∙ ap (λ r. on_ok r (λ more. over alternative_step more (slice_split is_bar rest)))
    (piece_again seen f true a h)
    ∙ alternatives_again (seen ++ alternative_asked a ∷ []) true b others hs.0 hs.1
    ∙ ap (λ (l : List Asked). Ok l)
    (append_assoc seen (alternative_asked a ∷ []) (map alternative_asked (b ∷ others)))

member_again : (f : Bool) (m : List WrittenAlternative) → MemberFits m
    → member_at (gap f ++ member_text m) ≡ Ok (map alternative_asked m)
member_again f [] h = absurd (h.0 refl)
member_again f (a ∷ others) h = alternatives_again [] f a others h.1.0 h.1.1

-- ---- the members of a relation

abbrev is_comma : ℕ → Bool
is_comma b = eqb b 44

pub name_not_blank : (name rest : List ℕ) → is_name name ≡ true → is_blank (name ++ rest) ≡ false
name_not_blank [] rest h = absurd cc
name_not_blank (x ∷ name) rest h =
    let a = and_parts (ltb 1 (length (x ∷ name))) _ h in
    let b = and_parts (is_alphanumeric (get_or (x ∷ name) 0 0)) (list_all is_name_byte (x ∷ name))
    a.1 in
    let other = not_space is_name_byte x name_no_space
    (and_parts (is_name_byte x) (list_all is_name_byte name) b.1).0 in
    rw other refl

member_not_blank : (f : Bool) (m : List WrittenAlternative) → MemberFits m
    → is_blank (gap f ++ member_text m) ≡ false
member_not_blank f [] h = absurd (h.0 refl)
member_not_blank f (a ∷ others) h =
    let behind = flat_map (λ y. codes " | " ++ alternative_text y) others in
    is_blank-gap f (alternative_text a ++ behind) ∙ ap is_blank (append_assoc a.name _ behind)
    ∙ name_not_blank a.name _ h.1.0.name

member_lacks : (m : List WrittenAlternative) → MemberFits m → Without 44 (member_text m)
member_lacks m h =
    Without-join 44 alternative_text (codes " | ") m
    ((λ z. omega arith), ((λ z. omega arith), ((λ z. omega arith), tt)))
    (all-map AlternativeFits (λ a. Without 44 (alternative_text a))
    (λ a w. alternative_lacks 44 Apart-comma a w) m h.1)

step_again : (seen : List (List Asked)) (f : Bool) (m : List WrittenAlternative) → MemberFits m
    → member_step seen (gap f ++ member_text m) ≡ Ok (seen ++ map alternative_asked m ∷ [])
step_again seen f m h =
    member_step-filled seen (gap f ++ member_text m) (member_not_blank f m h)
    ∙ ap (λ r. on_ok r (λ x. Ok (seen ++ x ∷ []))) (member_again f m h)

next_member : (f : Bool) (m : List WrittenAlternative) (rest : List ℕ) → MemberFits m
    → slice_split is_comma (gap f ++ (member_text m ++ 44 ∷ rest))
    ≡ (gap f ++ member_text m) ∷ slice_split is_comma rest
next_member f m rest h =
    let piece = gap f ++ member_text m in
    ap (slice_split is_comma) (sym (append_assoc (gap f) (member_text m) (44 ∷ rest)))
    ∙ slice_split_at is_comma piece 44 rest
    (none_is 44 piece (Without-gap 44 f (member_text m) (λ z. omega arith) (member_lacks m h))) refl

members_again : (seen : List (List Asked)) (f : Bool) (m : List WrittenAlternative)
    (ms : List (List WrittenAlternative)) → MemberFits m → AllByRecursion MemberFits ms
    → over member_step seen (slice_split is_comma (gap f ++ relation_text (m ∷ ms)))
    ≡ Ok (seen ++ map (λ x. map alternative_asked x) (m ∷ ms))
unfolding over
members_again seen f m [] h hs =
    ap (over member_step seen)
    (last_piece 44 f (member_text m) (λ z. omega arith) (member_lacks m h))
    ∙ ap (λ r. on_ok r (λ more. Ok more)) (step_again seen f m h)
members_again seen f m (n ∷ ms) h hs =
    let rest = gap true ++ relation_text (n ∷ ms) in
    ap (over member_step seen) (next_member f m rest h)
    ∙ ap (λ r. on_ok r (λ more. over member_step more (slice_split is_comma rest)))
    (step_again seen f m h)
    ∙ members_again (seen ++ map alternative_asked m ∷ []) true n ms hs.0 hs.1
    ∙ ap (λ (l : List (List Asked)). Ok l)
    (append_assoc seen (map alternative_asked m ∷ []) (map (λ x. map alternative_asked x) (n ∷ ms)))

pub read_again : RelationsAreReadAgain
unfolding relation_at
read_again [] h = absurd (h.0 refl)
read_again (m ∷ ms) h = ap (λ r. on_ok r some_members) (members_again [] false m ms h.1.0 h.1.1)
