-- Relations and words in a row, one item more.
use Rattle.std.proofs.Common.{◌≡◌, ◌⊎◌, ◌<◌, ◌++◌, ◌∷◌, [], ◌∙◌, ℕ, List, ap, sym, inl, inr, length}
use Rattle.std.proofs.Common.{map, codes, append_assoc, arith}
use Rattle.std.proofs.lemmas.List.{length-map, map-append}
use Rattle.td_relation.specs.RelationWriting.{member_text, relation_text}
use Rattle.td_plan.specs.Lines.{spaced}
use Rattle.td_plan.specs.Relations.{member_of, relation_of}
use Rattle.td_plan.specs.Waits.{Wait}
use Rattle.td_plan.proofs.Joins.{join-first, join-more}

pub relation-one : (w : Wait) → relation_of (w ∷ []) ≡ member_text (member_of w)
relation-one w = join-first member_text (codes ", ") (member_of w)

pub relation-more : (ws : List Wait) (w : Wait) → 0 < length ws
    → relation_of (ws ++ w ∷ []) ≡ relation_of ws ++ (codes ", " ++ member_text (member_of w))
relation-more ws w some =
    ap relation_text (map-append member_of ws (w ∷ []))
    ∙ join-more member_text (codes ", ") (map member_of ws) (member_of w)
    (omega (arith, length-map ws member_of))

-- a member more: after a comma, if it isn't the first
pub relation-next : (ws : List Wait) (w : Wait) (old mid new : List ℕ) → old ≡ relation_of ws
    → new ≡ mid ++ member_text (member_of w)
    → ((0 < length ws) × (mid ≡ old ++ codes ", ")) ⊎ ((length ws ≡ 0) × (mid ≡ old))
    → new ≡ relation_of (ws ++ w ∷ [])
relation-next ws w old mid new was more (inl behind) =
    let text = member_text (member_of w) in
    more
    ∙ ap (λ (t : List ℕ). t ++ text)
    (behind.1 ∙ ap (λ (t : List ℕ). t ++ codes ", ") was)
    ∙ append_assoc (relation_of ws) (codes ", ") text
    ∙ sym (relation-more ws w behind.0)
relation-next [] w old mid new was more (inr first) =
    more
    ∙ ap (λ (t : List ℕ). t ++ member_text (member_of w)) (first.1 ∙ was)
    ∙ sym (relation-one w)
relation-next (v ∷ ws) w old mid new was more (inr first) =
    let none = first.0 in absurd (omega arith)

pub spaced-one : (word : List ℕ) → spaced (word ∷ []) ≡ word
spaced-one word = join-first (λ w. w) (codes " ") word

pub spaced-more : (words : List (List ℕ)) (word : List ℕ) → 0 < length words
    → spaced (words ++ word ∷ []) ≡ spaced words ++ (codes " " ++ word)
spaced-more words word some = join-more (λ w. w) (codes " ") words word some

-- the lemmas by which a relation, or words, have one item more
pub ruleset one_more = (relation-one, relation-more, spaced-one, spaced-more)
