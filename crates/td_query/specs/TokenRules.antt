-- What may stand between the tokens of a tracker, and where a pattern ends. This project's own, in
-- the style of ben.
use Rattle.std.specs.Prelude.{◌≡◌, ◌≢◌, ◌↔◌, ℕ, IsTrue, IsFalse, List, [], ◌∷◌, ◌++◌, Some, codes}
use Rattle.td_text.specs.Cut.{Without}
use Rattle.td_text.specs.Runs.{is_space}
use Rattle.td_query.specs.Tokens.{pattern_in, skipped}

-- a space, a tab or a newline is skipped
abbrev pub SpacesAreSkipped : Type 0
SpacesAreSkipped = (x : ℕ) (t : List ℕ) → IsTrue (is_space x) → skipped (x ∷ t) ≡ skipped t

-- a comment is skipped, with the newline that ends it
abbrev pub CommentsAreSkipped : Type 0
CommentsAreSkipped = (comment t : List ℕ) → Without 10 comment
    → skipped (codes "#" ++ (comment ++ 10 ∷ t)) ≡ skipped t

-- the last line may be a comment without a newline
abbrev pub LastCommentsAreSkipped : Type 0
LastCommentsAreSkipped =
    (comment : List ℕ) → Without 10 comment → skipped (codes "#" ++ comment) ≡ []

-- nothing else is skipped
abbrev pub OthersAreKept : Type 0
OthersAreKept = (x : ℕ) (t : List ℕ) → IsFalse (is_space x) → x ≢ 35 → skipped (x ∷ t) ≡ x ∷ t

-- a text ends in a backslash
abbrev pub EndsInBackslash : List ℕ → Type 0
EndsInBackslash t = (front : List ℕ) × (t ≡ front ++ 92 ∷ [])

-- what may be between slashes: a backslash is right before each slash in it, and none comes last
abbrev pub IsBetweenSlashes : List ℕ → Type 0
IsBetweenSlashes raw =
    ((front back : List ℕ) → raw ≡ front ++ 47 ∷ back → EndsInBackslash front)
    × (¬ EndsInBackslash raw)

-- a pattern ends at a slash if and only if what is before it may be between two slashes
abbrev pub PatternsEndAtTheirSlash : Type 0
PatternsEndAtTheirSlash = (t raw rest : List ℕ) →
    (pattern_in t ≡ Some (raw, rest)) ↔ ((t ≡ raw ++ 47 ∷ rest) × IsBetweenSlashes raw)
