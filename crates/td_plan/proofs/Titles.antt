-- The lines of a title, one after the other.
use Rattle.std.proofs.Common.{◌≡◌, ◌++◌, ◌∷◌, [], ◌∙◌, ℕ, List, ap, sym, map, codes}
use Rattle.std.proofs.Common.{append_assoc}
use Rattle.td_text.specs.Lines.{lines_of, text_of}
use Rattle.td_plan.specs.Lines.{comment, title_lines, title_of}

-- a text with a mark, a line and a newline put after it
pub put-line : (start mark line more : List ℕ)
    → (((start ++ mark) ++ line) ++ 10 ∷ []) ++ more
    ≡ start ++ (((mark ++ line) ++ 10 ∷ []) ++ more)
put-line start mark line more =
    append_assoc ((start ++ mark) ++ line) (10 ∷ []) more
    ∙ append_assoc (start ++ mark) line (10 ∷ [] ++ more)
    ∙ append_assoc start mark (line ++ (10 ∷ [] ++ more))
    ∙ ap (λ t. start ++ t) (sym (append_assoc (mark ++ line) (10 ∷ []) more
    ∙ append_assoc mark line (10 ∷ [] ++ more)))

-- what comes after the first line of a title
pub title-first : (start title line : List ℕ) (rest : List (List ℕ))
    → lines_of title ≡ line ∷ rest
    → (((start ++ codes "# tracker ") ++ line) ++ 10 ∷ []) ++ text_of (map comment rest)
    ≡ start ++ text_of (title_of title)
title-first start title line rest is =
    put-line start (codes "# tracker ") line (text_of (map comment rest))
    ∙ ap (λ ls. start ++ text_of (title_lines ls)) (sym is)

-- what comes after a further line of a title
pub title-more : (now goal line : List ℕ) (lines rest : List (List ℕ))
    → lines ≡ line ∷ rest → now ++ text_of (map comment lines) ≡ goal
    → (((now ++ codes "# ") ++ line) ++ 10 ∷ []) ++ text_of (map comment rest) ≡ goal
title-more now goal line lines rest is so =
    put-line now (codes "# ") line (text_of (map comment rest))
    ∙ ap (λ ls. now ++ text_of (map comment ls)) (sym is) ∙ so

-- the lemmas by which a title has its lines
pub ruleset titled = (title-first, title-more)

-- ---- comments on rows

-- the comment on a row that isn't planned
pub left-text : (old key status state number reason : List ℕ)
    → (old ++ (codes "# not planned: " ++ (key ++ 32 ∷ (status
    ++ 32 ∷ (state ++ 32 ∷ number))))) ++ 32 ∷ (reason ++ 10 ∷ [])
    ≡ old ++ (comment (codes "not planned: " ++ (key ++ 32 ∷ (status
    ++ 32 ∷ (state ++ 32 ∷ (number ++ 32 ∷ reason))))) ++ 10 ∷ [])
left-text old key status state number reason = simp append_assoc

-- the end of a comment on a package of an older version
pub older-text : (old on : List ℕ) → ((old ++ codes " of an older ") ++ on) ++ 10 ∷ []
    ≡ old ++ (codes " of an older " ++ (on ++ 10 ∷ []))
older-text old on = simp append_assoc

-- the comment on a row that waits for a package of an older version
pub check-text : (old key name on : List ℕ)
    → (old ++ (codes "# check: " ++ (key ++ (codes " waits for " ++ name))))
    ++ (codes " of an older " ++ (on ++ 10 ∷ []))
    ≡ old ++ (comment (codes "check: " ++ (key ++ (codes " waits for " ++ (name
    ++ (codes " of an older " ++ on))))) ++ 10 ∷ [])
check-text old key name on = simp append_assoc

-- ---- command lines

-- what comes after a verb, up to the text of its `-m`
pub front-text : (old source archs suite : List ℕ)
    → ((((old ++ 32 ∷ (source ++ codes " . ")) ++ archs) ++ codes " . ") ++ suite)
    ++ codes " . -m "
    ≡ old ++ 32 ∷ (source ++ (codes " . " ++ (archs ++ (codes " . "
    ++ (suite ++ codes " . -m ")))))
front-text old source archs suite = simp append_assoc

-- a whole line
pub command-text : (old verb source archs suite text : List ℕ)
    → ((old ++ verb) ++ 32 ∷ (source ++ (codes " . " ++ (archs ++ (codes " . "
    ++ (suite ++ codes " . -m "))))))
    ++ (text ++ 10 ∷ [])
    ≡ old ++ ((verb ++ 32 ∷ (source ++ (codes " . " ++ (archs ++ (codes " . "
    ++ (suite ++ (codes " . -m " ++ text))))))) ++ 10 ∷ [])
command-text old verb source archs suite text = simp append_assoc
