-- Texts of the lines of places, with those of one place more.
use Rattle.std.proofs.Common.{◌≡◌, ◌+◌, ◌++◌, ◌∷◌, [], ℕ, List, map, refl, sym, ap, ◌∙◌}
use Rattle.std.proofs.Common.{append_assoc, arith}
use Rattle.std.specs.List.{flat_map, range_with_len}
use Rattle.std.proofs.lemmas.List.{append-nil}
use Rattle.std.proofs.lemmas.List.FromFn.{map-range_with_len_more}
use Rattle.td_text.specs.Lines.{text_of}

-- two lists of lines
pub text_both : (xs ys : List (List ℕ)) → text_of (xs ++ ys) ≡ text_of xs ++ text_of ys
text_both [] ys = refl
text_both (x ∷ xs) ys =
    ap (λ t. (x ++ 10 ∷ []) ++ t) (text_both xs ys)
    ∙ sym (append_assoc (x ++ 10 ∷ []) (text_of xs) (text_of ys))

-- one line for each place
pub line_more : (f : ℕ → List ℕ) (start old new : List ℕ) (n : ℕ)
    → old ≡ start ++ text_of (map f (range_with_len 0 n)) → new ≡ old ++ (f n ++ 10 ∷ [])
    → new ≡ start ++ text_of (map f (range_with_len 0 (n + 1)))
line_more f start old new n so added =
    let lines = map f (range_with_len 0 n) in
    added
    ∙ ap (λ t. t ++ (f n ++ 10 ∷ [])) so
    ∙ append_assoc start (text_of lines) (f n ++ 10 ∷ [])
    ∙ ap (λ t. start ++ (text_of lines ++ t)) (sym (append-nil (f n ++ 10 ∷ [])))
    ∙ ap (λ t. start ++ t) (sym (text_both lines (f n ∷ [])))
    ∙ ap (λ l. start ++ text_of l) (sym (map-range_with_len_more f 0 n n (omega arith)))

flat_both : (f : ℕ → List (List ℕ)) (xs ys : List ℕ)
    → flat_map f (xs ++ ys) ≡ flat_map f xs ++ flat_map f ys
flat_both f [] ys = refl
flat_both f (x ∷ xs) ys =
    ap (λ l. f x ++ l) (flat_both f xs ys)
    ∙ sym (append_assoc (f x) (flat_map f xs) (flat_map f ys))

map_same : (xs : List ℕ) → map (λ (x : ℕ). x) xs ≡ xs
map_same [] = refl
map_same (x ∷ xs) = ap (λ l. x ∷ l) (map_same xs)

range_more : (n : ℕ) → range_with_len 0 (n + 1) ≡ range_with_len 0 n ++ n ∷ []
range_more n =
    sym (map_same (range_with_len 0 (n + 1)))
    ∙ map-range_with_len_more (λ (x : ℕ). x) 0 n n (omega arith)
    ∙ ap (λ l. l ++ n ∷ []) (map_same (range_with_len 0 n))

-- lines of each place
pub lines_more : (f : ℕ → List (List ℕ)) (start old new : List ℕ) (n : ℕ)
    → old ≡ start ++ text_of (flat_map f (range_with_len 0 n)) → new ≡ old ++ text_of (f n)
    → new ≡ start ++ text_of (flat_map f (range_with_len 0 (n + 1)))
lines_more f start old new n so added =
    let lines = flat_map f (range_with_len 0 n) in
    added
    ∙ ap (λ t. t ++ text_of (f n)) so
    ∙ append_assoc start (text_of lines) (text_of (f n))
    ∙ ap (λ t. start ++ t) (sym (text_both lines (f n)))
    ∙ ap (λ t. start ++ text_of (lines ++ t)) (sym (append-nil (f n)))
    ∙ ap (λ l. start ++ text_of l) (sym (flat_both f (range_with_len 0 n) (n ∷ [])))
    ∙ ap (λ l. start ++ text_of (flat_map f l)) (sym (range_more n))

-- the lines of one list, and then those of another
pub two_texts : (xs ys : List (List ℕ)) (start middle new : List ℕ)
    → middle ≡ start ++ text_of xs → new ≡ middle ++ text_of ys
    → new ≡ start ++ text_of (xs ++ ys)
two_texts xs ys start middle new one two =
    two ∙ ap (λ t. t ++ text_of ys) one ∙ append_assoc start (text_of xs) (text_of ys)
    ∙ ap (λ t. start ++ t) (sym (text_both xs ys))

-- a line, and its end
pub one_line : (start line one new : List ℕ) → one ≡ start ++ line → new ≡ one ++ 10 ∷ []
    → new ≡ start ++ (line ++ 10 ∷ [])
one_line start line one new so added =
    added ∙ ap (λ t. t ++ 10 ∷ []) so ∙ append_assoc start line (10 ∷ [])

-- a name, and then three words with a number after each
pub four_parts : (start a x1 d1 x2 d2 x3 d3 one two three four new : List ℕ) → one ≡ start ++ a
    → two ≡ one ++ (x1 ++ d1) → three ≡ two ++ (x2 ++ d2) → four ≡ three ++ (x3 ++ d3)
    → new ≡ four ++ 10 ∷ []
    → new ≡ start ++ ((a ++ (x1 ++ (d1 ++ (x2 ++ (d2 ++ (x3 ++ d3)))))) ++ 10 ∷ [])
four_parts start a x1 d1 x2 d2 x3 d3 one two three four new of_one of_two of_three of_four of_new =
    let whole : four ≡ (((start ++ a) ++ (x1 ++ d1)) ++ (x2 ++ d2)) ++ (x3 ++ d3) =
    of_four ∙ ap (λ t. t ++ (x3 ++ d3)) (of_three ∙ ap (λ t. t ++ (x2 ++ d2))
    (of_two ∙ ap (λ t. t ++ (x1 ++ d1)) of_one)) in
    let last : ((x2 ++ d2) ++ (x3 ++ d3)) ≡ x2 ++ (d2 ++ (x3 ++ d3)) =
    append_assoc x2 d2 (x3 ++ d3) in
    let more : (x1 ++ d1) ++ ((x2 ++ d2) ++ (x3 ++ d3))
    ≡ x1 ++ (d1 ++ (x2 ++ (d2 ++ (x3 ++ d3)))) =
    append_assoc x1 d1 ((x2 ++ d2) ++ (x3 ++ d3)) ∙ ap (λ t. x1 ++ (d1 ++ t)) last in
    let line : List ℕ = a ++ (x1 ++ (d1 ++ (x2 ++ (d2 ++ (x3 ++ d3))))) in
    let joined : (((start ++ a) ++ (x1 ++ d1)) ++ (x2 ++ d2)) ++ (x3 ++ d3) ≡ start ++ line =
    append_assoc ((start ++ a) ++ (x1 ++ d1)) (x2 ++ d2) (x3 ++ d3)
    ∙ append_assoc (start ++ a) (x1 ++ d1) ((x2 ++ d2) ++ (x3 ++ d3))
    ∙ append_assoc start a ((x1 ++ d1) ++ ((x2 ++ d2) ++ (x3 ++ d3)))
    ∙ ap (λ t. start ++ (a ++ t)) more in
    of_new ∙ ap (λ t. t ++ 10 ∷ []) (whole ∙ joined) ∙ append_assoc start line (10 ∷ [])
