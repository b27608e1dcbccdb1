-- Texts of the lines of items, with those of one item more.
use Rattle.std.proofs.Common.{◌≡◌, ◌<◌, ◌+◌, ◌++◌, ◌∷◌, [], ℕ, List, ap, append_assoc, get_or}
use Rattle.std.proofs.Common.{length, map, sym, take, ◌∙◌}
use Rattle.std.specs.List.{flat_map}
use Rattle.std.proofs.lemmas.Grind.{flat_map-append}
use Rattle.std.proofs.lemmas.List.{append-nil, get_or-map, map-append, take_more}
use Rattle.std.proofs.lemmas.List.Concat.{flat_map_single}
use Rattle.std.proofs.lemmas.Simd.{map-map}
use Rattle.td_text.specs.Lines.{text_of}
use Rattle.td_indices.specs.Archive.{Contents}
use Rattle.td_query.specs.declared.atoms.Atom.{Atom}
use Rattle.td_query.specs.declared.finding.Found.{Found}
use Rattle.td_query.specs.Atoms.{atom_shape, found_in}
use Rattle.td_query.specs.Tracking.{Tracking}
use Rattle.td_details.specs.TrackerDetails.{found_line, found_line_in}
use Rattle.td_details.proofs.Texts.{text_both}

-- lines of each item
pub item_lines_more : {A B : Type 0} (f : B → List (List ℕ)) (view : A → B) (xs : List A) (i : ℕ)
    (d : A) → i < length xs → (start old new : List ℕ)
    → old ≡ start ++ text_of (flat_map f (map view (take i xs)))
    → new ≡ old ++ text_of (f (view (get_or xs i d)))
    → new ≡ start ++ text_of (flat_map f (map view (take (i + 1) xs)))
item_lines_more {B = B} f view xs i d within start old new so added =
    let y : B = view (get_or xs i d) in
    let lines : List (List ℕ) = flat_map f (map view (take i xs)) in
    let whole : flat_map f (map view (take (i + 1) xs)) ≡ lines ++ f y =
    ap (λ l. flat_map f (map view l)) (take_more xs i d within)
    ∙ ap (flat_map f) (map-append view (take i xs) (get_or xs i d ∷ []))
    ∙ flat_map-append f (map view (take i xs)) (y ∷ [])
    ∙ ap (λ l. lines ++ l) (append-nil (f y)) in
    added ∙ ap (λ t. t ++ text_of (f y)) so ∙ append_assoc start (text_of lines) (text_of (f y))
    ∙ ap (λ t. start ++ t) (sym (text_both lines (f y)))
    ∙ ap (λ l. start ++ text_of l) (sym whole)

-- one line for each item
pub item_line_more : {A B : Type 0} (f : B → List ℕ) (view : A → B) (xs : List A) (i : ℕ) (d : A)
    → i < length xs → (start old new : List ℕ)
    → old ≡ start ++ text_of (map f (map view (take i xs)))
    → new ≡ old ++ (f (view (get_or xs i d)) ++ 10 ∷ [])
    → new ≡ start ++ text_of (map f (map view (take (i + 1) xs)))
item_line_more f view xs i d within start old new so added =
    let line : List ℕ = f (view (get_or xs i d)) ++ 10 ∷ [] in
    item_lines_more (λ y. f y ∷ []) view xs i d within start old new
    (so ∙ ap (λ l. start ++ text_of l) (sym (flat_map_single f (map view (take i xs)))))
    (added ∙ ap (λ t. old ++ t) (sym (append-nil line)))
    ∙ ap (λ l. start ++ text_of l) (flat_map_single f (map view (take (i + 1) xs)))

-- the line of each text or pattern, with how often it is found
pub found_line_more : (c : Contents) (t : Tracking) (atoms : List Atom) (counts : List Found)
    (i : ℕ) (d : Atom) (e : Found) → i < length atoms
    → counts ≡ map (found_in c t.patterns) (map atom_shape atoms) → (start old new : List ℕ)
    → old ≡ start ++ text_of (map (found_line_in c t) (map atom_shape (take i atoms)))
    → new ≡ old ++ (found_line t (atom_shape (get_or atoms i d)) (get_or counts i e) ++ 10 ∷ [])
    → new ≡ start ++ text_of (map (found_line_in c t) (map atom_shape (take (i + 1) atoms)))
found_line_more c t atoms counts i d e within are start old new so added =
    let there : get_or counts i e ≡ found_in c t.patterns (atom_shape (get_or atoms i d)) =
    ap (λ (l : List Found). get_or l i e)
    (are ∙ map-map (found_in c t.patterns) atom_shape atoms)
    ∙ get_or-map (λ a. found_in c t.patterns (atom_shape a)) atoms i d e within in
    item_line_more (found_line_in c t) atom_shape atoms i d within start old new so
    (added ∙ ap (λ (n : Found). old
    ++ (found_line t (atom_shape (get_or atoms i d)) n ++ 10 ∷ [])) there)
