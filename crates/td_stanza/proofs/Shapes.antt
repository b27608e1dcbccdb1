-- The stanzas that lines stand for are determined: a reading from the last line on.
use Rattle.std.proofs.Common.{◌≡◌, ◌≢◌, ℕ, cond, List, [], ◌∷◌, ◌++◌, drop, refl, sym, ap, ◌∙◌}
use Rattle.std.proofs.Common.{append_assoc}
use Rattle.std.specs.Prelude.{IsTrue}
use Rattle.std.specs.List.{AllByRecursion}
use Rattle.std.proofs.lemmas.List.{append-nil}
use Rattle.td_text.specs.Cut.{part}
use Rattle.td_text.proofs.Cut.{part_first}
use Rattle.td_stanza.specs.Line.{is_separator, begins_blank, is_continuation}
use Rattle.td_stanza.specs.Value.{value_of}
use Rattle.td_stanza.specs.Field.{Entry, is_field_name, IsField}
use Rattle.td_stanza.specs.StanzaGrammar.{AreFields, AllSeparate, BeginsApart, AreStanzas}
use Rattle.td_stanza.proofs.LineKinds.{named_filled, named_begins, name_lacks_colon}
use Rattle.td_stanza.proofs.LineKinds.{continued_filled, continued_begins}

-- lines that continue what comes before them, fields of a stanza, and the stanzas after that
abbrev Shape : Type 0
Shape = List (List ℕ) × List Entry × List (List Entry)

abbrev whole_by : List Entry → List (List Entry) → List (List Entry)
whole_by [] ss = ss
whole_by (f ∷ fs) ss = (f ∷ fs) ∷ ss

abbrev whole : Shape → List (List Entry)
whole r = whole_by r.1 r.2

abbrev entry_of : List ℕ × List ℕ → List (List ℕ) → Entry
entry_of p more = record { name = p.0; value = value_of (drop 1 p.1) more }

abbrev place : List ℕ → Shape → Shape
place line r =
    cond (is_separator line) ([], [], whole r)
    (cond (begins_blank line) (line ∷ r.0, r.1, r.2) ([], entry_of (part 58 line) r.0 ∷ r.1, r.2))

abbrev shape : List (List ℕ) → Shape
shape [] = ([], [], [])
shape (line ∷ lines) = place line (shape lines)

place_separator : (line : List ℕ) (r : Shape) → IsTrue (is_separator line)
    → place line r ≡ ([], [], whole r)
place_separator line r is = rw is refl

place_continuation : (line : List ℕ) (r : Shape) → IsTrue (is_continuation line)
    → place line r ≡ (line ∷ r.0, r.1, r.2)
place_continuation line r is = rw (continued_filled line is, continued_begins line is) refl

place_named : (name rest : List ℕ) (r : Shape) → IsTrue (is_field_name name)
    → place (name ++ 58 ∷ rest) r
    ≡ ([], record { name = name; value = value_of rest r.0 } ∷ r.1, r.2)
place_named name rest r is =
    rw (
      named_filled name (58 ∷ rest) is,
      named_begins name (58 ∷ rest) is,
      part_first 58 name rest (name_lacks_colon name is),
    ) refl

shape_more : (more lines : List (List ℕ))
    → AllByRecursion (λ line. IsTrue (is_continuation line)) more
    → shape (more ++ lines) ≡ (more ++ (shape lines).0, (shape lines).1, (shape lines).2)
shape_more [] lines h = refl
shape_more (l ∷ more) lines h =
    ap (place l) (shape_more more lines h.1) ∙ place_continuation l _ h.0

shape_field : (f : Entry) (own lines : List (List ℕ)) → IsField f own → (shape lines).0 ≡ []
    → shape (own ++ lines) ≡ ([], f ∷ (shape lines).1, (shape lines).2)
shape_field f own lines h none =
    let more : shape (h.more ++ lines) ≡ (h.more, (shape lines).1, (shape lines).2) =
    shape_more h.more lines h.continued ∙ rw (none, append-nil) refl in
    ap (λ (l : List (List ℕ)). shape (l ++ lines)) h.parts
    ∙ ap (place (f.name ++ 58 ∷ h.first)) more
    ∙ place_named f.name h.first (h.more, (shape lines).1, (shape lines).2) h.name
    ∙ ap (λ (v : List ℕ).
    ([], record { name = f.name; value = v } ∷ (shape lines).1, (shape lines).2)) (sym h.value)

shape_fields : (fs : List Entry) (own lines : List (List ℕ)) → AreFields fs own
    → (shape lines).0 ≡ [] → shape (own ++ lines) ≡ ([], fs ++ (shape lines).1, (shape lines).2)
shape_fields [] own lines is none =
    ap (λ (l : List (List ℕ)). shape (l ++ lines)) is
    ∙ ap (λ (l : List (List ℕ)). (l, (shape lines).1, (shape lines).2)) none
shape_fields (f ∷ fs) own lines h none =
    let later = shape_fields fs h.1 lines h.4 none in
    ap (λ (l : List (List ℕ)). shape (l ++ lines)) h.2 ∙ ap shape (append_assoc h.0 h.1 lines)
    ∙ shape_field f h.0 (h.1 ++ lines) h.3 (ap (λ (r : Shape). r.0) later) ∙ rw later refl

shape_apart : (lines : List (List ℕ)) → BeginsApart lines
    → shape lines ≡ ([], [], whole (shape lines))
shape_apart [] h = refl
shape_apart (l ∷ lines) h = let p = place_separator l (shape lines) h in rw p refl

shape_separators : (seps lines : List (List ℕ)) → AllSeparate seps
    → whole (shape (seps ++ lines)) ≡ whole (shape lines)
shape_separators [] lines h = refl
shape_separators (l ∷ seps) lines h =
    ap whole (place_separator l (shape (seps ++ lines)) h.0) ∙ shape_separators seps lines h.1

whole_some : (s : List Entry) (ss : List (List Entry)) → s ≢ [] → whole_by s ss ≡ s ∷ ss
whole_some [] ss some = absurd (some refl)
whole_some (f ∷ fs) ss some = refl

shape_stanzas : (ss : List (List Entry)) (lines : List (List ℕ)) → AreStanzas ss lines
    → whole (shape lines) ≡ ss
shape_stanzas [] lines h =
    ap (λ (l : List (List ℕ)). whole (shape l)) (sym (append-nil lines))
    ∙ shape_separators lines [] h
shape_stanzas (s ∷ ss) lines h =
    let apart = shape_apart h.2 h.6 in
    let own = shape_fields s h.1 h.2 h.5.fields (ap (λ (r : Shape). r.0) apart) in
    let later = shape_stanzas ss h.2 h.7 in
    let fields : s ++ (shape h.2).1 ≡ s = ap (λ (r : Shape). s ++ r.1) apart ∙ append-nil s in
    let others : (shape h.2).2 ≡ ss = ap (λ (r : Shape). r.2) apart ∙ later in
    ap (λ (l : List (List ℕ)). whole (shape l)) h.3 ∙ shape_separators h.0 (h.1 ++ h.2) h.4
    ∙ ap whole own
    ∙ ap (λ (fs : List Entry). whole_by fs (shape h.2).2) fields
    ∙ whole_some s (shape h.2).2 h.5.filled ∙ ap (λ (rest : List (List Entry)). s ∷ rest) others

-- the same lines stand for the same stanzas
pub stanzas_same : (ss tt' : List (List Entry)) (lines : List (List ℕ)) → AreStanzas ss lines
    → AreStanzas tt' lines → ss ≡ tt'
stanzas_same ss tt' lines h k = sym (shape_stanzas ss lines h) ∙ shape_stanzas tt' lines k
