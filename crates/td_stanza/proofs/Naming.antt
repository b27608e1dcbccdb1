-- The name on a field's first line.
use Rattle.std.proofs.Common.{◌≡◌, ℕ, suc, ◌+◌, ◌-◌, false, eqb, List, [], ◌∷◌, ◌++◌, length, map}
use Rattle.std.proofs.Common.{◌<◌, Bool, true, not, ◌&&◌, ◌||◌, drop, get_or, refl, sym, ap}
use Rattle.std.proofs.Common.{subst, ◌∙◌, append_assoc, arith}
use Rattle.std.specs.Prelude.{nat_lt, slice_index, ◌==◌}
use Rattle.std.specs.List.{list_all, list_any}
use Rattle.std.specs.Str.{IsUtf8, IsCharBoundary}
use Rattle.std.proofs.lemmas.Bool.Decides.{nat_tests}
use Rattle.std.proofs.lemmas.List.{drop_at, length-append, get_or-append_right, append_cancel_right}
use Rattle.std.proofs.lemmas.Str.{IsCharBoundary-after_ascii}
use Rattle.td_text.specs.Cut.{part}
use Rattle.td_text.proofs.Chain.{list_any-map}
use Rattle.td_text.proofs.Cut.{Begins, Without-from_test, part_again, part_begins}
use Rattle.td_text.proofs.RunTexts.{run_joined, run_passes}
use Rattle.td_text.specs.Runs.{behind, run}
use Rattle.td_stanza.specs.declared.entry.Field.{Field}
use Rattle.td_stanza.specs.Field.{is_field_name, is_name_byte, is_same_name}
use Rattle.td_stanza.specs.StanzaGrammar.{names_of, has_name}
use Rattle.td_stanza.specs.Table.{shown}

begins_with : (a b : List ℕ) → Begins 58 b → eqb (length b) 0 ≡ false
    → (rest : List ℕ) × (b ≡ 58 ∷ rest)
begins_with a [] h some = absurd cc
begins_with a (x ∷ b) h some = (b, ap (λ (y : ℕ). y ∷ b) h)

-- where the part from the colon on isn't empty, it begins with the colon
pub colon_rest : (line a b : List ℕ) → (a, b) ≡ part 58 line → line ≡ a ++ b
    → eqb (length b) 0 ≡ false → (rest : List ℕ) × (line ≡ a ++ 58 ∷ rest)
colon_rest line a b is joined some =
    let begins : Begins 58 b =
    subst (λ (p : List ℕ × List ℕ). Begins 58 p.1) (sym is) (part_begins 58 line) in
    let r = begins_with a b begins some in
    (r.0, joined ∙ ap (λ (l : List ℕ). a ++ l) r.1)

pub name_is_ascii : (b : ℕ) → is_name_byte b ≡ true → b < 128
name_is_ascii b h = grind (arith, nat_tests)

-- a run of a name's bytes before a colon is what stands before the first colon
pub front_parts : (line : List ℕ) → eqb (length (behind is_name_byte line)) 0 ≡ false
    → get_or (behind is_name_byte line) 0 0 ≡ 58
    → (run is_name_byte line, behind is_name_byte line) ≡ part 58 line
front_parts line some colon =
    sym (ap (part 58) (run_joined is_name_byte line)
    ∙ part_again 58 (run is_name_byte line) (behind is_name_byte line)
    (Without-from_test is_name_byte 58 (run is_name_byte line) refl (run_passes is_name_byte line))
    (begins (behind is_name_byte line) some colon))
  where
    begins : (b : List ℕ) → eqb (length b) 0 ≡ false → get_or b 0 0 ≡ 58 → Begins 58 b
    begins [] some is = absurd cc
    begins (x ∷ b) some is = is

-- whether there is a first byte, and it may begin a field's name
abbrev pub begins_so : List ℕ → Bool
begins_so name =
    nat_lt 0 (length name) && not ((slice_index name 0 == 35) || (slice_index name 0 == 45))

-- .. and a name where it begins as one
pub front_named : (line : List ℕ)
    → begins_so (run is_name_byte line) ≡ is_field_name (run is_name_byte line)
front_named line =
    by (nat_lt 0 (length (run is_name_byte line)))
    (not ((slice_index (run is_name_byte line) 0 == 35)
    || (slice_index (run is_name_byte line) 0 == 45)))
    (list_all is_name_byte (run is_name_byte line)) (run_passes is_name_byte line)
  where
    by : (a b all : Bool) → all ≡ true → (a && b) ≡ (a && (b && all))
    by true true all h = sym h
    by true false all h = refl
    by false b all h = refl

-- the test over fields is that over their names
pub has_name-shown : (fields : List Field) (name : List ℕ)
    → list_any (λ field. is_same_name name field.name.now) fields
    ≡ has_name (names_of (map shown fields)) name
has_name-shown fields name =
    sym (list_any-map (is_same_name name) (λ e. e.name) (map shown fields)
    ∙ list_any-map (λ e. is_same_name name e.name) shown fields)

-- ---- what follows the colon

pub tail_is : (here name first rest : List ℕ) → here ≡ (name ++ 58 ∷ first) ++ rest
    → drop (length name + 1) here ≡ first ++ rest
tail_is here name first rest is =
    let apart : here ≡ (name ++ 58 ∷ []) ++ (first ++ rest) =
    is ∙ append_assoc name (58 ∷ first) rest ∙ sym (append_assoc name (58 ∷ []) (first ++ rest)) in
    ap (drop (length name + 1)) apart
    ∙ drop_at (name ++ 58 ∷ []) (first ++ rest) (length name + 1) (length-append name (58 ∷ []))

pub after_colon : (here name first rest : List ℕ) → IsUtf8 here
    → here ≡ (name ++ 58 ∷ first) ++ rest → IsCharBoundary here (length name + 1)
after_colon here name first rest text is =
    let apart : here ≡ name ++ 58 ∷ (first ++ rest) = is ∙ append_assoc name (58 ∷ first) rest in
    let len : length here ≡ length name + suc (length (first ++ rest)) =
    ap length apart ∙ length-append name (58 ∷ (first ++ rest)) in
    let byte : get_or here (length name) 0 ≡ 58 =
    ap (λ (l : List ℕ). get_or l (length name) 0) apart
    ∙ get_or-append_right name (58 ∷ (first ++ rest)) (length name) (length name) 0 refl
    (omega arith) ∙ (let none : length name - length name ≡ 0 = omega arith in
    ap (λ (i : ℕ). get_or (58 ∷ (first ++ rest)) i 0) none) in
    IsCharBoundary-after_ascii here (length name) text (omega arith) (omega arith)

pub raw_is : (tail raw first more after rest : List ℕ) → tail ≡ raw ++ rest → tail ≡ first ++ after
    → after ≡ more ++ rest → raw ≡ first ++ more
raw_is tail raw first more after rest h k m =
    append_cancel_right raw (first ++ more) rest
    (sym h ∙ k ∙ ap (λ (l : List ℕ). first ++ l) m ∙ sym (append_assoc first more rest))
