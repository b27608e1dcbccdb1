-- Lines, one by one: a line has a fault by its kind and by the names before it in its stanza.
use Rattle.std.proofs.Common.{◌≡◌, ◌≢◌, ℕ, ◌+◌, Bool, true, false, cond, List, [], ◌∷◌, ◌++◌}
use Rattle.std.proofs.Common.{length, Result, Ok, Err, refl, sym, ap, subst, ◌∙◌, append_assoc}
use Rattle.std.proofs.Common.{arith}
use Rattle.std.specs.Prelude.{IsTrue}
use Rattle.std.specs.List.{AllByRecursion}
use Rattle.std.proofs.lemmas.List.{append-nil}
use Rattle.td_text.specs.Cut.{part}
use Rattle.td_text.specs.Lines.{over_lines}
use Rattle.td_text.proofs.Chain.{on_ok_parts, ok_is}
use Rattle.td_text.proofs.Cut.{part_first, part_none}
use Rattle.td_text.proofs.FirstFault.{over_lines-append, first_fault_again}
use Rattle.td_stanza.specs.declared.fault.StanzaFault.{StanzaFault}
use Rattle.td_stanza.specs.declared.fault.StanzaFault.TheVariants.{BadName, NoColon}
use Rattle.td_stanza.specs.declared.fault.StanzaFault.TheVariants.{ContinuationFirst, Duplicate}
use Rattle.td_stanza.specs.declared.fault.StanzaFault.TheVariants.{NoMemory}
use Rattle.td_stanza.specs.Line.{is_separator, begins_blank, is_continuation}
use Rattle.td_stanza.specs.Field.{Entry, is_field_name, IsField}
use Rattle.td_stanza.specs.StanzaGrammar.{AreFields, names_of, has_name, AreNew, AllSeparate}
use Rattle.td_stanza.specs.StanzaGrammar.{BeginsApart, AreStanzas}
use Rattle.td_stanza.specs.StanzaFaults.{ends_apart, IsBefore, IsFaultAt, HasFault}
use Rattle.td_stanza.proofs.LineKinds.{named_filled, named_begins, name_lacks_colon}
use Rattle.td_stanza.proofs.LineKinds.{continued_filled, continued_begins}

-- the names of a stanza, or the fault of its next line
abbrev Names : Type 0
Names = List (List ℕ)

abbrev after_name : ℕ → Names → List ℕ → List ℕ → Result Names StanzaFault
after_name n seen name [] = Err (NoColon n)
after_name n seen name (x ∷ rest) =
    cond (has_name seen name) (Err (Duplicate n)) (Ok (seen ++ name ∷ []))

abbrev first_step : ℕ → Names → List ℕ × List ℕ → Result Names StanzaFault
first_step n seen p = cond (is_field_name p.0) (after_name n seen p.0 p.1) (Err (BadName n))

abbrev continue_step : ℕ → Names → Result Names StanzaFault
continue_step n [] = Err (ContinuationFirst n)
continue_step n (x ∷ seen) = Ok (x ∷ seen)

abbrev pub step : ℕ → Names → List ℕ → Result Names StanzaFault
step n seen line =
    cond (is_separator line) (Ok [])
    (cond (begins_blank line) (continue_step n seen) (first_step n seen (part 58 line)))

step_separator : (n : ℕ) (seen : Names) (line : List ℕ) → IsTrue (is_separator line)
    → step n seen line ≡ Ok []
step_separator n seen line is = rw is refl

continue_some : (n : ℕ) (seen : Names) → seen ≢ [] → continue_step n seen ≡ Ok seen
continue_some n [] some = absurd (some refl)
continue_some n (x ∷ seen) some = refl

step_continuation : (n : ℕ) (seen : Names) (line : List ℕ) → seen ≢ []
    → IsTrue (is_continuation line) → step n seen line ≡ Ok seen
step_continuation n seen line some is =
    rw (continued_filled line is, continued_begins line is) (continue_some n seen some)

step_named : (n : ℕ) (seen : Names) (name rest : List ℕ) → IsTrue (is_field_name name)
    → step n seen (name ++ 58 ∷ rest)
    ≡ cond (has_name seen name) (Err (Duplicate n)) (Ok (seen ++ name ∷ []))
step_named n seen name rest is =
    rw (
      named_filled name (58 ∷ rest) is,
      named_begins name (58 ∷ rest) is,
      part_first 58 name rest (name_lacks_colon name is),
      is,
    ) refl

step_new : (n : ℕ) (seen : Names) (name rest : List ℕ) → IsTrue (is_field_name name)
    → has_name seen name ≡ false → step n seen (name ++ 58 ∷ rest) ≡ Ok (seen ++ name ∷ [])
step_new n seen name rest is new = step_named n seen name rest is ∙ rw new refl

some_names : (seen : Names) (name : List ℕ) → seen ++ name ∷ [] ≢ []
some_names [] name e = cc
some_names (x ∷ seen) name e = cc

run_more : (n : ℕ) (seen : Names) (more : List (List ℕ)) → seen ≢ []
    → AllByRecursion (λ line. IsTrue (is_continuation line)) more
    → over_lines step n seen more ≡ Ok seen
unfolding over_lines
run_more n seen [] some h = refl
run_more n seen (l ∷ more) some h =
    rw (step_continuation n seen l some h.0) (run_more (n + 1) seen more some h.1)

run_field : (n : ℕ) (seen : Names) (f : Entry) (own : List (List ℕ)) → IsField f own
    → has_name seen f.name ≡ false → over_lines step n seen own ≡ Ok (seen ++ f.name ∷ [])
unfolding over_lines
run_field n seen f own h new =
    ap (over_lines step n seen) h.parts
    ∙ rw (step_new n seen f.name h.first h.name new)
    (run_more (n + 1) (seen ++ f.name ∷ []) h.more (some_names seen f.name) h.continued)

run_fields : (n : ℕ) (seen : Names) (fs : List Entry) (own : List (List ℕ)) → AreFields fs own
    → AreNew seen (names_of fs) → over_lines step n seen own ≡ Ok (seen ++ names_of fs)
unfolding over_lines
run_fields n seen [] own is new = ap (over_lines step n seen) is ∙ ap Ok (sym (append-nil seen))
run_fields n seen (f ∷ fs) own h new =
    ap (over_lines step n seen) h.2
    ∙ over_lines-append step n seen (seen ++ f.name ∷ []) h.0 h.1 (run_field n seen f h.0 h.3 new.0)
    ∙ run_fields (n + length h.0) (seen ++ f.name ∷ []) fs h.1 h.4 new.1
    ∙ ap Ok (append_assoc seen (f.name ∷ []) (names_of fs))

run_separators : (n : ℕ) (lines : List (List ℕ)) → AllSeparate lines
    → over_lines step n [] lines ≡ Ok []
unfolding over_lines
run_separators n [] h = refl
run_separators n (l ∷ lines) h = rw (step_separator n [] l h.0) (run_separators (n + 1) lines h.1)

-- a separator ends a stanza, whatever names it had
run_apart : (n : ℕ) (seen : Names) (lines : List (List ℕ)) → BeginsApart lines → (names : Names)
    → over_lines step n [] lines ≡ Ok names
    → (more : Names) × (over_lines step n seen lines ≡ Ok more)
unfolding over_lines
run_apart n seen [] h names e = (seen, refl)
run_apart n seen (l ∷ lines) h names e =
    (names, rw (step_separator n seen l h) (sym (rw (step_separator n [] l h) refl) ∙ e))

pub run_stanzas : (n : ℕ) (ss : List (List Entry)) (lines : List (List ℕ)) → AreStanzas ss lines
    → (names : Names) × (over_lines step n [] lines ≡ Ok names)
run_stanzas n [] lines h = ([], run_separators n lines h)
run_stanzas n (s ∷ ss) lines h =
    let m = n + length h.0 in
    let k = m + length h.1 in
    let own : over_lines step m [] h.1 ≡ Ok (names_of s) =
    run_fields m [] s h.1 h.5.fields h.5.distinct in
    let later = run_stanzas k ss h.2 h.7 in
    let rest = run_apart k (names_of s) h.2 h.6 later.0 later.1 in (
      rest.0,
      ap (over_lines step n []) h.3
          ∙ over_lines-append step n [] [] h.0 (h.1 ++ h.2) (run_separators n h.0 h.4)
          ∙ over_lines-append step m [] (names_of s) h.1 h.2 own
          ∙ rest.1,
    )

-- behind a separator no name counts
state_apart : (n : ℕ) (seen names : Names) (lines : List (List ℕ)) (d : Bool)
    → (d ≡ true → seen ≡ []) → over_lines step n seen lines ≡ Ok names → ends_apart d lines ≡ true
    → names ≡ []
unfolding over_lines
state_apart n seen names [] d h e apart = sym (ok_is StanzaFault seen names e) ∙ h apart
state_apart n seen names (l ∷ lines) d h e apart =
    let a = on_ok_parts (step n seen l) (λ more. over_lines step (n + 1) more lines) names e in
    state_apart (n + 1) a.0 names lines (is_separator l)
    (λ is. sym (ok_is StanzaFault [] a.0 (sym (step_separator n seen l is) ∙ a.1))) a.2 apart

pub run_before : (fs : List Entry) (lines : List (List ℕ)) → IsBefore fs lines
    → over_lines step 1 [] lines ≡ Ok (names_of fs)
run_before fs lines b =
    let first = run_stanzas 1 b.stanzas b.earlier b.whole in
    let none : first.0 ≡ [] = state_apart 1 [] first.0 b.earlier true (λ e. refl) first.1 b.apart in
    ap (over_lines step 1 []) b.parts
    ∙ over_lines-append step 1 [] [] b.earlier b.own (first.1 ∙ ap Ok none)
    ∙ run_fields (1 + length b.earlier) [] fs b.own b.current b.distinct

continue_none : (n : ℕ) (fs : List Entry) → fs ≡ []
    → continue_step n (names_of fs) ≡ Err (ContinuationFirst n)
continue_none n [] e = refl
continue_none n (f ∷ fs) e = absurd cc

step_fault : (e : StanzaFault) (n : ℕ) (fs : List Entry) (line : List ℕ) → IsFaultAt e n fs line
    → step n (names_of fs) line ≡ Err e
step_fault (BadName m) n fs line h = rw (h.0, h.1.0, h.1.1, h.2) refl
step_fault (NoColon m) n fs line h =
    let filled : is_separator line ≡ false =
    ap is_separator (sym (append-nil line)) ∙ named_filled line [] h.1 in
    let begins : begins_blank line ≡ false =
    ap begins_blank (sym (append-nil line)) ∙ named_begins line [] h.1 in
    rw (h.0, filled, begins, part_none 58 line (name_lacks_colon line h.1), h.1) refl
step_fault (ContinuationFirst m) n fs line h =
    rw (h.0, continued_filled line h.1, continued_begins line h.1) (continue_none n fs h.2)
step_fault (Duplicate m) n fs line h =
    ap (step n (names_of fs)) h.3 ∙ step_named n (names_of fs) h.1 h.2 h.4 ∙ rw (h.5, h.0) refl
step_fault NoMemory n fs line h = absurd h

pub run_fault : (e : StanzaFault) (lines : List (List ℕ)) → HasFault e lines
    → over_lines step 1 [] lines ≡ Err e
run_fault e lines h =
    let number : length h.before + 1 ≡ 1 + length h.before = omega arith in
    first_fault_again step 1 [] lines e (record {
      before = h.before;
      line = h.line;
      after = h.after;
      so_far = names_of h.fields;
      parts = h.parts;
      fine = run_before h.fields h.before h.fine;
      fault = step_fault e (1 + length h.before) h.fields h.line
          (subst (λ (n : ℕ). IsFaultAt e n h.fields h.line) number h.fault_at);
    })
