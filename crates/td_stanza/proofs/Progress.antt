-- How far a text is read, and what a line adds to it.
use Rattle.std.proofs.Common.{◌≡◌, ℕ, ◌+◌, ◌-◌, ◌≤◌, true, false, cond, eqb, List, [], ◌∷◌, ◌++◌}
use Rattle.std.proofs.Common.{length, map, take, drop, Option, Some, None, Result, Ok, Err, refl}
use Rattle.std.proofs.Common.{sym, ap, subst, ◌∙◌, append_assoc, arith}
use Rattle.std.specs.Prelude.{IsTrue, OnOk, is_ok}
use Rattle.std.specs.Borrow.{Bor}
use Rattle.std.proofs.lemmas.List.{append-nil, length-append, length-map, map-append, drop-map}
use Rattle.std.proofs.lemmas.List.{take_at, drop_at}
use Rattle.std.proofs.lemmas.List.Splits.{length-slice_split}
use Rattle.std.proofs.lemmas.List.Sums.{sum_by-append}
use Rattle.td_text.specs.Lines.{lines_of, lines_left, left_text}
use Rattle.td_stanza.specs.declared.fault.StanzaFault.{StanzaFault}
use Rattle.td_stanza.specs.declared.entry.Field.{Field}
use Rattle.td_stanza.specs.Line.{is_separator, is_continuation, first_line}
use Rattle.td_stanza.specs.Value.{after_newlines}
use Rattle.td_stanza.specs.Field.{Entry, is_field_name, IsField}
use Rattle.td_stanza.specs.StanzaGrammar.{AreStanzas, names_of, has_name}
use Rattle.td_stanza.specs.StanzaFaults.{IsBefore, IsNewName, IsFaultAt, HasFault}
use Rattle.td_stanza.specs.Table.{shown, newlines, pieces, starts_from, joined, IsTable}
use Rattle.td_stanza.specs.Continuing.{IsTaken, IsEnded}
use Rattle.td_stanza.proofs.Grammar.{closed, all_distinct, before_closed, before_none}
use Rattle.td_stanza.proofs.Grammar.{before_separator, before_field}
use Rattle.td_stanza.proofs.Tables.{joined-closed, starts_next, pieces-joined}

-- what is left ends the text
abbrev pub EndsText : List ℕ → Option (Bor (List ℕ)) → Type 0
EndsText text None = Unit {0}
EndsText text (Some rest) = (front : List ℕ) × (text ≡ front ++ rest.now)

-- the lines before what is left are whole stanzas, whose fields stand first, and then fields of a
-- stanza, which stand from the place `first` on
pub record IsRead (text : List ℕ) (rest : Option (Bor (List ℕ))) (fields : List Field)
    (starts : List ℕ) (first : ℕ) : Type 0 where
  pub before : List (List ℕ)
  pub current : List Entry
  pub lines : lines_of text ≡ before ++ lines_left rest
  pub ends : EndsText text rest
  pub fine : IsBefore current before
  pub fields_are : map shown fields ≡ joined fine.stanzas ++ current
  pub first_is : first ≡ length (joined fine.stanzas)
  pub starts_are : starts ≡ starts_from 0 (closed fine.stanzas current)
  pub ended : is_continuation (first_line (lines_left rest)) ≡ true → current ≡ []

pub read_nothing : (text : Bor (List ℕ)) → IsRead text.now (Some text) [] [] 0
read_nothing text =
    record {
      before = [];
      current = [];
      lines = refl;
      ends = ([], refl);
      fine = before_none;
      fields_are = refl;
      first_is = refl;
      starts_are = refl;
      ended = λ e. refl;
    }

pub ends_here : (text : List ℕ) (rest : Option (Bor (List ℕ))) (here : Bor (List ℕ))
    → EndsText text rest → rest ≡ Some here → (front : List ℕ) × (text ≡ front ++ here.now)
ends_here text rest here h is = subst (EndsText text) is h

ends_next : (text line : List ℕ) (here : Bor (List ℕ)) (next : Option (Bor (List ℕ)))
    → (front : List ℕ) → text ≡ front ++ here.now → here.now ≡ line ++ left_text next
    → EndsText text next
ends_next text line here None front is left = tt
ends_next text line here (Some next) front is left = (
  front ++ (line ++ 10 ∷ []),
  is ∙ ap (λ (l : List ℕ). front ++ l) (left ∙ sym (append_assoc line (10 ∷ []) next.now))
      ∙ sym (append_assoc front (line ++ 10 ∷ []) next.now),
)

lines_here : (text : List ℕ) (before : List (List ℕ)) (rest : Option (Bor (List ℕ)))
    (here : Bor (List ℕ)) (line : List ℕ) (next : Option (Bor (List ℕ)))
    → lines_of text ≡ before ++ lines_left rest → rest ≡ Some here
    → lines_of here.now ≡ line ∷ lines_left next → lines_of text ≡ before ++ line ∷ lines_left next
lines_here text before rest here line next are is left =
    are ∙ ap (λ (o : Option (Bor (List ℕ))). before ++ lines_left o) is
    ∙ ap (λ (l : List (List ℕ)). before ++ l) left

-- the fields of the stanza that the lines before are in
pub current_is : (text : List ℕ) (rest : Option (Bor (List ℕ))) (fields : List Field)
    (starts : List ℕ) (first : ℕ) (r : IsRead text rest fields starts first)
    → map shown (drop first fields) ≡ r.current
current_is text rest fields starts first r =
    sym (drop-map shown first fields) ∙ ap (drop first) r.fields_are
    ∙ drop_at (joined r.fine.stanzas) r.current first (sym r.first_is)

pub first_within : (text : List ℕ) (rest : Option (Bor (List ℕ))) (fields : List Field)
    (starts : List ℕ) (first : ℕ) → IsRead text rest fields starts first → first ≤ length fields
first_within text rest fields starts first r =
    let len : length fields ≡ length (joined r.fine.stanzas ++ r.current) =
    sym (length-map fields shown) ∙ ap length r.fields_are in
    let is = r.first_is in
    omega (arith, length-append (joined r.fine.stanzas) r.current)

-- ---- a separator

pub read_separator : (text : List ℕ) (rest : Option (Bor (List ℕ))) (fields : List Field)
    (starts : List ℕ) (first : ℕ) (here : Bor (List ℕ)) (line : List ℕ)
    (next : Option (Bor (List ℕ)))
    → IsRead text rest fields starts first → rest ≡ Some here
    → lines_of here.now ≡ line ∷ lines_left next → here.now ≡ line ++ left_text next
    → is_separator line ≡ true → IsRead text next fields starts (length fields)
read_separator text rest fields starts first here line next r is lines left sep =
    let e = ends_here text rest here r.ends is in
    let all : joined (closed r.fine.stanzas r.current) ≡ joined r.fine.stanzas ++ r.current =
    joined-closed r.fine.stanzas r.current in
    record {
      before = r.before ++ line ∷ [];
      current = [];
      lines = lines_here text r.before rest here line next r.lines is lines
          ∙ sym (append_assoc r.before (line ∷ []) (lines_left next));
      ends = ends_next text line here next e.0 e.1 left;
      fine = before_separator r.current r.before line r.fine sep;
      fields_are =
          r.fields_are ∙ sym all ∙ sym (append-nil (joined (closed r.fine.stanzas r.current)));
      first_is = sym (length-map fields shown) ∙ ap length (r.fields_are ∙ sym all);
      starts_are = r.starts_are;
      ended = λ e. refl;
    }

-- ---- a field

field_here : (name line : List ℕ) (names : List (List ℕ)) (next after : Option (Bor (List ℕ)))
    (field : Field) (n : IsNewName names line name) (t : IsTaken name n.rest next field after)
    → IsField (shown field) (line ∷ t.skips.more)
field_here name line names next after field n t = record {
  first = n.rest;
  more = t.skips.more;
  parts = ap (λ (l : List ℕ). l ∷ t.skips.more)
      (n.parts ∙ ap (λ (m : List ℕ). m ++ 58 ∷ n.rest) (sym t.name_is));
  name = subst (λ (m : List ℕ). IsTrue (is_field_name m)) (sym t.name_is) n.named;
  continued = t.skips.continued;
  value = t.value_is;
}

pub read_field : (text : List ℕ) (rest : Option (Bor (List ℕ))) (fields more_fields : List Field)
    (starts more_starts : List ℕ) (first : ℕ) (here : Bor (List ℕ)) (line name : List ℕ)
    (next after : Option (Bor (List ℕ))) (field : Field)
    → IsRead text rest fields starts first → rest ≡ Some here
    → lines_of here.now ≡ line ∷ lines_left next → here.now ≡ line ++ left_text next
    → (slice : List Field) → slice ≡ drop first fields
    → (n : IsNewName (names_of (map shown slice)) line name) → IsTaken name n.rest next field after
    → IsEnded after
    → more_fields ≡ fields ++ field ∷ []
    → more_starts ≡ cond (eqb first (length fields)) (starts ++ first ∷ []) starts
    → IsRead text after more_fields more_starts first
read_field text rest fields more_fields starts more_starts first here line name next after field r
    is lines left slice slice_is n t end fields_are starts_are =
    let e = ends_here text rest here r.ends is in
    let own = field_here name line (names_of (map shown slice)) next after field n t in
    let new : has_name (names_of r.current) field.name.now ≡ false =
    subst (λ (l : List Entry). has_name (names_of l) field.name.now ≡ false)
    (ap (map shown) slice_is ∙ current_is text rest fields starts first r)
    (subst (λ (m : List ℕ). has_name (names_of (map shown slice)) m ≡ false)
    (sym t.name_is) n.distinct) in
    let len : length fields ≡ length (joined r.fine.stanzas ++ r.current) =
    sym (length-map fields shown) ∙ ap length r.fields_are in
    record {
      before = r.before ++ line ∷ t.skips.more;
      current = r.current ++ shown field ∷ [];
      lines = lines_here text r.before rest here line next r.lines is lines
          ∙ ap (λ (l : List (List ℕ)). r.before ++ line ∷ l) t.skips.lines
          ∙ sym (append_assoc r.before (line ∷ t.skips.more) (lines_left after));
      ends = ends_next text (line ++ after_newlines t.skips.more) here after e.0 e.1
          (left ∙ ap (λ (l : List ℕ). line ++ l) t.skips.text
          ∙ sym (append_assoc line (after_newlines t.skips.more) (left_text after)));
      fine = before_field r.current (shown field) r.before (line ∷ t.skips.more) r.fine own new;
      fields_are = ap (map shown) fields_are ∙ map-append shown fields (field ∷ [])
          ∙ ap (λ (l : List Entry). l ++ shown field ∷ []) r.fields_are
          ∙ append_assoc (joined r.fine.stanzas) r.current (shown field ∷ []);
      first_is = r.first_is;
      starts_are = starts_are
          ∙ starts_next r.fine.stanzas r.current (shown field) starts first
          (length fields) r.starts_are r.first_is len;
      ended = λ more. absurd (let bad : true ≡ false = sym more ∙ end in cc);
    }

-- ---- a fault

count_is : (text front here : List ℕ) (before : List (List ℕ)) → text ≡ front ++ here
    → lines_of text ≡ before ++ lines_of here
    → newlines (take (length text - length here) text) ≡ length before
count_is text front here before is lines =
    let size : length text - length here ≡ length front =
    omega (arith, ap length is, length-append front here) in
    let own : take (length text - length here) text ≡ front =
    ap (λ (n : ℕ). take n text) size ∙ ap (take (length front)) is
    ∙ take_at front here (length front) refl in
    let sum : newlines text ≡ newlines front + newlines here =
    ap newlines is ∙ sum_by-append (λ b. cond (eqb b 10) 1 0) front here in
    let all : newlines text + 1 ≡ length before + (newlines here + 1) =
    sym (length-slice_split (λ b. eqb b 10) text) ∙ ap length lines
    ∙ length-append before (lines_of here)
    ∙ ap (λ (n : ℕ). length before + n) (length-slice_split (λ b. eqb b 10) here) in
    let whole : newlines front ≡ length before = omega arith in
    ap newlines own ∙ whole

pub read_fault : (text : List ℕ) (rest : Option (Bor (List ℕ))) (fields : List Field)
    (starts : List ℕ) (first : ℕ) (here : Bor (List ℕ)) (line : List ℕ)
    (next : Option (Bor (List ℕ))) (e : StanzaFault) (slice : List Field)
    → IsRead text rest fields starts first → rest ≡ Some here
    → lines_of here.now ≡ line ∷ lines_left next → slice ≡ drop first fields
    → IsFaultAt e (newlines (take (length text - length here.now) text) + 1) (map shown slice) line
    → HasFault e (lines_of text)
read_fault text rest fields starts first here line next e slice r is lines slice_is fault =
    let f = ends_here text rest here r.ends is in
    let number : newlines (take (length text - length here.now) text) ≡ length r.before =
    count_is text f.0 here.now r.before f.1
    (r.lines ∙ ap (λ (o : Option (Bor (List ℕ))). r.before ++ lines_left o) is) in
    record {
      before = r.before;
      line = line;
      after = lines_left next;
      fields = r.current;
      parts = lines_here text r.before rest here line next r.lines is lines;
      fine = r.fine;
      fault_at = subst (λ (n : ℕ). IsFaultAt e (n + 1) r.current line) number
          (subst (λ (l : List Entry).
          IsFaultAt e (newlines (take (length text - length here.now) text) + 1) l line)
          (ap (map shown) slice_is ∙ current_is text rest fields starts first r) fault);
    }

-- ---- the end

pub table_of : (text : List ℕ) (rest : Option (Bor (List ℕ))) (fields : List Field)
    (starts : List ℕ) (first : ℕ) → IsRead text rest fields starts first → IsTable fields starts
table_of text rest fields starts first r = record {
  stanzas = closed r.fine.stanzas r.current;
  fields_are = r.fields_are ∙ sym (joined-closed r.fine.stanzas r.current);
  starts_are = r.starts_are;
  distinct = all_distinct (closed r.fine.stanzas r.current) r.before
      (before_closed r.current r.before r.fine);
}

pub read_whole : (text : List ℕ) (rest : Option (Bor (List ℕ))) (fields : List Field)
    (starts : List ℕ) (first : ℕ) → IsRead text rest fields starts first → rest ≡ None
    → AreStanzas (pieces (map shown fields) starts) (lines_of text)
read_whole text rest fields starts first r is =
    let lines : lines_of text ≡ r.before =
    r.lines ∙ ap (λ (o : Option (Bor (List ℕ))). r.before ++ lines_left o) is
    ∙ append-nil r.before in
    let found : pieces (map shown fields) starts ≡ closed r.fine.stanzas r.current =
    ap (λ (l : List Entry). pieces l starts)
    (r.fields_are ∙ sym (joined-closed r.fine.stanzas r.current))
    ∙ ap (pieces (joined (closed r.fine.stanzas r.current))) r.starts_are
    ∙ pieces-joined (closed r.fine.stanzas r.current) in
    subst (λ (l : List (List ℕ)). AreStanzas (pieces (map shown fields) starts) l) (sym lines)
    (subst (λ (ss : List (List Entry)). AreStanzas ss r.before) (sym found)
    (before_closed r.current r.before r.fine))

pub where_ok : {A E : Type 0} (r : Result A E) (P : Type 0) → is_ok r ≡ true → OnOk r P → P
where_ok (Ok x) P is h = h
where_ok (Err e) P is h = absurd cc
