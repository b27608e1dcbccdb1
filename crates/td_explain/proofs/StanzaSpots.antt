-- A stanza is found by its number, at its first line.
use Rattle.std.proofs.Common.{◌≡◌, ◌≢◌, ℕ, ◌+◌, ◌-◌, ◌<◌, Bool, true, false, cond, leb, ◌&&◌}
use Rattle.std.proofs.Common.{List, [], ◌∷◌, ◌++◌, length, Some, None, refl, sym, ap, subst}
use Rattle.std.proofs.Common.{◌∙◌, append_assoc, append-nil, arith, length-append}
use Rattle.std.specs.Prelude.{IsTrue}
use Rattle.std.specs.List.{AllByRecursion}
use Rattle.std.proofs.lemmas.Bool.{lt-leb}
use Rattle.td_text.specs.Lines.{lines_of}
use Rattle.td_stanza.specs.Line.{is_separator, is_continuation}
use Rattle.td_stanza.specs.Field.{Entry}
use Rattle.td_stanza.specs.StanzaGrammar.{AllSeparate, AreFields, AreStanzas, BeginsApart, IsStanza}
use Rattle.td_stanza.proofs.LineKinds.{continued_filled, named_filled}
use Rattle.td_explain.specs.declared.spot.Point.TheVariants.{Stanza}
use Rattle.td_explain.specs.Spot.{spot_in}
use Rattle.td_explain.specs.SpotLaws.{NoMoreAreFound, StanzasAreFound}
use Rattle.td_explain.proofs.Spots.{spot_with}

-- no separator
abbrev Filled : List ℕ → Type 0
Filled line = is_separator line ≡ false

-- ---- the lines of a stanza are no separators

filled_more : (more : List (List ℕ)) → AllByRecursion (λ line. IsTrue (is_continuation line)) more
    → AllByRecursion Filled more
filled_more [] h = tt
filled_more (line ∷ more) h = (continued_filled line h.0, filled_more more h.1)

filled_both : (a b : List (List ℕ)) → AllByRecursion Filled a → AllByRecursion Filled b
    → AllByRecursion Filled (a ++ b)
filled_both [] b h k = k
filled_both (line ∷ a) b h k = (h.0, filled_both a b h.1 k)

filled_along : (a b : List (List ℕ)) → a ≡ b → AllByRecursion Filled b → AllByRecursion Filled a
filled_along a b same h = subst (AllByRecursion Filled) (sym same) h

filled_fields : (fields : List Entry) (own : List (List ℕ)) → AreFields fields own
    → AllByRecursion Filled own
filled_fields [] own h = filled_along own [] h tt
filled_fields (f ∷ fs) own (lines, others, parts, field, rest) =
    filled_along own (lines ++ others) parts
    (filled_both lines others
    (filled_along lines ((f.name ++ 58 ∷ field.first) ∷ field.more) field.parts
    (named_filled f.name (58 ∷ field.first) field.name, filled_more field.more field.continued))
    (filled_fields fs others rest))

-- the first line of a stanza, and the others
record HasFront (own : List (List ℕ)) : Type 0 where
  line : List ℕ
  more : List (List ℕ)
  parts : own ≡ line ∷ more

front_of : (stanza : List Entry) (own : List (List ℕ)) → stanza ≢ [] → AreFields stanza own
    → HasFront own
front_of [] own some h = absurd (some refl)
front_of (f ∷ fs) own some (lines, others, parts, field, rest) =
    record {
      line = f.name ++ 58 ∷ field.first;
      more = field.more ++ others;
      parts = parts ∙ ap (λ (l : List (List ℕ)). l ++ others) field.parts;
    }

-- ---- how a stanza is looked for

over_separator : (n number : ℕ) (apart : Bool) (line : List ℕ) (lines : List (List ℕ))
    → IsTrue (is_separator line)
    → spot_in (Stanza n) apart number (line ∷ lines) ≡ spot_in (Stanza n) true (number + 1) lines
unfolding spot_in
over_separator n number apart line lines is = rw is (by apart (leb n 1))
  where
    by : (a b : Bool) → cond (a && (b && false)) (Some (spot_with number 0 line))
        (spot_in (cond (a && false) (Stanza (n - 1)) (Stanza n)) true (number + 1) lines)
        ≡ spot_in (Stanza n) true (number + 1) lines
    by true true = refl
    by true false = refl
    by false b = refl

over_own : (n number : ℕ) (line : List ℕ) (lines : List (List ℕ)) → Filled line
    → spot_in (Stanza n) false number (line ∷ lines) ≡ spot_in (Stanza n) false (number + 1) lines
unfolding spot_in
over_own n number line lines other = rw other refl

over_front : (n number : ℕ) (line : List ℕ) (lines : List (List ℕ)) → Filled line → 1 < n
    → spot_in (Stanza n) true number (line ∷ lines)
    ≡ spot_in (Stanza (n - 1)) false (number + 1) lines
unfolding spot_in
over_front n number line lines other low =
    let high : leb n 1 ≡ false = lt-leb n 1 low in rw (other, high) refl

at_front : (number : ℕ) (line : List ℕ) (lines : List (List ℕ)) → Filled line
    → spot_in (Stanza 1) true number (line ∷ lines) ≡ Some (spot_with number 0 line)
unfolding spot_in
at_front number line lines other = rw other refl

over_separators : (n number : ℕ) (separators lines : List (List ℕ)) → AllSeparate separators
    → spot_in (Stanza n) true number (separators ++ lines)
    ≡ spot_in (Stanza n) true (number + length separators) lines
over_separators n number [] lines h =
    let e : number ≡ number + 0 = omega arith in
    ap (λ (k : ℕ). spot_in (Stanza n) true k lines) e
over_separators n number (line ∷ separators) lines h =
    let e : number + 1 + length separators ≡ number + length (line ∷ separators) = omega arith in
    over_separator n number true line (separators ++ lines) h.0
    ∙ over_separators n (number + 1) separators lines h.1
    ∙ ap (λ (k : ℕ). spot_in (Stanza n) true k lines) e

over_more : (n number : ℕ) (own lines : List (List ℕ)) → AllByRecursion Filled own
    → spot_in (Stanza n) false number (own ++ lines)
    ≡ spot_in (Stanza n) false (number + length own) lines
over_more n number [] lines h =
    let e : number ≡ number + 0 = omega arith in
    ap (λ (k : ℕ). spot_in (Stanza n) false k lines) e
over_more n number (line ∷ own) lines h =
    let e : number + 1 + length own ≡ number + length (line ∷ own) = omega arith in
    over_own n number line (own ++ lines) h.0 ∙ over_more n (number + 1) own lines h.1
    ∙ ap (λ (k : ℕ). spot_in (Stanza n) false k lines) e

-- after a separator, or if nothing comes, no stanza is open
closed : (n number : ℕ) (lines : List (List ℕ)) → BeginsApart lines
    → spot_in (Stanza n) false number lines ≡ spot_in (Stanza n) true number lines
unfolding spot_in
closed n number [] h = refl
closed n number (line ∷ lines) h =
    over_separator n number false line lines h ∙ sym (over_separator n number true line lines h)

-- a whole stanza more
over_stanza : (n number : ℕ) (stanza : List Entry) (own lines : List (List ℕ)) → 1 < n
    → IsStanza stanza own → BeginsApart lines
    → spot_in (Stanza n) true number (own ++ lines)
    ≡ spot_in (Stanza (n - 1)) true (number + length own) lines
over_stanza n number stanza own lines low s apart =
    let f = front_of stanza own s.filled s.fields in
    let all : AllByRecursion Filled (f.line ∷ f.more) = filled_along (f.line ∷ f.more) own
    (sym f.parts) (filled_fields stanza own s.fields) in
    let e : number + 1 + length f.more ≡ number + length own = omega (arith, ap length f.parts) in
    ap (λ (l : List (List ℕ)). spot_in (Stanza n) true number (l ++ lines)) f.parts
    ∙ over_front n number f.line (f.more ++ lines) all.0 low
    ∙ over_more (n - 1) (number + 1) f.more lines all.1
    ∙ ap (λ (k : ℕ). spot_in (Stanza (n - 1)) false k lines) e
    ∙ closed (n - 1) (number + length own) lines apart

-- ---- the stanza with a number

-- the stanza among lines that are counted from this number on
record IsFound (earlier : List (List Entry)) (stanza : List Entry) (later : List (List Entry))
    (number : ℕ) (lines : List (List ℕ)) : Type 0 where
  before : List (List ℕ)
  line : List ℕ
  own : List (List ℕ)
  after : List (List ℕ)
  parts : lines ≡ before ++ ((line ∷ own) ++ after)
  whole : AreStanzas earlier before
  stands : IsStanza stanza (line ∷ own)
  rest : AreStanzas later after
  found : spot_in (Stanza (length earlier + 1)) true number lines
      ≡ Some (spot_with (number + length before) 0 line)

along : (stanza : List Entry) (a b : List (List ℕ)) → a ≡ b → IsStanza stanza a → IsStanza stanza b
along stanza a b same s = subst (IsStanza stanza) same s

begins : (before after lines : List (List ℕ)) → lines ≡ before ++ after → BeginsApart lines
    → BeginsApart before
begins [] after lines parts h = tt
begins (line ∷ before) after lines parts h = subst BeginsApart parts h

stanza_found : (earlier : List (List Entry)) (stanza : List Entry) (later : List (List Entry))
    (number : ℕ) (lines : List (List ℕ)) → AreStanzas (earlier ++ stanza ∷ later) lines
    → IsFound earlier stanza later number lines
stanza_found [] stanza later number lines (separators, own, others, parts, apart, s, ends, rest) =
    let f = front_of stanza own s.filled s.fields in
    let all : AllByRecursion Filled (f.line ∷ f.more) = filled_along (f.line ∷ f.more) own
    (sym f.parts) (filled_fields stanza own s.fields) in
    let whole : lines ≡ separators ++ ((f.line ∷ f.more) ++ others) =
    parts ∙ ap (λ (l : List (List ℕ)). separators ++ (l ++ others)) f.parts in
    record {
      before = separators;
      line = f.line;
      own = f.more;
      after = others;
      parts = whole;
      whole = apart;
      stands = along stanza own (f.line ∷ f.more) f.parts s;
      rest = rest;
      found = ap (spot_in (Stanza 1) true number) whole
          ∙ over_separators 1 number separators ((f.line ∷ f.more) ++ others) apart
          ∙ at_front (number + length separators) f.line (f.more ++ others) all.0;
    }
stanza_found (first ∷ earlier) stanza later number lines
    (separators, own, others, parts, apart, s, ends, rest) =
    let n = length (first ∷ earlier) + 1 in
    let start = number + length separators in
    let f = stanza_found earlier stanza later (start + length own) others rest in
    let before = separators ++ (own ++ f.before) in
    let tail = (f.line ∷ f.own) ++ f.after in
    let one : n - 1 ≡ length earlier + 1 = omega arith in
    let long : start + length own + length f.before ≡ number + length before =
    omega (arith, length-append separators (own ++ f.before), length-append own f.before) in
    record {
      before = before;
      line = f.line;
      own = f.own;
      after = f.after;
      parts = parts ∙ ap (λ (l : List (List ℕ)). separators ++ (own ++ l)) f.parts
          ∙ ap (λ (l : List (List ℕ)). separators ++ l) (sym (append_assoc own f.before tail))
          ∙ sym (append_assoc separators (own ++ f.before) tail);
      whole = (
        separators,
        own,
        f.before,
        refl,
        apart,
        s,
        begins f.before tail others f.parts ends,
        f.whole,
      );
      stands = f.stands;
      rest = f.rest;
      found = ap (spot_in (Stanza n) true number) parts
          ∙ over_separators n number separators (own ++ others) apart
          ∙ over_stanza n start first own others (omega arith) s ends
          ∙ ap (λ (k : ℕ). spot_in (Stanza k) true (start + length own) others) one
          ∙ f.found
          ∙ ap (λ (k : ℕ). Some (spot_with k 0 f.line)) long;
    }

none_found : (stanzas : List (List Entry)) (n number : ℕ) (lines : List (List ℕ))
    → AreStanzas stanzas lines → length stanzas < n → spot_in (Stanza n) true number lines ≡ None
unfolding spot_in
none_found [] n number lines h low =
    ap (spot_in (Stanza n) true number) (sym (append-nil lines))
    ∙ over_separators n number lines [] h
none_found (first ∷ stanzas) n number lines
    (separators, own, others, parts, apart, s, ends, rest) low =
    let start = number + length separators in
    ap (spot_in (Stanza n) true number) parts
    ∙ over_separators n number separators (own ++ others) apart
    ∙ over_stanza n start first own others (omega arith) s ends
    ∙ none_found stanzas (n - 1) (start + length own) others rest (omega arith)

-- ---- the laws

pub stanzas_are_found : StanzasAreFound
stanzas_are_found earlier stanza later text h =
    let f = stanza_found earlier stanza later 1 (lines_of text) h in (
      spot_with (1 + length f.before) 0 f.line,
      f.found,
      record {
        before = f.before;
        own = f.own;
        after = f.after;
        parts = f.parts;
        whole = f.whole;
        stands = f.stands;
        rest = f.rest;
        number = omega arith;
        front = refl;
      },
    )

pub no_more_are_found : NoMoreAreFound
no_more_are_found n stanzas text h low = none_found stanzas n 1 (lines_of text) h low
