-- Stanzas that grow at their end.
use Rattle.std.proofs.Common.{◌≡◌, ◌≢◌, ℕ, Bool, true, false, List, [], ◌∷◌, ◌++◌, refl, sym, ap}
use Rattle.std.proofs.Common.{subst, ◌∙◌, append_assoc}
use Rattle.std.specs.Prelude.{IsTrue}
use Rattle.std.specs.List.{AllByRecursion}
use Rattle.std.proofs.lemmas.List.{append-nil, map-append}
use Rattle.td_stanza.specs.Line.{is_separator}
use Rattle.td_stanza.specs.Field.{Entry, IsField}
use Rattle.td_stanza.specs.StanzaGrammar.{AreFields, names_of, has_name, AreNew, IsDistinct}
use Rattle.td_stanza.specs.StanzaGrammar.{IsStanza, AllSeparate, BeginsApart, AreStanzas}
use Rattle.td_stanza.specs.StanzaFaults.{ends_apart, IsBefore}
use Rattle.td_stanza.proofs.LineKinds.{named_filled, ends_apart-append, continued_apart}

pub AreFields-snoc : (fs : List Entry) (f : Entry) (a b : List (List ℕ)) → AreFields fs a
    → IsField f b → AreFields (fs ++ f ∷ []) (a ++ b)
AreFields-snoc [] f a b is own = (b, [], rw is (sym (append-nil b)), own, refl)
AreFields-snoc (g ∷ fs) f a b h own = (
  h.0,
  h.1 ++ b,
  ap (λ (l : List (List ℕ)). l ++ b) h.2 ∙ append_assoc h.0 h.1 b,
  h.3,
  AreFields-snoc fs f h.1 b h.4 own,
)

pub AreNew-snoc : (seen names : List (List ℕ)) (name : List ℕ) → AreNew seen names
    → has_name (seen ++ names) name ≡ false → AreNew seen (names ++ name ∷ [])
AreNew-snoc seen [] name h new =
    (sym (ap (λ (l : List (List ℕ)). has_name l name) (append-nil seen)) ∙ new, tt)
AreNew-snoc seen (n ∷ names) name h new = (
  h.0,
  AreNew-snoc (seen ++ n ∷ []) names name h.1
      (ap (λ (l : List (List ℕ)). has_name l name) (append_assoc seen (n ∷ []) names) ∙ new),
)

field_apart : (d : Bool) (f : Entry) (own : List (List ℕ)) → IsField f own
    → ends_apart d own ≡ false
field_apart d f own h =
    ap (ends_apart d) h.parts
    ∙ rw (named_filled f.name (58 ∷ h.first) h.name) (continued_apart h.more h.continued)

fields_keep : (fs : List Entry) (own : List (List ℕ)) → AreFields fs own
    → ends_apart false own ≡ false
fields_keep [] own is = ap (ends_apart false) is
fields_keep (f ∷ fs) own h =
    ap (ends_apart false) h.2 ∙ ends_apart-append false h.0 h.1
    ∙ ap (λ (d : Bool). ends_apart d h.1) (field_apart false f h.0 h.3) ∙ fields_keep fs h.1 h.4

pub fields_apart : (d : Bool) (fs : List Entry) (own : List (List ℕ)) → AreFields fs own → fs ≢ []
    → ends_apart d own ≡ false
fields_apart d [] own is some = absurd (some refl)
fields_apart d (f ∷ fs) own h some =
    ap (ends_apart d) h.2 ∙ ends_apart-append d h.0 h.1
    ∙ ap (λ (e : Bool). ends_apart e h.1) (field_apart d f h.0 h.3) ∙ fields_keep fs h.1 h.4

begins_more : (others own : List (List ℕ)) → ends_apart false others ≡ true → BeginsApart others
    → BeginsApart (others ++ own)
begins_more [] own e h = absurd cc
begins_more (o ∷ others) own e h = h

-- a stanza after others and a separator
pub AreStanzas-snoc : (ss : List (List Entry)) (s : List Entry) (lines own : List (List ℕ))
    (d : Bool) → AreStanzas ss lines → ends_apart d lines ≡ true → IsStanza s own
    → AreStanzas (ss ++ s ∷ []) (lines ++ own)
AreStanzas-snoc [] s lines own d all e st =
    (lines, own, [], ap (λ (l : List (List ℕ)). lines ++ l) (sym (append-nil own)), all, st, tt, tt)
AreStanzas-snoc (t ∷ ss) s lines own d h e st =
    let inner : ends_apart false h.2 ≡ true =
    sym (ends_apart-append d h.0 (h.1 ++ h.2) ∙ ends_apart-append (ends_apart d h.0) h.1 h.2
    ∙ ap (λ (b : Bool). ends_apart b h.2)
    (fields_apart (ends_apart d h.0) t h.1 h.5.fields h.5.filled)) ∙ sym (ap (ends_apart d) h.3)
    ∙ e in (
      h.0,
      h.1,
      h.2 ++ own,
      ap (λ (l : List (List ℕ)). l ++ own) h.3 ∙ append_assoc h.0 (h.1 ++ h.2) own
          ∙ ap (λ (l : List (List ℕ)). h.0 ++ l) (append_assoc h.1 h.2 own),
      h.4,
      h.5,
      begins_more h.2 own inner h.6,
      AreStanzas-snoc ss s h.2 own false h.7 inner st,
    )

all_separate : (lines : List (List ℕ)) (line : List ℕ) → AllSeparate lines
    → IsTrue (is_separator line) → AllSeparate (lines ++ line ∷ [])
all_separate [] line h is = (is, tt)
all_separate (l ∷ lines) line h is = (h.0, all_separate lines line h.1 is)

begins_apart : (others : List (List ℕ)) (line : List ℕ) → BeginsApart others
    → IsTrue (is_separator line) → BeginsApart (others ++ line ∷ [])
begins_apart [] line h is = is
begins_apart (o ∷ others) line h is = h

-- a separator after stanzas
pub AreStanzas-separator : (ss : List (List Entry)) (lines : List (List ℕ)) (line : List ℕ)
    → AreStanzas ss lines → IsTrue (is_separator line) → AreStanzas ss (lines ++ line ∷ [])
AreStanzas-separator [] lines line h is = all_separate lines line h is
AreStanzas-separator (s ∷ ss) lines line h is = (
  h.0,
  h.1,
  h.2 ++ line ∷ [],
  ap (λ (l : List (List ℕ)). l ++ line ∷ []) h.3 ∙ append_assoc h.0 (h.1 ++ h.2) (line ∷ [])
      ∙ ap (λ (l : List (List ℕ)). h.0 ++ l) (append_assoc h.1 h.2 (line ∷ [])),
  h.4,
  h.5,
  begins_apart h.2 line h.6 is,
  AreStanzas-separator ss h.2 line h.7 is,
)

-- ---- the lines read so far

-- the stanzas with the one that these fields are of, if there are any
abbrev pub closed : List (List Entry) → List Entry → List (List Entry)
closed ss [] = ss
closed ss (f ∷ fs) = ss ++ (f ∷ fs) ∷ []

pub before_closed : (fs : List Entry) (lines : List (List ℕ)) (b : IsBefore fs lines)
    → AreStanzas (closed b.stanzas fs) lines
before_closed [] lines b =
    subst (AreStanzas b.stanzas)
    (sym (b.parts ∙ ap (λ (l : List (List ℕ)). b.earlier ++ l) b.current ∙ append-nil b.earlier))
    b.whole
before_closed (f ∷ fs) lines b =
    subst (AreStanzas (b.stanzas ++ (f ∷ fs) ∷ [])) (sym b.parts)
    (AreStanzas-snoc b.stanzas (f ∷ fs) b.earlier b.own true b.whole b.apart
    (record { filled = λ e. cc; fields = b.current; distinct = b.distinct }))

abbrev pub before_none : IsBefore [] []
before_none =
    record {
      stanzas = [];
      earlier = [];
      own = [];
      parts = refl;
      whole = tt;
      apart = refl;
      current = refl;
      distinct = tt;
    }

pub last_apart : (d : Bool) (lines : List (List ℕ)) (line : List ℕ) → IsTrue (is_separator line)
    → ends_apart d (lines ++ line ∷ []) ≡ true
last_apart d lines line is = ends_apart-append d lines (line ∷ []) ∙ is

abbrev pub before_separator : (fs : List Entry) (lines : List (List ℕ)) (line : List ℕ)
    → IsBefore fs lines → IsTrue (is_separator line) → IsBefore [] (lines ++ line ∷ [])
before_separator fs lines line b is = record {
  stanzas = closed b.stanzas fs;
  earlier = lines ++ line ∷ [];
  own = [];
  parts = sym (append-nil (lines ++ line ∷ []));
  whole = AreStanzas-separator (closed b.stanzas fs) lines line (before_closed fs lines b) is;
  apart = last_apart true lines line is;
  current = refl;
  distinct = tt;
}

abbrev pub before_field : (fs : List Entry) (f : Entry) (lines own : List (List ℕ))
    → IsBefore fs lines → IsField f own → has_name (names_of fs) f.name ≡ false
    → IsBefore (fs ++ f ∷ []) (lines ++ own)
before_field fs f lines own b is new = record {
  stanzas = b.stanzas;
  earlier = b.earlier;
  own = b.own ++ own;
  parts = ap (λ (l : List (List ℕ)). l ++ own) b.parts ∙ append_assoc b.earlier b.own own;
  whole = b.whole;
  apart = b.apart;
  current = AreFields-snoc fs f b.own own b.current is;
  distinct = subst (AreNew []) (sym (map-append (λ g. g.name) fs (f ∷ [])))
      (AreNew-snoc [] (names_of fs) f.name b.distinct new);
}

-- each stanza has a name once
pub all_distinct : (ss : List (List Entry)) (lines : List (List ℕ)) → AreStanzas ss lines
    → AllByRecursion IsDistinct ss
all_distinct [] lines h = tt
all_distinct (s ∷ ss) lines h = (h.5.distinct, all_distinct ss h.2 h.7)
