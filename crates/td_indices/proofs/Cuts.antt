-- The stanzas of a text that is cut at an empty line.
use Rattle.std.proofs.Common.{◌≡◌, ℕ, List, [], ◌∷◌, ◌++◌, sym, ap, subst, ◌∙◌, append_assoc}
use Rattle.td_text.specs.Lines.{lines_of}
use Rattle.td_text.proofs.CutLines.{lines_of-cut}
use Rattle.td_stanza.specs.Field.{Entry}
use Rattle.td_stanza.specs.StanzaGrammar.{AllSeparate, AreStanzas, BeginsApart}
use Rattle.td_indices.specs.inner.Pieces.{IsCutApart}

separate-append : (a b : List (List ℕ)) → AllSeparate a → AllSeparate b
    → AllSeparate (a ++ b)
separate-append [] b h k = k
separate-append (l ∷ a) b h k = (h.0, separate-append a b h.1 k)

-- separators before stanzas
separators_first : (ys : List (List Entry)) (a b : List (List ℕ)) → AllSeparate a
    → AreStanzas ys b → AreStanzas ys (a ++ b)
separators_first [] a b h k = separate-append a b h k
separators_first (y ∷ ys) a b h k = (
  a ++ k.0,
  k.1,
  k.2,
  ap (λ (l : List (List ℕ)). a ++ l) k.3 ∙ sym (append_assoc a k.0 (k.1 ++ k.2)),
  separate-append a k.0 h k.4,
  k.5,
  k.6,
  k.7,
)

apart_first : (a b : List (List ℕ)) → BeginsApart a → BeginsApart b → BeginsApart (a ++ b)
apart_first [] b h k = k
apart_first (l ∷ a) b h k = h

-- the stanzas of the front and of the rest
AreStanzas-append : (xs ys : List (List Entry)) (a b : List (List ℕ)) → AreStanzas xs a
    → AreStanzas ys b → BeginsApart b → AreStanzas (xs ++ ys) (a ++ b)
AreStanzas-append [] ys a b h k apart = separators_first ys a b h k
AreStanzas-append (x ∷ xs) ys a b h k apart = (
  h.0,
  h.1,
  h.2 ++ b,
  ap (λ (l : List (List ℕ)). l ++ b) h.3 ∙ append_assoc h.0 (h.1 ++ h.2) b
      ∙ ap (λ (l : List (List ℕ)). h.0 ++ l) (append_assoc h.1 h.2 b),
  h.4,
  h.5,
  apart_first h.2 b h.6 apart,
  AreStanzas-append xs ys h.2 b h.7 k apart,
)

cut_between : (before behind : List ℕ) (front rest : List (List Entry))
    → BeginsApart (lines_of behind) → AreStanzas front (lines_of before)
    → AreStanzas rest (lines_of behind)
    → AreStanzas (front ++ rest) (lines_of (before ++ 10 ∷ behind))
cut_between before behind front rest apart h k =
    subst (AreStanzas (front ++ rest)) (sym (lines_of-cut before behind))
    (AreStanzas-append front rest (lines_of before) (lines_of behind) h k apart)

-- the stanzas of a text by those of its parts
pub cut_stanzas : (text before behind : List ℕ) (front rest all : List (List Entry))
    → IsCutApart text before behind → all ≡ front ++ rest
    → AreStanzas front (lines_of before) → AreStanzas rest (lines_of behind)
    → AreStanzas all (lines_of text)
cut_stanzas text before behind front rest all cut is h k =
    subst (λ (t : List ℕ). AreStanzas all (lines_of t)) (sym cut.parts)
    (subst (λ (ss : List (List Entry)). AreStanzas ss (lines_of (before ++ 10 ∷ behind)))
    (sym is) (cut_between before behind front rest cut.apart h k))
