-- Texts, each once if it comes several times on end: what one more adds.
use Rattle.std.proofs.Common.{◌≡◌, ℕ, Bool, true, false, List, Option, None, Some, [], ◌∷◌, ◌++◌}
use Rattle.std.proofs.Common.{map, take, length, get_or, ◌<◌, ◌+◌, refl, sym, ap, ◌∙◌, append_assoc}
use Rattle.std.proofs.Common.{if◌then◌else◌}
use Rattle.std.proofs.lemmas.List.{append-nil, map-append, take_more}
use Rattle.td_report.specs.declared.item.Item.{Item}
use Rattle.td_report.specs.inner.ItemLines.{source_of}
use Rattle.td_text.specs.Lines.{text_of}
use Rattle.td_report.specs.Report.{each_once, is_last}
use Rattle.td_report.proofs.Texts.{text_of-append}

-- the last of texts, after a last one
abbrev pub last_of : Option (List ℕ) → List (List ℕ) → Option (List ℕ)
last_of last [] = last
last_of last (text ∷ texts) = last_of (Some text) texts

pub last-push : (last : Option (List ℕ)) (texts : List (List ℕ)) (text : List ℕ)
    → last_of last (texts ++ text ∷ []) ≡ Some text
last-push last [] text = refl
last-push last (first ∷ texts) text = last-push (Some first) texts text

pub once-push : (last : Option (List ℕ)) (texts : List (List ℕ)) (text : List ℕ)
    → each_once last (texts ++ text ∷ []) ≡ each_once last texts
    ++ (if is_last (last_of last texts) text then [] else text ∷ [])
once-push last [] text = append-nil (if is_last last text then [] else text ∷ [])
once-push last (first ∷ texts) text =
    ap (λ (l : List (List ℕ)). (if is_last last first then [] else first ∷ []) ++ l)
    (once-push (Some first) texts text)
    ∙ sym (append_assoc (if is_last last first then [] else first ∷ [])
    (each_once (Some first) texts)
    (if is_last (last_of (Some first) texts) text then [] else text ∷ []))

-- a text that isn't the last one adds a line
pub text-new : (texts : List (List ℕ)) (text : List ℕ) → is_last (last_of None texts) text ≡ false
    → text_of (each_once None (texts ++ text ∷ [])) ≡ text_of (each_once None texts)
    ++ (text ++ 10 ∷ [])
text-new texts text other =
    ap (λ (l : List (List ℕ)). text_of l)
    (once-push None texts text
    ∙ ap (λ (b : Bool). each_once None texts ++ (if b then [] else text ∷ [])) other)
    ∙ text_of-append (each_once None texts) (text ∷ [])
    ∙ ap (λ (t : List ℕ). text_of (each_once None texts) ++ t) (append-nil (text ++ 10 ∷ []))

-- a text that is the last one adds nothing
pub text-same : (texts : List (List ℕ)) (text : List ℕ) → is_last (last_of None texts) text ≡ true
    → text_of (each_once None (texts ++ text ∷ [])) ≡ text_of (each_once None texts)
text-same texts text same =
    ap (λ (l : List (List ℕ)). text_of l)
    (once-push None texts text
    ∙ ap (λ (b : Bool). each_once None texts ++ (if b then [] else text ∷ [])) same
    ∙ append-nil (each_once None texts))

-- one source more
pub sources-more : (items : List Item) (i : ℕ) (item : Item) (source : List ℕ) → i < length items
    → item ≡ get_or items i item → source ≡ item.key.now.source
    → map source_of (take (i + 1) items) ≡ map source_of (take i items) ++ source ∷ []
sources-more items i item source lt is named =
    ap (λ (l : List Item). map source_of l) (take_more items i item lt)
    ∙ map-append source_of (take i items) (get_or items i item ∷ [])
    ∙ ap (λ (s : List ℕ). map source_of (take i items) ++ s ∷ [])
    (ap source_of (sym is) ∙ sym named)
