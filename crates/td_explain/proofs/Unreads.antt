-- The field that is looked for, and the pieces of its value that are left.
use Rattle.std.proofs.Common.{◌≡◌, ℕ, ◌-◌, true, false, List, ◌∷◌, Option, Some, None}
use Rattle.std.proofs.Common.{IfSome, option_map, slice_get, refl, sym, ap, ◌∙◌, subst}
use Rattle.std.specs.Borrow.{Bor}
use Rattle.td_text.specs.Lines.{lines_of, pieces_left, pieces_of}
use Rattle.td_stanza.specs.Field.{Entry}
use Rattle.td_stanza.specs.StanzaGrammar.{AreStanzas}
use Rattle.td_stanza.specs.Table.{AnswersOnly, HasField}
use Rattle.std.proofs.Common.{Result, Ok, Err, IfOk}
use Rattle.td_explain.specs.Unread.{IsUnread, IsValue, first_unread, is_read, unread_in}

-- ---- the pieces that are left

-- what is left of a value begins with its next piece
begins : (o : Option (Bor (List ℕ))) (t : Bor (List ℕ)) (piece : List ℕ) (after : List (List ℕ))
    (total : Option (List ℕ)) → o ≡ Some t → pieces_of 44 t.now ≡ piece ∷ after
    → first_unread (pieces_left 44 o) ≡ total → first_unread (piece ∷ after) ≡ total
begins o t piece after total is cut h =
    sym (ap first_unread (ap (pieces_left 44) is ∙ cut)) ∙ h

after_read : (piece : List ℕ) (after : List (List ℕ)) (total : Option (List ℕ))
    → is_read piece ≡ true → first_unread (piece ∷ after) ≡ total → first_unread after ≡ total
unfolding first_unread
after_read piece after total read h = sym (rw read refl) ∙ h

at_unread : (piece : List ℕ) (after : List (List ℕ)) (total : Option (List ℕ))
    → is_read piece ≡ false → first_unread (piece ∷ after) ≡ total → Some piece ≡ total
unfolding first_unread
at_unread piece after total unread h = sym (rw unread refl) ∙ h

-- the next piece can be read
pub passes : (o : Option (Bor (List ℕ))) (t : Bor (List ℕ)) (piece : List ℕ)
    (after : List (List ℕ)) (total : Option (List ℕ)) → o ≡ Some t
    → pieces_of 44 t.now ≡ piece ∷ after → is_read piece ≡ true
    → first_unread (pieces_left 44 o) ≡ total → first_unread after ≡ total
passes o t piece after total is cut read h =
    after_read piece after total read (begins o t piece after total is cut h)

-- the next piece can't be read
pub stands : (o : Option (Bor (List ℕ))) (t : Bor (List ℕ)) (piece : List ℕ)
    (after : List (List ℕ)) (total : Option (List ℕ)) → o ≡ Some t
    → pieces_of 44 t.now ≡ piece ∷ after → is_read piece ≡ false
    → first_unread (pieces_left 44 o) ≡ total → Some piece ≡ total
stands o t piece after total is cut unread h =
    at_unread piece after total unread (begins o t piece after total is cut h)

-- no piece is left
pub ends : (o : Option (Bor (List ℕ))) (total : Option (List ℕ)) → o ≡ None
    → first_unread (pieces_left 44 o) ≡ total → None ≡ total
unfolding first_unread
ends None total is h = h
ends (Some t) total is h = absurd cc

-- ---- the field

-- what holds of an answer that is lent holds of its text
lent : (P : List ℕ → Type 0) (r : Option (Bor (List ℕ))) → IfSome r (λ v. P v.now)
    → IfSome (option_map (λ (x : Bor (List ℕ)). x.now) r) P
lent P None holds = tt
lent P (Some v) holds = holds

abbrev or_else : List Entry → Option (List Entry) → List Entry
or_else other None = other
or_else other (Some fields) = fields

same_some : (a b : List Entry) → Some a ≡ Some b → a ≡ b
same_some a b same = ap (or_else a) same

-- the answer is the value of the field: the stanzas that were found are the text's only ones
value_of : (number : ℕ) (name text : List ℕ) (list : List (List Entry)) (fields : List Entry)
    (answer : Option (List ℕ)) → AreStanzas list (lines_of text)
    → ((all : List (List Entry)) → AreStanzas all (lines_of text) → list ≡ all)
    → Some fields ≡ slice_get list (number - 1)
    → IfSome answer (λ value. HasField fields name value) → AnswersOnly fields name answer
    → IsValue number name text answer
value_of number name text list fields answer are one there has only = λ value. (
  λ is. record {
    stanzas = list;
    are = are;
    fields = fields;
    there = sym there;
    has = subst (λ a. IfSome a (λ v. HasField fields name v)) is has;
  },
  λ it.
      let same : Some it.fields ≡ Some fields =
      sym it.there ∙ ap (λ l. slice_get l (number - 1)) (sym (one it.stanzas it.are)) ∙ sym there in
      only value (subst (λ f. HasField f name value) (same_some it.fields fields same) it.has),
)

pub value_found : (number i : ℕ) (name text : List ℕ) (list : List (List Entry))
    (fields : List Entry) (r : Option (Bor (List ℕ))) → i ≡ number - 1
    → AreStanzas list (lines_of text)
    → ((all : List (List Entry)) → AreStanzas all (lines_of text) → list ≡ all)
    → Some fields ≡ slice_get list i → IfSome r (λ value. HasField fields name value.now)
    → AnswersOnly fields name (option_map (λ (x : Bor (List ℕ)). x.now) r)
    → IsValue number name text (option_map (λ (x : Bor (List ℕ)). x.now) r)
value_found number i name text list fields r index are one there has only =
    value_of number name text list fields (option_map (λ (x : Bor (List ℕ)). x.now) r) are one
    (subst (λ n. Some fields ≡ slice_get list n) index there)
    (lent (λ value. HasField fields name value) r has) only

-- the value that was answered
pub value_given : {E : Type 0} (number : ℕ) (name text : List ℕ)
    (r : Result (Option (Bor (List ℕ))) E) (found : Option (Bor (List ℕ))) → r ≡ Ok found
    → IfOk r (λ answer. IsValue number name text
    (option_map (λ (x : Bor (List ℕ)). x.now) answer))
    → IsValue number name text (option_map (λ (x : Bor (List ℕ)). x.now) found)
value_given number name text r found same is =
    subst (λ x. IfOk x (λ answer. IsValue number name text
    (option_map (λ (y : Bor (List ℕ)). y.now) answer))) same is

-- the first piece of the field's value that can't be read is the one that is looked for
pub unread_found : {E : Type 0} (number : ℕ) (name text value : List ℕ)
    (r : Result (Option (Bor (List ℕ))) E) → IsValue number name text (Some value)
    → IfOk r (λ found. option_map (λ (x : Bor (List ℕ)). x.now) found ≡ unread_in value)
    → IfOk r (λ found. IsUnread number name text
    (option_map (λ (x : Bor (List ℕ)). x.now) found))
unread_found number name text value (Ok found) is same = (Some value, is, same)
unread_found number name text value (Err e) is same = tt
