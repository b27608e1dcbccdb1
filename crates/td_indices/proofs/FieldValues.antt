-- What a look-up by a field's name gives, as a function of the fields.
use Rattle.std.proofs.Common.{◌≡◌, ℕ, List, Option, Some, None, option_map, sym, ap, ◌∙◌, refl}
use Rattle.std.specs.Prelude.{IfSome}
use Rattle.std.specs.Borrow.{Bor}
use Rattle.std.specs.List.{find}
use Rattle.td_stanza.specs.Field.{Entry}
use Rattle.td_stanza.specs.StanzaGrammar.{IsDistinct}
use Rattle.td_stanza.specs.Table.{HasField, AnswersOnly}
use Rattle.td_stanza.proofs.Lookups.{is_named, find_there, only_named}
use Rattle.td_indices.specs.Fields.{value_of}

nothing : (fields : List Entry) (name : List ℕ) → find (is_named name) fields ≡ None
    → IsDistinct fields → (r : Option (Bor (List ℕ))) → IfSome r (λ v. HasField fields name v.now)
    → option_map (λ x. x.now) r ≡ None
nothing fields name gone distinct None found = refl
nothing fields name gone distinct (Some v) found =
    absurd (let bad = sym (ap (option_map (λ (f : Entry). f.value)) gone)
    ∙ only_named name v.now fields distinct found in cc)

pub value_is : (fields : List Entry) (name : List ℕ) (r : Option (Bor (List ℕ))) → IsDistinct fields
    → IfSome r (λ v. HasField fields name v.now)
    → AnswersOnly fields name (option_map (λ x. x.now) r)
    → option_map (λ x. x.now) r ≡ value_of fields name
value_is fields name r distinct found only = by (find (is_named name) fields) refl
  where
    by : (o : Option Entry) → find (is_named name) fields ≡ o
        → option_map (λ x. x.now) r
        ≡ option_map (λ (f : Entry). f.value) (find (is_named name) fields)
    by None e =
        nothing fields name e distinct r found ∙ sym (ap (option_map (λ (f : Entry). f.value)) e)
    by (Some f) e =
        only f.value (find_there name fields f e) ∙ sym (ap (option_map (λ (f : Entry). f.value)) e)
