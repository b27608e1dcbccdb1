-- The names that are kept of a stanza's fields, and one more.
use Rattle.std.proofs.Common.{◌≡◌, ℕ, ◌<◌, ◌≤◌, Bool, true, false, cond, ◌||◌, List, [], ◌∷◌, ◌++◌}
use Rattle.std.proofs.Common.{length, take, drop, map, refl, sym, ap, subst, ◌∙◌, arith}
use Rattle.std.proofs.Common.{length-append}
use Rattle.std.specs.Char.{to_ascii_lowercase}
use Rattle.std.specs.HashSet.{contains, Updates}
use Rattle.std.specs.List.{list_any}
use Rattle.std.proofs.lemmas.List.{drop-append-le, drop_all, take-append-drop}
use Rattle.std.proofs.lemmas.List.Folds.{list_any-append}
use Rattle.td_text.proofs.SameTexts.{bytes_eq-swap}
use Rattle.td_stanza.specs.declared.entry.Field.{Field}
use Rattle.td_stanza.specs.declared.folded.FoldedName.{FoldedName}
use Rattle.td_stanza.specs.declared.names.Names.{Names}
use Rattle.td_stanza.specs.Field.{is_same_name}
use Rattle.td_stanza.specs.inner.FoldedNames.{same_folded}
use Rattle.td_stanza.specs.inner.NotedNames.{AreNoted, compared}

-- one of the first fields or one of the others
pub parted : (test : Field → Bool) (fields : List Field)
    → (list_any test (take compared fields) || list_any test (drop compared fields))
    ≡ list_any test fields
parted test fields =
    sym (list_any-append test (take compared fields) (drop compared fields))
    ∙ ap (list_any test) (take-append-drop compared fields)

same_name-swap : (a b : List ℕ) → is_same_name a b ≡ is_same_name b a
same_name-swap a b = bytes_eq-swap (map to_ascii_lowercase a) (map to_ascii_lowercase b)

either : (a b : Bool) → cond a true b ≡ (b || (a || false))
either true true = refl
either true false = refl
either false true = refl
either false false = refl

-- a name that isn't kept
pub noted_few : (names : Names) (others : List Field) (field : Field) → length others < compared
    → AreNoted names others → AreNoted names (others ++ field ∷ [])
noted_few names others field few noted = λ key.
    let none : drop compared others ≡ [] = drop_all compared others (omega arith) in
    let none_still : drop compared (others ++ field ∷ []) ≡ [] =
    drop_all compared (others ++ field ∷ []) (omega (arith, length-append others (field ∷ []))) in
    noted key ∙ ap (list_any (λ f. is_same_name key.name.now f.name.now)) (none ∙ sym none_still)

-- a name that is kept
pub noted_more : (old new : Names) (others : List Field) (field : Field) (own : FoldedName)
    → compared ≤ length others → AreNoted old others → field.name.now ≡ own.name.now
    → Updates same_folded old.further new.further own true → AreNoted new (others ++ field ∷ [])
noted_more old new others field own many noted same updates = λ key.
    let test : Field → Bool = λ f. is_same_name key.name.now f.name.now in
    let here : is_same_name own.name.now key.name.now ≡ test field =
    same_name-swap own.name.now key.name.now ∙ ap (is_same_name key.name.now) (sym same) in
    let more : drop compared (others ++ field ∷ []) ≡ drop compared others ++ field ∷ [] =
    drop-append-le compared others (field ∷ []) many in
    updates.0 key
    ∙ ap (λ b. cond b true (contains same_folded old.further key)) here
    ∙ ap (cond (test field) true) (noted key)
    ∙ either (test field) (list_any test (drop compared others))
    ∙ sym (list_any-append test (drop compared others) (field ∷ []))
    ∙ ap (list_any test) (sym more)

-- ---- the fields of the stanza that is read stand from a place on

pub noted_none : (names : Names) (fields : List Field) (first : ℕ) → first ≡ length fields
    → AreNoted names [] → AreNoted names (drop first fields)
noted_none names fields first is noted =
    let none : drop first fields ≡ [] = drop_all first fields (omega arith) in
    subst (AreNoted names) (sym none) noted

pub noted_from : (names : Names) (fields more slice : List Field) (first : ℕ) (field : Field)
    → first ≤ length fields → slice ≡ drop first fields → more ≡ fields ++ field ∷ []
    → AreNoted names (slice ++ field ∷ []) → AreNoted names (drop first more)
noted_from names fields more slice first field within slice_is more_is noted =
    let e : slice ++ field ∷ [] ≡ drop first more =
    ap (λ l. l ++ field ∷ []) slice_is ∙ sym (drop-append-le first fields (field ∷ []) within)
    ∙ ap (drop first) (sym more_is) in
    subst (AreNoted names) e noted
