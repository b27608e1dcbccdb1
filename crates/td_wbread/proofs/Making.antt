-- Lists that grow word by word, and name by name.
use Rattle.std.proofs.Common.{◌≡◌, ℕ, ◌+◌, ◌<◌, Bool, true, false, cond, List, [], ◌∷◌, ◌++◌}
use Rattle.std.proofs.Common.{length, take, map, get_or, Option, Some, None, sym, ap, ◌∙◌, arith}
use Rattle.std.proofs.Common.{append-nil}
use Rattle.std.specs.List.{filter, slice_get, cons_option}
use Rattle.std.specs.Option.{option_map}
use Rattle.std.proofs.lemmas.List.{take_more, take-map, length-map}
use Rattle.std.proofs.lemmas.List.Elements.{filter-append, filter_map-append}
use Rattle.std.proofs.lemmas.Option.{get_or_from_slice_get, slice_get-map}
use Rattle.td_relation.specs.Arch.{ArchWords}
use Rattle.td_wbread.specs.declared.word.Word.{Word}
use Rattle.td_wbread.specs.Archs.{chosen_names, is_chosen}
use Rattle.td_wbread.specs.Packages.{PackageText, package_at, packages_of}

-- ---- packages

next_package : (words : List Word) (i : ℕ) (word : Word) → i < length words
    → word ≡ get_or words i word → packages_of (take (i + 1) words)
    ≡ packages_of (take i words) ++ cons_option (package_at word.text) []
next_package words i word h is =
    ap packages_of (take_more words i word h ∙ ap (λ (w : Word). take i words ++ w ∷ []) (sym is))
    ∙ filter_map-append (λ (w : Word). package_at w.text) (take i words) (word ∷ [])

pub package_kept : (words : List Word) (i : ℕ) (word : Word) (seen : List PackageText)
    (p : PackageText) → i < length words → word ≡ get_or words i word
    → Some p ≡ package_at word.text → seen ≡ packages_of (take i words)
    → seen ++ p ∷ [] ≡ packages_of (take (i + 1) words)
package_kept words i word seen p h is found s =
    ap (λ (ps : List PackageText). ps ++ p ∷ []) s
    ∙ ap (λ (o : Option PackageText). packages_of (take i words) ++ cons_option o []) found
    ∙ sym (next_package words i word h is)

pub package_skipped : (words : List Word) (i : ℕ) (word : Word) (seen : List PackageText)
    → i < length words → word ≡ get_or words i word → None ≡ package_at word.text
    → seen ≡ packages_of (take i words) → seen ≡ packages_of (take (i + 1) words)
package_skipped words i word seen h is none s =
    s ∙ sym (append-nil (packages_of (take i words)))
    ∙ ap (λ (o : Option PackageText). packages_of (take i words) ++ cons_option o []) none
    ∙ sym (next_package words i word h is)

-- ---- names

next_name : (test : List ℕ → Bool) (table : List ArchWords) (i : ℕ) (name : List ℕ)
    → i < length table → option_map (λ (a : ArchWords). a.name) (slice_get table i) ≡ Some name
    → filter test (map (λ (a : ArchWords). a.name) (take (i + 1) table)) ≡ filter test
    (map (λ (a : ArchWords). a.name) (take i table)) ++ cond (test name) (name ∷ []) []
next_name test table i name h is =
    let names = map (λ (a : ArchWords). a.name) table in
    let inside : i < length names =
    (let e = length-map table (λ (a : ArchWords). a.name) in omega arith) in
    let here : get_or names i name ≡ name = get_or_from_slice_get names i name name
    (slice_get-map (λ (a : ArchWords). a.name) table i ∙ is) in
    ap (filter test) (sym (take-map (λ (a : ArchWords). a.name) (i + 1) table)
    ∙ take_more names i name inside ∙ ap (λ (n : List ℕ). take i names ++ n ∷ []) here)
    ∙ filter-append test (take i names) (name ∷ [])
    ∙ ap (λ (ns : List (List ℕ)). filter test ns ++ cond (test name) (name ∷ []) [])
    (take-map (λ (a : ArchWords). a.name) i table)

pub name_kept : (table : List ArchWords) (words : List Word) (i : ℕ) (name : List ℕ)
    (seen : List (List ℕ)) → i < length table
    → option_map (λ (a : ArchWords). a.name) (slice_get table i) ≡ Some name
    → is_chosen words name ≡ true → seen ≡ chosen_names (take i table) words
    → seen ++ name ∷ [] ≡ chosen_names (take (i + 1) table) words
name_kept table words i name seen h is taken s =
    ap (λ (ns : List (List ℕ)). ns ++ name ∷ []) s
    ∙ ap (λ (b : Bool). chosen_names (take i table) words ++ cond b (name ∷ []) []) (sym taken)
    ∙ sym (next_name (is_chosen words) table i name h is)

pub name_left : (table : List ArchWords) (words : List Word) (i : ℕ) (name : List ℕ)
    (seen : List (List ℕ)) → i < length table
    → option_map (λ (a : ArchWords). a.name) (slice_get table i) ≡ Some name
    → is_chosen words name ≡ false → seen ≡ chosen_names (take i table) words
    → seen ≡ chosen_names (take (i + 1) table) words
name_left table words i name seen h is left s =
    s ∙ sym (append-nil (chosen_names (take i table) words))
    ∙ ap (λ (b : Bool). chosen_names (take i table) words ++ cond b (name ∷ []) []) (sym left)
    ∙ sym (next_name (is_chosen words) table i name h is)
