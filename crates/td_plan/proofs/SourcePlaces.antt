-- The lines of a source, with those of one wait, one relation or one place more.
use Rattle.std.proofs.Common.{◌≡◌, ℕ, ◌+◌, ◌<◌, Bool, true, false, cond, List, [], ◌∷◌, ◌++◌}
use Rattle.std.proofs.Common.{length}
use Rattle.std.proofs.Common.{get_or, map, suc, take, None, Option, Some, option_map, slice_get}
use Rattle.std.proofs.Common.{refl, sym, ap, ap₂}
use Rattle.std.proofs.Common.{◌∙◌, append_assoc, append-nil, arith}
use Rattle.std.specs.Prelude.{filter}
use Rattle.std.specs.Borrow.{Bor}
use Rattle.std.specs.Slice.{IsItemAt}
use Rattle.std.specs.List.{flat_map, range_with_len}
use Rattle.std.proofs.lemmas.List.Concat.{flat_map-append}
use Rattle.std.proofs.lemmas.List.Elements.{filter-append}
use Rattle.std.proofs.lemmas.List.Folds.{flat_map-map}
use Rattle.std.proofs.lemmas.Option.{slice_get_past, slice_get_read}
use Rattle.td_text.specs.Lines.{text_of}
use Rattle.td_text.proofs.Anywhere.{range-more}
use Rattle.td_relation.specs.Arch.{ArchWords}
use Rattle.td_rows.specs.declared.key.Key.{Key}
use Rattle.td_plan.specs.declared.waits.Wait.{Wait}
use Rattle.td_plan.specs.declared.waits.Waits.{Waits}
use Rattle.td_plan.specs.Lines.{check_line}
use Rattle.td_plan.specs.Premises.{arch_at}
use Rattle.td_plan.specs.inner.Writing.{checks_at, checks_of, key_on, no_waits_at, no_waits_of}
use Rattle.td_plan.proofs.SourceTexts.{checks-more, lines-more, list-is, name-is, text_of-append}

-- an item of a list as a call finds it
pub item-at : {X : Type 0} (xs : List X) (i : ℕ) (r : Option (Bor X)) → IsItemAt xs i r
    → option_map (λ (x : Bor X). x.now) r ≡ slice_get xs i
item-at xs i None h = sym (slice_get_past xs i h.3)
item-at xs i (Some x) h = sym (slice_get_read xs (length xs) i x.now refl h.3.0 h.1)

-- ---- 1. a text with something more

-- what was appended is of the same text
pub text-more : (start old new done piece next : List ℕ) → old ≡ start ++ done
    → new ≡ old ++ piece → next ≡ done ++ piece → new ≡ start ++ next
text-more start old new done piece next was more is =
    more ∙ ap (λ (t : List ℕ). t ++ piece) was ∙ append_assoc start done piece
    ∙ ap (λ (t : List ℕ). start ++ t) (sym is)

-- the comment on a wait for a package of an older version
pub check-older : (k : Key) (ws : List Wait) (i : ℕ) (w : Wait) (start old new : List ℕ)
    → i < length ws → w ≡ get_or ws i w → w.is_older ≡ true
    → old ≡ start ++ text_of (checks_of k (take i ws))
    → new ≡ old ++ (check_line k w.name.now w.on.now ++ 10 ∷ [])
    → new ≡ start ++ text_of (checks_of k (take (i + 1) ws))
check-older k ws i w start old new low is older was more =
    let done = text_of (checks_of k (take i ws)) in
    let piece = check_line k w.name.now w.on.now ++ 10 ∷ [] in
    text-more start old new done piece (text_of (checks_of k (take (i + 1) ws))) was more
    (checks-more k ws i w low is ∙ ap (λ (b : Bool). done ++ cond b piece []) older)

-- none on another
pub check-present : (k : Key) (ws : List Wait) (i : ℕ) (w : Wait) (start old new : List ℕ)
    → i < length ws → w ≡ get_or ws i w → w.is_older ≡ false
    → old ≡ start ++ text_of (checks_of k (take i ws)) → new ≡ old
    → new ≡ start ++ text_of (checks_of k (take (i + 1) ws))
check-present k ws i w start old new low is present was same =
    let done = text_of (checks_of k (take i ws)) in
    let piece = check_line k w.name.now w.on.now ++ 10 ∷ [] in
    same ∙ was ∙ ap (λ (t : List ℕ). start ++ t) (sym (checks-more k ws i w low is
    ∙ ap (λ (b : Bool). done ++ cond b piece []) present ∙ append-nil done))

-- ---- 2. the lines at a place

-- the key of a source on the architecture there
pub key-named : (table names : List ArchWords) (source name : List ℕ) (place : ℕ)
    → names ≡ table → option_map (λ (a : ArchWords). a.name) (slice_get names place) ≡ Some name
    → key_on table source place ≡ record { source = source; arch = name }
key-named table names source name place tables named =
    let arch : arch_at table place ≡ name =
    ap (λ (t : List ArchWords). arch_at t place) (sym tables)
    ∙ name-is (λ (a : ArchWords). a.name) (slice_get names place) name named in
    λ i. record { source = source; arch = arch i }

pub checks-place : (table names : List ArchWords) (all : List Waits) (source name : List ℕ)
    (place : ℕ) (w : Waits) (waits : List Wait) → names ≡ table
    → option_map (λ (a : ArchWords). a.name) (slice_get names place) ≡ Some name
    → place < length all → w ≡ get_or all place w → waits ≡ w.waits.items
    → checks_of (record { source = source; arch = name }) waits
    ≡ checks_at table source all place
checks-place table names all source name place w waits tables named low is its =
    ap₂ checks_of (sym (key-named table names source name place tables named))
    (its ∙ sym (list-is (λ (v : Waits). v.waits.items) all place w low is))

pub no-waits-place : (table names : List ArchWords) (all : List Waits) (source name : List ℕ)
    (place : ℕ) (w : Waits) (waitless : List (Bor (List ℕ))) → names ≡ table
    → option_map (λ (a : ArchWords). a.name) (slice_get names place) ≡ Some name
    → place < length all → w ≡ get_or all place w → waitless ≡ w.waitless.items
    → no_waits_of (record { source = source; arch = name }) waitless
    ≡ no_waits_at table source all place
no-waits-place table names all source name place w waitless tables named low is its =
    ap₂ no_waits_of (sym (key-named table names source name place tables named))
    (its ∙ sym (list-is (λ (v : Waits). v.waitless.items) all place w low is))

-- ---- 3. one item more

-- lines of what is made of one item more
pub mapped-more : {A B : Type 0} (f : A → B) (F : B → List (List ℕ)) (xs : List A) (i : ℕ) (x : A)
    → i < length xs → x ≡ get_or xs i x
    → text_of (flat_map F (map f (take (i + 1) xs)))
    ≡ text_of (flat_map F (map f (take i xs))) ++ text_of (F (f x))
mapped-more {A} f F xs i x low is =
    ap text_of (flat_map-map F f (take (i + 1) xs))
    ∙ lines-more (λ (y : A). F (f y)) xs i x low is
    ∙ ap (λ (l : List (List ℕ)). text_of l ++ text_of (F (f x)))
    (sym (flat_map-map F f (take i xs)))

-- the numbers below another, with that one
pub range-next : (n : ℕ) → range_with_len 0 (n + 1) ≡ range_with_len 0 n ++ n ∷ []
range-next n =
    let one : n + 1 ≡ suc n = omega arith in
    let it : 0 + n ≡ n = omega arith in
    ap (range_with_len 0) one ∙ range-more 0 n
    ∙ ap (λ (k : ℕ). range_with_len 0 n ++ k ∷ []) it

-- lines of one number more
pub range-lines : (F : ℕ → List (List ℕ)) (n : ℕ)
    → text_of (flat_map F (range_with_len 0 (n + 1)))
    ≡ text_of (flat_map F (range_with_len 0 n)) ++ text_of (F n)
range-lines F n =
    ap (λ (l : List ℕ). text_of (flat_map F l)) (range-next n)
    ∙ ap text_of (flat_map-append F (range_with_len 0 n) (n ∷ [])
    ∙ ap (λ (l : List (List ℕ)). flat_map F (range_with_len 0 n) ++ l) (append-nil (F n)))
    ∙ text_of-append (flat_map F (range_with_len 0 n)) (F n)

-- those that pass a test, with one more that does
pub range-passes : (test : ℕ → Bool) (n : ℕ) → test n ≡ true
    → filter test (range_with_len 0 (n + 1)) ≡ filter test (range_with_len 0 n) ++ n ∷ []
range-passes test n passes =
    ap (filter test) (range-next n) ∙ filter-append test (range_with_len 0 n) (n ∷ [])
    ∙ ap (λ (b : Bool). filter test (range_with_len 0 n) ++ cond b (n ∷ []) []) passes

-- or doesn't
pub range-fails : (test : ℕ → Bool) (n : ℕ) → test n ≡ false
    → filter test (range_with_len 0 (n + 1)) ≡ filter test (range_with_len 0 n)
range-fails test n fails =
    ap (filter test) (range-next n) ∙ filter-append test (range_with_len 0 n) (n ∷ [])
    ∙ ap (λ (b : Bool). filter test (range_with_len 0 n) ++ cond b (n ∷ []) []) fails
    ∙ append-nil (filter test (range_with_len 0 n))
