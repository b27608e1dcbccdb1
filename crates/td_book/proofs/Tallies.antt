-- Counts of the rows that pass a test, and what one row more or less does to them.
use Rattle.std.proofs.Common.{◌≡◌, ℕ, zero, suc, ◌+◌, ◌<◌, ◌≤◌, Bool, true, false, ◌&&◌, not}
use Rattle.std.proofs.Common.{List, [], ◌∷◌, Option, Some, None, if◌then◌else◌, length, drop}
use Rattle.std.proofs.Common.{slice_get, ap, refl, sym, ◌∙◌, arith}
use Rattle.std.specs.Prelude.{IfSome, slice_index}
use Rattle.std.specs.Ordering.{is_lt}
use Rattle.std.proofs.lemmas.Bool.{and_parts}
use Rattle.std.proofs.lemmas.List.{drop_all}
use Rattle.std.proofs.lemmas.Option.{some_pair_parts}
use Rattle.std.proofs.Math.Bool.{and-false, and-true}
use Rattle.td_rows.specs.declared.key.Key.{Key}
use Rattle.td_rows.specs.declared.row.Row.{Row}
use Rattle.td_rows.specs.Keys.{key_cmp, same_key, names, below_all, ascending}
use Rattle.td_rows.specs.Limits.{max_rows}
use Rattle.td_rows.specs.States.{is_installed}
use Rattle.td_rows.specs.Table.{Table, row_of, keys_of, each_row, IsAt}
use Rattle.td_rows.proofs.Keys.{same_key-refl, same_key-apart, below-apart}
use Rattle.td_rows.proofs.Lists.{drop-next}
use Rattle.td_rows.proofs.Tables.{row_of-at, row_of-later, head-apart}
use Rattle.td_book.specs.Watching.{is_of, tally, is_there}
use Rattle.td_book.specs.inner.Tallies.{group_at, AreTallied, AllAre, IsStep, MayStep, was_there}
use Rattle.td_book.proofs.Steps.{named_here, unnamed_after}
use Rattle.td_naming.proofs.Numbered.{named_at}

-- ---- 1. tests that agree

-- they agree but at a key that is below those of all rows
tally-past : (test other : Key × Row → Bool) (k : Key) (g : ℕ) (ws : List (Option ℕ)) (t : Table)
    → below_all k (keys_of t) ≡ true
    → ((q : Key) (r : Row) → same_key q k ≡ false → test (q, r) ≡ other (q, r))
    → tally test g ws t ≡ tally other g ws t
tally-past test other k g [] t below h = refl
tally-past test other k g (w ∷ ws) [] below h = refl
tally-past test other k g (w ∷ ws) (p ∷ t) below h =
    let parts = and_parts (is_lt (key_cmp k p.0)) (below_all k (keys_of t)) below in
    ap (λ (b : Bool). (if is_of w g && b then 1 else 0) + tally test g ws t)
    (h p.0 p.1 (same_key-apart k p.0 (below-apart k p.0 parts.0)))
    ∙ ap (λ (n : ℕ). (if is_of w g && other p then 1 else 0) + n)
    (tally-past test other k g ws t parts.1 h)

-- ---- 2. one row more

here : (u x y : Bool) (m n : ℕ) → x ≡ true → y ≡ false → m ≡ n
    → (if u && x then 1 else 0) + m ≡ (if u then 1 else 0) + ((if u && y then 1 else 0) + n)
here true true false m n a b e = omega arith
here false true false m n a b e = omega arith
here u false y m n a b e = absurd (cc)
here u true true m n a b e = absurd (cc)

later : (a b w m n : ℕ) → a ≡ b → m ≡ w + n → a + m ≡ w + (b + n)
later a b w m n same e = omega arith

-- a test that the row with a number passes, and another that it doesn't: they agree on all others
pub tally-split : (test other : Key × Row → Bool) (k : Key) (row : Row) (g : ℕ)
    (ws : List (Option ℕ)) (t : Table) (i : ℕ)
    → ascending (keys_of t) ≡ true → slice_get t i ≡ Some (k, row) → test (k, row) ≡ true
    → other (k, row) ≡ false
    → ((q : Key) (r : Row) → same_key q k ≡ false → test (q, r) ≡ other (q, r))
    → tally test g ws t ≡ (if is_of (group_at ws i) g then 1 else 0) + tally other g ws t
tally-split test other k row g [] t zero up at passes fails apart = refl
tally-split test other k row g [] t (suc i) up at passes fails apart = refl
tally-split test other k row g (w ∷ ws) [] zero up at passes fails apart = cc
tally-split test other k row g (w ∷ ws) [] (suc i) up at passes fails apart = cc
tally-split test other k row g (w ∷ ws) (p ∷ t) zero up at passes fails apart =
    let parts = some_pair_parts p.0 k p.1 row at in
    let same : p ≡ (k, row) = λ j. (parts.0 j, parts.1 j) in
    let both = and_parts (below_all p.0 (keys_of t)) (ascending (keys_of t)) up in
    let below : below_all k (keys_of t) ≡ true =
    ap (λ (q : Key). below_all q (keys_of t)) (sym parts.0) ∙ both.0 in
    here (is_of w g) (test p) (other p) (tally test g ws t) (tally other g ws t)
    (ap test same ∙ passes) (ap other same ∙ fails) (tally-past test other k g ws t below apart)
tally-split test other k row g (w ∷ ws) (p ∷ t) (suc i) up at passes fails apart =
    let both = and_parts (below_all p.0 (keys_of t)) (ascending (keys_of t)) up in
    let off : same_key p.0 k ≡ false =
    head-apart p t k row both.0 (row_of-at t k i row both.1 at) in
    later (if is_of w g && test p then 1 else 0) (if is_of w g && other p then 1 else 0)
    (if is_of (group_at ws i) g then 1 else 0) (tally test g ws t) (tally other g ws t)
    (ap (λ (b : Bool). if is_of w g && b then 1 else 0) (apart p.0 p.1 off))
    (tally-split test other k row g ws t i both.1 at passes fails apart)

one_at_most : (b : Bool) → (if b then 1 else 0) ≤ 1
one_at_most true = omega arith
one_at_most false = omega arith

pub tally-bound : (test : Key × Row → Bool) (g : ℕ) (ws : List (Option ℕ)) (t : Table)
    → tally test g ws t ≤ length t
tally-bound test g [] t = omega arith
tally-bound test g (w ∷ ws) [] = omega arith
tally-bound test g (w ∷ ws) (p ∷ t) =
    let a = one_at_most (is_of w g && test p) in let b = tally-bound test g ws t in omega arith

-- ---- 3. other rows with the same keys

pub tally-each_row : (f : Key → Row → Row) (test other : Key × Row → Bool) (g : ℕ)
    (ws : List (Option ℕ)) (t : Table) → ascending (keys_of t) ≡ true
    → ((k : Key) (r : Row) → row_of t k ≡ Some r → test (k, f k r) ≡ other (k, r))
    → tally test g ws (each_row f t) ≡ tally other g ws t
tally-each_row f test other g [] t up h = refl
tally-each_row f test other g (w ∷ ws) [] up h = refl
tally-each_row f test other g (w ∷ ws) (p ∷ t) up h =
    let both = and_parts (below_all p.0 (keys_of t)) (ascending (keys_of t)) up in
    let first : test (p.0, f p.0 p.1) ≡ other p =
    h p.0 p.1 (ap (λ (b : Bool). if b then Some p.1 else row_of t p.0) (same_key-refl p.0)) in
    ap (λ (b : Bool). (if is_of w g && b then 1 else 0) + tally test g ws (each_row f t)) first
    ∙ ap (λ (n : ℕ). (if is_of w g && other p then 1 else 0) + n)
    (tally-each_row f test other g ws t both.1 (λ k r found.
    h k r (row_of-later p t k r both.0 found)))

-- ---- 4. key by key

-- of a named key whose row has a number: its state
named_row : (is : Bool) (keys : List Key) (t : Table) (i number : ℕ) (k : Key) → AllAre is keys t
    → ascending (keys_of t) ≡ true → slice_get keys i ≡ Some k
    → (at : IsAt t k number) → names keys k ≡ true → is_installed at.row.state ≡ is
named_row is keys t i number k all up key at named =
    let found = all.each k named in
    let same : Some found.0 ≡ Some at.row = sym found.1 ∙ row_of-at t k number at.row up at.at in
    let rows : found.0 ≡ at.row = cc in
    ap (λ (r : Row). is_installed r.state) (sym rows) ∙ found.2

pub no_row : (is : Bool) (keys : List Key) (t : Table) (i : ℕ) (k : Key) → AllAre is keys t
    → slice_get keys i ≡ Some k → row_of t k ≡ None → ⊥
no_row is keys t i k all key none =
    let found = all.each k (named_at keys i k key) in
    let bad : None ≡ Some found.0 = sym none ∙ found.1 in
    cc

unnamed_next : (keys : List Key) (i : ℕ) (k : Key) → ascending keys ≡ true
    → slice_get keys i ≡ Some k → names (drop (i + 1) keys) k ≡ false
unnamed_next keys i k rise at =
    let next : i + 1 ≡ suc i = omega arith in
    ap (λ (n : ℕ). names (drop n keys) k) next ∙ unnamed_after keys i k rise at

others_next : (keys : List Key) (i : ℕ) (k q : Key) → slice_get keys i ≡ Some k
    → same_key q k ≡ false → names (drop i keys) q ≡ names (drop (i + 1) keys) q
others_next keys i k q at apart =
    ap (λ (ks : List Key). names ks q) (drop-next keys i k at)
    ∙ ap (λ (b : Bool). if b then true else names (drop (i + 1) keys) q) apart

-- with a key less the row counts as it is now, and no more as it was
key_split : (there : Bool) (keys : List Key) (t : Table) (i number : ℕ) (k : Key)
    (ws : List (Option ℕ)) (g : ℕ)
    → ascending keys ≡ true → ascending (keys_of t) ≡ true → AllAre there keys t
    → slice_get keys i ≡ Some k → IsAt t k number
    → IsStep there (if is_of (group_at ws number) g then 1 else 0)
    (tally (was_there there (drop i keys)) g ws t)
    (tally (was_there there (drop (i + 1) keys)) g ws t)
key_split there keys t i number k ws g rise up all key at =
    by there was now (λ q r apart.
    ap (λ (b : Bool). if b then not there else is_installed r.state)
    (others_next keys i k q key apart))
  where
    old : Key × Row → Bool
    old = was_there there (drop i keys)

    new : Key × Row → Bool
    new = was_there there (drop (i + 1) keys)

    was : old (k, at.row) ≡ not there
    was = ap (λ (b : Bool). if b then not there else is_installed at.row.state)
        (named_here keys i k key)

    now : new (k, at.row) ≡ there
    now = ap (λ (b : Bool). if b then not there else is_installed at.row.state)
        (unnamed_next keys i k rise key)
        ∙ named_row there keys t i number k all up key at (named_at keys i k key)

    by : (b : Bool) → old (k, at.row) ≡ not b → new (k, at.row) ≡ b
        → ((q : Key) (r : Row) → same_key q k ≡ false → old (q, r) ≡ new (q, r))
        → IsStep b (if is_of (group_at ws number) g then 1 else 0) (tally old g ws t)
        (tally new g ws t)
    by true out into same = tally-split new old k at.row g ws t number up at.at into out
        (λ q r apart. sym (same q r apart))
    by false out into same = tally-split old new k at.row g ws t number up at.at out into same

pub step-next : (there : Bool) (keys : List Key) (t : Table) (i number : ℕ) (k : Key)
    (ws : List (Option ℕ)) (old new : List ℕ) → ascending keys ≡ true
    → ascending (keys_of t) ≡ true → AllAre there keys t → slice_get keys i ≡ Some k
    → IsAt t k number → AreTallied (was_there there (drop i keys)) old ws t
    → length new ≡ length old
    → ((g : ℕ) → g < length old
    → IsStep there (if is_of (group_at ws number) g then 1 else 0) (slice_index old g)
    (slice_index new g))
    → AreTallied (was_there there (drop (i + 1) keys)) new ws t
step-next there keys t i number k ws old new rise up all key at counts len each = record {
  each = λ g lt.
      let lt' : g < length old = omega arith in
      step there (if is_of (group_at ws number) g then 1 else 0) (slice_index old g)
      (slice_index new g) (tally (was_there there (drop i keys)) g ws t)
      (tally (was_there there (drop (i + 1) keys)) g ws t) (each g lt') (counts.each g lt')
      (key_split there keys t i number k ws g rise up all key at);
}
  where
    step : (b : Bool) (w m n x y : ℕ) → IsStep b w m n → m ≡ x → IsStep b w x y → n ≡ y
    step true w m n x y e f s = omega arith
    step false w m n x y e f s = omega arith

pub step-may : (there : Bool) (keys : List Key) (t : Table) (i number : ℕ) (k : Key)
    (ws : List (Option ℕ)) (old : List ℕ) (g : ℕ) → ascending keys ≡ true
    → ascending (keys_of t) ≡ true → AllAre there keys t → slice_get keys i ≡ Some k
    → IsAt t k number → AreTallied (was_there there (drop i keys)) old ws t
    → length t ≤ max_rows → g < length old → is_of (group_at ws number) g ≡ true
    → MayStep there (slice_index old g)
step-may there keys t i number k ws old g rise up all key at counts limited lt is =
    may there (slice_index old g) (tally (was_there there (drop i keys)) g ws t)
    (if is_of (group_at ws number) g then 1 else 0)
    (tally (was_there there (drop (i + 1) keys)) g ws t) (length t) (counts.each g lt)
    (key_split there keys t i number k ws g rise up all key at)
    (ap (λ (b : Bool). if b then 1 else 0) is)
    (tally-bound (was_there there (drop (i + 1) keys)) g ws t) limited
  where
    may : (b : Bool) (a x w y n : ℕ) → a ≡ x → IsStep b w x y → w ≡ 1 → y ≤ n → n ≤ max_rows
        → MayStep b a
    may true a x w y n e s o l m = omega arith
    may false a x w y n e s o l m = omega arith

-- ---- 5. counting anew

-- with the counts of the first rows, those that are left give the whole
pub record AreCounted (i : ℕ) (counts : List ℕ) (ws : List (Option ℕ)) (t : Table) : Type 0 where
  pub each : (g : ℕ) → g < length counts
      → slice_index counts g + tally is_there g (drop i ws) (drop i t) ≡ tally is_there g ws t

first_row : (g i : ℕ) (p : Key × Row) (ws : List (Option ℕ)) (t : Table) → slice_get t i ≡ Some p
    → tally is_there g (drop i ws) (drop i t)
    ≡ (if is_of (group_at ws i) g && is_there p then 1 else 0)
    + tally is_there g (drop (suc i) ws) (drop (suc i) t)
first_row g zero p [] t at = refl
first_row g (suc i) p [] t at = refl
first_row g zero p (w ∷ ws) [] at = cc
first_row g (suc i) p (w ∷ ws) [] at = cc
first_row g zero p (w ∷ ws) (q ∷ t) at =
    let same : q ≡ p = cc in
    ap (λ (x : Key × Row). (if is_of w g && is_there x then 1 else 0) + tally is_there g ws t) same
first_row g (suc i) p (w ∷ ws) (q ∷ t) at = first_row g i p ws t at

next_row : (g i : ℕ) (p : Key × Row) (ws : List (Option ℕ)) (t : Table) → slice_get t i ≡ Some p
    → tally is_there g (drop i ws) (drop i t)
    ≡ (if is_of (group_at ws i) g && is_there p then 1 else 0)
    + tally is_there g (drop (i + 1) ws) (drop (i + 1) t)
next_row g i p ws t at =
    let next : suc i ≡ i + 1 = omega arith in
    first_row g i p ws t at
    ∙ ap (λ (n : ℕ). (if is_of (group_at ws i) g && is_there p then 1 else 0)
    + tally is_there g (drop n ws) (drop n t)) next

more : (a b w x y s : ℕ) → b + x ≡ s → x ≡ w + y → a ≡ w + b → a + y ≡ s
more a b w x y s e f h = omega arith

pub counted-there : (i : ℕ) (p : Key × Row) (old new : List ℕ) (ws : List (Option ℕ)) (t : Table)
    → slice_get t i ≡ Some p → is_there p ≡ true → length new ≡ length old
    → ((g : ℕ) → g < length old
    → slice_index new g ≡ (if is_of (group_at ws i) g then 1 else 0) + slice_index old g)
    → AreCounted i old ws t → AreCounted (i + 1) new ws t
counted-there i p old new ws t at there len each counted = record {
  each = λ g lt.
      let lt' : g < length old = omega arith in
      let one : (if is_of (group_at ws i) g && is_there p then 1 else 0)
      ≡ (if is_of (group_at ws i) g then 1 else 0) =
      ap (λ (b : Bool). if is_of (group_at ws i) g && b then 1 else 0) there
      ∙ ap (λ (b : Bool). if b then 1 else 0) (and-true (is_of (group_at ws i) g)) in
      more (slice_index new g) (slice_index old g) (if is_of (group_at ws i) g then 1 else 0)
      (tally is_there g (drop i ws) (drop i t))
      (tally is_there g (drop (i + 1) ws) (drop (i + 1) t)) (tally is_there g ws t)
      (counted.each g lt') (next_row g i p ws t at
      ∙ ap (λ (n : ℕ). n + tally is_there g (drop (i + 1) ws) (drop (i + 1) t)) one) (each g lt');
}

pub counted-idle : (i : ℕ) (p : Key × Row) (counts : List ℕ) (ws : List (Option ℕ)) (t : Table)
    → slice_get t i ≡ Some p → is_there p ≡ false → AreCounted i counts ws t
    → AreCounted (i + 1) counts ws t
counted-idle i p counts ws t at idle counted = record {
  each = λ g lt.
      let none : (if is_of (group_at ws i) g && is_there p then 1 else 0) ≡ 0 =
      ap (λ (b : Bool). if is_of (group_at ws i) g && b then 1 else 0) idle
      ∙ ap (λ (b : Bool). if b then 1 else 0) (and-false (is_of (group_at ws i) g)) in
      more (slice_index counts g) (slice_index counts g) 0 (tally is_there g (drop i ws) (drop i t))
      (tally is_there g (drop (i + 1) ws) (drop (i + 1) t)) (tally is_there g ws t)
      (counted.each g lt) (next_row g i p ws t at
      ∙ ap (λ (n : ℕ). n + tally is_there g (drop (i + 1) ws) (drop (i + 1) t)) none) (omega arith);
}

pub counted-bound : (i : ℕ) (counts : List ℕ) (ws : List (Option ℕ)) (t : Table) (g : ℕ)
    → g < length counts → length t ≤ max_rows → AreCounted i counts ws t
    → slice_index counts g ≤ max_rows
counted-bound i counts ws t g lt limited counted =
    bound (slice_index counts g) (tally is_there g (drop i ws) (drop i t)) (tally is_there g ws t)
    (length t) (counted.each g lt) (tally-bound is_there g ws t) limited
  where
    bound : (a x s n : ℕ) → a + x ≡ s → s ≤ n → n ≤ max_rows → a ≤ max_rows
    bound a x s n e b l = omega arith

tally-none : (g : ℕ) (ws : List (Option ℕ)) → tally is_there g ws [] ≡ 0
tally-none g [] = refl
tally-none g (w ∷ ws) = refl

pub counted-last : (i : ℕ) (counts : List ℕ) (ws : List (Option ℕ)) (t : Table) → length t ≤ i
    → AreCounted i counts ws t → AreTallied is_there counts ws t
counted-last i counts ws t end counted = record {
  each = λ g lt.
      let none : tally is_there g (drop i ws) (drop i t) ≡ 0 =
      ap (tally is_there g (drop i ws)) (drop_all i t end) ∙ tally-none g (drop i ws) in
      last (slice_index counts g) (tally is_there g (drop i ws) (drop i t)) (tally is_there g ws t)
      (counted.each g lt) none;
}
  where
    last : (a x s : ℕ) → a + x ≡ s → x ≡ 0 → a ≡ s
    last a x s e n = omega arith

-- whether the row with a number is Installed
pub is_row : (t : Table) (i : ℕ) (b : Bool) → i < length t
    → IfSome (slice_get t i) (λ p. b ≡ is_there p)
    → (p : Key × Row) × (slice_get t i ≡ Some p) × (b ≡ is_there p)
is_row [] i b within h = absurd (omega arith)
is_row (p ∷ t) zero b within h = (p, refl, h)
is_row (p ∷ t) (suc i) b within h = is_row t i b (omega arith) h
