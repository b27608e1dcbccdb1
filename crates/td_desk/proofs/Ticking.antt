-- How ticks take receipts out of the changes of a book.
use Rattle.std.proofs.Common.{◌≡◌, ◌≢◌, ℕ, zero, suc, ◌+◌, ◌-◌, ◌<◌, ◌≤◌, Bool, true, false, not}
use Rattle.std.proofs.Common.{◌&&◌, ◌||◌, List, [], ◌∷◌, ◌++◌, length, refl, sym, ap, ◌∙◌, subst}
use Rattle.std.proofs.Common.{arith, append-nil, append_assoc, length-append, map, if◌then◌else◌}
use Rattle.std.proofs.Common.{take, drop, set, get_or, add_assoc}
use Rattle.std.specs.Prelude.{IsPermutation, replicate, MatchBool}
use Rattle.std.proofs.lemmas.List.{take-append-drop, take_all, replicate-append-replicate}
use Rattle.std.proofs.lemmas.List.{length-replicate}
use Rattle.std.proofs.lemmas.Bool.{and_parts, false_from_ne_true, or_parts}
use Rattle.std.proofs.lemmas.List.Recursion.{is_sum_by}
use Rattle.std.proofs.lemmas.List.Sorted.{IsPermutation-refl, IsPermutation-sym}
use Rattle.std.proofs.lemmas.List.Sorted.{IsPermutation-trans, IsPermutation-middle}
use Rattle.std.proofs.lemmas.List.Sorted.{IsPermutation-to_front, IsPermutation-append_left}
use Rattle.std.proofs.lemmas.List.Sorted.{IsPermutation-append_right, length_permutation}
use Rattle.std.proofs.lemmas.List.Sorted.{sum_by-IsPermutation}
use Rattle.std.proofs.Math.Bool.{and-false, and-true, or-false, or_assoc}
use Rattle.td_rows.specs.declared.key.Key.{Key}
use Rattle.td_rows.specs.declared.kind.Kind.{Kind}
use Rattle.td_rows.specs.declared.kind.Kind.TheVariants as kinds
use Rattle.td_journal.specs.declared.entry.Mark.{Mark}
use Rattle.td_journal.specs.declared.entry.Mark.TheVariants.{Standing, Undone}
use Rattle.td_journal.specs.declared.entry.Marked.{Marked}
use Rattle.td_journal.specs.Entries.{is_standing}
use Rattle.td_book.specs.Seen.{is_desks}
use Rattle.td_desk.specs.declared.receipt.Receipt.{Receipt}
use Rattle.td_desk.specs.declared.receipt.Receipt.TheVariants.{Undid}
use Rattle.td_desk.specs.declared.tick.Tick.{Tick}
use Rattle.td_desk.specs.Receipts.{made_of, number_of}
use Rattle.td_desk.specs.Changes.{made_by, changes_from}
use Rattle.td_desk.specs.Clerks.{ClerkModel, all_receipts}
use Rattle.td_desk.specs.inner.Matching.{same_receipt}
use Rattle.td_desk.specs.inner.Ticks.{unticked, begun_at, AreBegun, is_made_left, is_undo_left, one}
use Rattle.td_desk.specs.inner.Ticks.{left_at, left_from, is_ticked_at, are_ticked, is_in, is_nil}
use Rattle.td_desk.specs.inner.Ticks.{times, Takes, TooMany}
use Rattle.td_desk.proofs.EqualReceipts.{same_receipt-is, same_receipt-refl}

-- ---- 1. membership and counts

in_one : (r c : Receipt) (b : Bool) → is_in r (one b c) ≡ (b && same_receipt r c)
in_one r c true = or-false (same_receipt r c)
in_one r c false = refl

in_append : (r : Receipt) (xs ys : List Receipt) → is_in r (xs ++ ys) ≡ (is_in r xs || is_in r ys)
in_append r [] ys = refl
in_append r (x ∷ xs) ys =
    ap (λ b. same_receipt r x || b) (in_append r xs ys)
    ∙ sym (or_assoc (same_receipt r x) (is_in r xs) (is_in r ys))

in_neither : (r : Receipt) (xs ys : List Receipt) → is_in r xs ≡ false → is_in r ys ≡ false
    → is_in r (xs ++ ys) ≡ false
in_neither r xs ys a b = in_append r xs ys ∙ (λ i. a i || b i)

times_append : (r : Receipt) (xs ys : List Receipt) → times r (xs ++ ys) ≡ times r xs + times r ys
times_append r [] ys = omega arith
times_append r (x ∷ xs) ys =
    ap (λ k. (if same_receipt r x then 1 else 0) + k) (times_append r xs ys)
    ∙ sym (add_assoc (if same_receipt r x then 1 else 0) (times r xs) (times r ys))

times_none : (r : Receipt) (xs : List Receipt) → is_in r xs ≡ false → times r xs ≡ 0
times_none r [] h = refl
times_none r (x ∷ xs) h =
    let p = or_parts (same_receipt r x) (is_in r xs) h in
    (λ i. (if p.0 i then 1 else 0) + times_none r xs p.1 i)

times_here : (r : Receipt) (xs : List Receipt) → times r (r ∷ xs) ≡ 1 + times r xs
times_here r xs = ap (λ b. (if b then 1 else 0) + times r xs) (same_receipt-refl r)

times_permutation : (r : Receipt) (xs ys : List Receipt) → IsPermutation xs ys
    → times r ys ≡ times r xs
times_permutation r xs ys p =
    is_sum_by (times r) (λ c. if same_receipt r c then 1 else 0) refl (λ _ _. refl) ys
    ∙ (sum_by-IsPermutation (λ c. if same_receipt r c then 1 else 0) xs ys p
    ∙ sym (is_sum_by (times r) (λ c. if same_receipt r c then 1 else 0) refl (λ _ _. refl) xs))

-- ---- 2. one entry

pub tick_made : (n : ℕ) (m : Marked) (t : Tick) (r : Receipt)
    → (is_made_left m t && same_receipt r (made_of n m.entry.kind m.entry.keys)) ≡ true
    → IsPermutation (r ∷ left_at n m (record { made = true; undone = t.undone })) (left_at n m t)
tick_made n m t r h =
    let c = made_of n m.entry.kind m.entry.keys in
    let p = and_parts (is_made_left m t) (same_receipt r c) h in
    let is : r ≡ c = same_receipt-is r c p.1 in
    rw (p.0, and-false (is_desks m.entry.kind), is)
    (IsPermutation-refl (c ∷ one (is_undo_left m t) (Undid n)))

pub tick_undone : (n : ℕ) (m : Marked) (t : Tick) (r : Receipt)
    → (is_undo_left m t && same_receipt r (Undid n)) ≡ true
    → IsPermutation (r ∷ left_at n m (record { made = t.made; undone = true })) (left_at n m t)
tick_undone n m t r h =
    let p = and_parts (is_undo_left m t) (same_receipt r (Undid n)) h in
    let is : r ≡ Undid n = same_receipt-is r (Undid n) p.1 in
    let made = one (is_made_left m t) (made_of n m.entry.kind m.entry.keys) in
    rw (p.0, and-false (not (is_standing m.mark)), is, append-nil made)
    (IsPermutation-sym (made ++ Undid n ∷ []) (Undid n ∷ made)
    (IsPermutation-to_front made (Undid n)))

pub tick_none : (n : ℕ) (m : Marked) (t : Tick) (r : Receipt)
    → (is_made_left m t && same_receipt r (made_of n m.entry.kind m.entry.keys)) ≡ false
    → (is_undo_left m t && same_receipt r (Undid n)) ≡ false → is_in r (left_at n m t) ≡ false
tick_none n m t r a b =
    in_neither r (one (is_made_left m t) (made_of n m.entry.kind m.entry.keys))
    (one (is_undo_left m t) (Undid n))
    (in_one r (made_of n m.entry.kind m.entry.keys) (is_made_left m t) ∙ a)
    (in_one r (Undid n) (is_undo_left m t) ∙ b)

-- ---- 3. the others

made_number : (n : ℕ) (k : Kind) (keys : List Key) → number_of (made_of n k keys) ≡ n
made_number n kinds.Gb keys = refl
made_number n (kinds.Nmu m e t) keys = refl
made_number n (kinds.Bp p) keys = refl
made_number n (kinds.Dw t) keys = refl
made_number n (kinds.Claim b) keys = refl
made_number n (kinds.Outcome b o) keys = refl
made_number n kinds.Arrive keys = refl
made_number n kinds.Sweep keys = refl

differs : (r c : Receipt) → number_of r ≢ number_of c → same_receipt r c ≡ false
differs r c other =
    false_from_ne_true (same_receipt r c) (λ h. other (ap number_of (same_receipt-is r c h)))

apart : (n : ℕ) (m : Marked) (t : Tick) (r : Receipt) → number_of r ≢ n
    → is_in r (left_at n m t) ≡ false
apart n m t r other =
    let c = made_of n m.entry.kind m.entry.keys in
    tick_none n m t r
    (ap (λ s. is_made_left m t && s)
    (differs r c (λ e. other (e ∙ made_number n m.entry.kind m.entry.keys)))
    ∙ and-false (is_made_left m t))
    (ap (λ s. is_undo_left m t && s) (differs r (Undid n) other) ∙ and-false (is_undo_left m t))

pub far : (n : ℕ) (ms : List Marked) (ts : List Tick) (r : Receipt)
    → ((i : ℕ) → i < length ms → number_of r ≢ n + i) → is_in r (left_from n ms ts) ≡ false
far n [] ts r other = refl
far n (m ∷ ms) [] r other = refl
far n (m ∷ ms) (t ∷ ts) r other =
    in_neither r (left_at n m t) (left_from (suc n) ms ts)
    (apart n m t r (λ e. other 0 (omega arith) (omega (arith, e))))
    (far (suc n) ms ts r (λ i h e. other (suc i) (omega (arith, h)) (omega (arith, e))))

under : (hd xs ys : List Receipt) (r : Receipt) → IsPermutation (r ∷ xs) ys
    → IsPermutation (r ∷ (hd ++ xs)) (hd ++ ys)
under hd xs ys r h =
    IsPermutation-trans (r ∷ (hd ++ xs)) (hd ++ r ∷ xs) (hd ++ ys)
    (IsPermutation-sym (hd ++ r ∷ xs) (r ∷ (hd ++ xs)) (IsPermutation-middle hd r xs))
    (IsPermutation-append_right hd (r ∷ xs) ys h)

-- the entry of index i takes the receipt
pub left_tick : (n i k : ℕ) (ms : List Marked) (ts : List Tick) (m : Marked) (t t' : Tick)
    (r : Receipt) → k ≡ n + i → i < length ms → i < length ts → m ≡ get_or ms i m
    → t ≡ get_or ts i t
    → IsPermutation (r ∷ left_at k m t') (left_at k m t)
    → IsPermutation (r ∷ left_from n ms (set ts i t')) (left_from n ms ts)
left_tick n i k [] ts m t t' r at in-ms in-ts one-m one-t h = absurd (omega (arith, in-ms))
left_tick n i k (x ∷ ms) [] m t t' r at in-ms in-ts one-m one-t h = absurd (omega (arith, in-ts))
left_tick n zero k (x ∷ ms) (y ∷ ts) m t t' r at in-ms in-ts one-m one-t h =
    let e : k ≡ n = omega (arith, at) in
    IsPermutation-append_left (left_from (suc n) ms ts) (r ∷ left_at n x t') (left_at n x y)
    (subst (λ (z : Marked). IsPermutation (r ∷ left_at n z t') (left_at n z y)) one-m
    (subst (λ (z : Tick). IsPermutation (r ∷ left_at n m t') (left_at n m z)) one-t
    (subst (λ z. IsPermutation (r ∷ left_at z m t') (left_at z m t)) e h)))
left_tick n (suc i) k (x ∷ ms) (y ∷ ts) m t t' r at in-ms in-ts one-m one-t h =
    under (left_at n x y) (left_from (suc n) ms (set ts i t')) (left_from (suc n) ms ts) r
    (left_tick (suc n) i k ms ts m t t' r (omega (arith, at)) (omega (arith, in-ms))
    (omega (arith, in-ts)) one-m one-t h)

-- if the entry of index i doesn't take the receipt, none does
pub left_none : (n i k : ℕ) (ms : List Marked) (ts : List Tick) (m : Marked) (t : Tick)
    (r : Receipt) → k ≡ n + i → i < length ms → i < length ts → m ≡ get_or ms i m
    → t ≡ get_or ts i t → number_of r ≡ k
    → is_in r (left_at k m t) ≡ false → is_in r (left_from n ms ts) ≡ false
left_none n i k [] ts m t r at in-ms in-ts one-m one-t num h = refl
left_none n i k (x ∷ ms) [] m t r at in-ms in-ts one-m one-t num h = refl
left_none n zero k (x ∷ ms) (y ∷ ts) m t r at in-ms in-ts one-m one-t num h =
    let e : k ≡ n = omega (arith, at) in
    in_neither r (left_at n x y) (left_from (suc n) ms ts)
    ((λ j. is_in r (left_at (sym e j) (sym one-m j) (sym one-t j))) ∙ h)
    (far (suc n) ms ts r (λ j q f. absurd (omega (arith, at, num, f))))
left_none n (suc i) k (x ∷ ms) (y ∷ ts) m t r at in-ms in-ts one-m one-t num h =
    in_neither r (left_at n x y) (left_from (suc n) ms ts)
    (apart n x y r (λ f. absurd (omega (arith, at, num, f))))
    (left_none (suc n) i k ms ts m t r (omega (arith, at)) (omega (arith, in-ms))
    (omega (arith, in-ts)) one-m one-t num h)

-- ---- 4. as the book was opened, all its changes are left

at_unticked : (n : ℕ) (m : Marked)
    → left_at n m unticked
    ≡ made_by n m.entry.kind m.entry.keys ++ one (not (is_standing m.mark)) (Undid n)
at_unticked n m =
    (λ i. one (and-true (is_desks m.entry.kind) i) (made_of n m.entry.kind m.entry.keys)
    ++ one (and-true (not (is_standing m.mark)) i) (Undid n))

either : (was mark : Mark)
    → (not (is_standing mark) && not (not (is_standing was)))
    ≡ (is_standing was && not (is_standing mark))
either Standing Standing = refl
either Standing Undone = refl
either Undone Standing = refl
either Undone Undone = refl

at_begun : (n : ℕ) (was : Mark) (m : Marked)
    → left_at n m (begun_at was)
    ≡ (if is_standing was && not (is_standing m.mark) then Undid n ∷ [] else [])
at_begun n was m =
    (λ i. one (and-false (is_desks m.entry.kind) i) (made_of n m.entry.kind m.entry.keys)
    ++ one (either was m.mark i) (Undid n))

left_unticked : (n k : ℕ) (ms : List Marked) → length ms ≤ k
    → left_from n ms (replicate k unticked) ≡ changes_from n ms []
left_unticked n k [] h = refl
left_unticked n zero (m ∷ ms) h = absurd (omega (arith, h))
left_unticked n (suc k) (m ∷ ms) h =
    (λ i. at_unticked n m i ++ left_unticked (suc n) k ms (omega (arith, h)) i)

left_begun : (n more : ℕ) (ms : List Marked) (os : List Mark)
    → length ms ≤ length (map begun_at os ++ replicate more unticked)
    → left_from n ms (map begun_at os ++ replicate more unticked) ≡ changes_from n ms os
left_begun n more [] os h = refl
left_begun n more (m ∷ ms) [] h =
    left_unticked n more (m ∷ ms) (omega (arith, h, length-replicate more unticked))
left_begun n more (m ∷ ms) (o ∷ os) h =
    (λ i. at_begun n o m i ++ left_begun (suc n) more ms os (omega (arith, h)) i)

pub all_left : (ms : List Marked) (ts : List Tick) (os : List Mark) → AreBegun os (length ms) ts
    → left_from 1 ms ts ≡ changes_from 1 ms os
all_left ms ts os (is, long) =
    ap (λ l. left_from 1 ms l) is
    ∙ left_begun 1 (length ts - length os) ms os
    (subst (λ (l : List Tick). length ms ≤ length l) is long)

-- ---- 5. with each tick set, none is left

nil_append : (xs ys : List Receipt) → is_nil (xs ++ ys) ≡ (is_nil xs && is_nil ys)
nil_append [] ys = refl
nil_append (x ∷ xs) ys = refl

nil_one : (b : Bool) (c : Receipt) → is_nil (one b c) ≡ not b
nil_one true c = refl
nil_one false c = refl

nil_at : (n : ℕ) (m : Marked) (t : Tick) → is_nil (left_at n m t) ≡ is_ticked_at m t
nil_at n m t =
    let c = made_of n m.entry.kind m.entry.keys in
    nil_append (one (is_made_left m t) c) (one (is_undo_left m t) (Undid n))
    ∙ (λ i. nil_one (is_made_left m t) c i && nil_one (is_undo_left m t) (Undid n) i)

pub nil_left : (n : ℕ) (ms : List Marked) (ts : List Tick)
    → is_nil (left_from n ms ts) ≡ are_ticked ms ts
nil_left n [] ts = refl
nil_left n (m ∷ ms) [] = refl
nil_left n (m ∷ ms) (t ∷ ts) =
    nil_append (left_at n m t) (left_from (suc n) ms ts)
    ∙ (λ i. nil_at n m t i && nil_left (suc n) ms ts i)

-- ---- 6. many receipts

pub takes_more : (xs ys old mid new : List Receipt) → Takes xs old mid → Takes ys mid new
    → Takes (xs ++ ys) old new
takes_more xs ys old mid new a b =
    subst (λ l. IsPermutation l old) (sym (append_assoc xs ys new))
    (IsPermutation-trans (xs ++ (ys ++ new)) (xs ++ mid) old
    (IsPermutation-append_right xs (ys ++ new) mid b) a)

pub too_many_later : (xs ys zs old mid : List Receipt) → Takes xs old mid → TooMany ys mid
    → TooMany ((xs ++ ys) ++ zs) old
too_many_later xs ys zs old mid a (r, less) =
    let p = times_permutation r (xs ++ mid) old a in (
      r,
      omega (
        arith,
        less,
        p,
        times_append r xs mid,
        times_append r (xs ++ ys) zs,
        times_append r xs ys,
      ),
    )

pub too_many_one : (r : Receipt) (mid : List Receipt) → is_in r mid ≡ false → TooMany (r ∷ []) mid
too_many_one r mid none = (r, omega (arith, times_none r mid none, times_here r []))

receipts_more : (cs : List ClerkModel) (i : ℕ) (c : ClerkModel) → i < length cs → c ≡ get_or cs i c
    → all_receipts (take (i + 1) cs) ≡ all_receipts (take i cs) ++ c.receipts
receipts_more [] i c h at = absurd (omega (arith, h))
receipts_more (x ∷ cs) zero c h at =
    let e : x.receipts ≡ c.receipts = ap (λ (y : ClerkModel). y.receipts) (sym at) in
    append-nil x.receipts ∙ e
receipts_more (x ∷ cs) (suc i) c h at =
    let e : suc i + 1 ≡ suc (i + 1) = omega arith in
    rw e (ap (λ l. x.receipts ++ l) (receipts_more cs i c (omega (arith, h)) at)
    ∙ sym (append_assoc x.receipts (all_receipts (take i cs)) c.receipts))

receipts_split : (cs : List ClerkModel) (i : ℕ)
    → all_receipts cs ≡ all_receipts (take i cs) ++ all_receipts (drop i cs)
receipts_split cs zero = refl
receipts_split [] (suc i) = refl
receipts_split (x ∷ cs) (suc i) =
    ap (λ l. x.receipts ++ l) (receipts_split cs i)
    ∙ sym (append_assoc x.receipts (all_receipts (take i cs)) (all_receipts (drop i cs)))

pub match_bool : (b : Bool) (A A' B B' : Type 0) → (A → A') → (B → B') → MatchBool b A B
    → MatchBool b A' B'
match_bool true A A' B B' f g h = f h
match_bool false A A' B B' f g h = g h

take_more : (xs : List Receipt) (i : ℕ) (x : Receipt) → i < length xs → x ≡ get_or xs i x
    → take (i + 1) xs ≡ take i xs ++ x ∷ []
take_more [] i x h at = absurd (omega (arith, h))
take_more (y ∷ xs) zero x h at = ap (λ z. z ∷ []) (sym at)
take_more (y ∷ xs) (suc i) x h at =
    let e : suc i + 1 ≡ suc (i + 1) = omega arith in
    rw e (ap (λ l. y ∷ l) (take_more xs i x (omega (arith, h)) at))

pub takes_one : (rs : List Receipt) (i : ℕ) (r : Receipt) (old mid new : List Receipt)
    → i < length rs → r ≡ get_or rs i r → Takes (take i rs) old mid → IsPermutation (r ∷ new) mid
    → Takes (take (i + 1) rs) old new
takes_one rs i r old mid new h at a b =
    rw (take_more rs i r h at) (takes_more (take i rs) (r ∷ []) old mid new a b)

pub too_many_at : (rs : List Receipt) (i : ℕ) (r : Receipt) (old mid : List Receipt) → i < length rs
    → r ≡ get_or rs i r → Takes (take i rs) old mid → is_in r mid ≡ false → TooMany rs old
too_many_at rs i r old mid h at a none =
    subst (λ l. TooMany l old)
    (ap (λ l. l ++ drop (i + 1) rs) (sym (take_more rs i r h at)) ∙ take-append-drop (i + 1) rs)
    (too_many_later (take i rs) (r ∷ []) (drop (i + 1) rs) old mid a (too_many_one r mid none))

pub takes_clerk : (cs : List ClerkModel) (i : ℕ) (c : ClerkModel) (old mid new : List Receipt)
    → i < length cs → c ≡ get_or cs i c → Takes (all_receipts (take i cs)) old mid
    → Takes c.receipts mid new → Takes (all_receipts (take (i + 1) cs)) old new
takes_clerk cs i c old mid new h at a b =
    rw (receipts_more cs i c h at)
    (takes_more (all_receipts (take i cs)) c.receipts old mid new a b)

pub too_many_clerk : (cs : List ClerkModel) (i : ℕ) (c : ClerkModel) (old mid : List Receipt)
    → i < length cs → c ≡ get_or cs i c → Takes (all_receipts (take i cs)) old mid
    → TooMany c.receipts mid → TooMany (all_receipts cs) old
too_many_clerk cs i c old mid h at a many =
    subst (λ l. TooMany l old)
    (ap (λ l. l ++ all_receipts (drop (i + 1) cs)) (sym (receipts_more cs i c h at))
    ∙ sym (receipts_split cs (i + 1)))
    (too_many_later (all_receipts (take i cs)) c.receipts (all_receipts (drop (i + 1) cs)) old mid a
    many)

pub too_many : (rs cs : List Receipt) → TooMany rs cs → IsPermutation rs cs → ⊥
too_many rs cs (r, less) p = omega (arith, less, times_permutation r rs cs p)

-- all receipts are taken: they are the changes if nothing is left
pub all_taken : (rs cs new : List Receipt) (b : Bool) → Takes rs cs new → is_nil new ≡ b → b ≡ true
    → IsPermutation rs cs
all_taken rs cs [] b a is h = subst (λ l. IsPermutation l cs) (append-nil rs) a
all_taken rs cs (c ∷ new) b a is h = absurd (let e : false ≡ true = is ∙ h in cc)

pub none_left : (rs cs new : List Receipt) (b : Bool) → Takes rs cs new → is_nil new ≡ b
    → IsPermutation rs cs → b ≡ true
none_left rs cs [] b a is p = sym is
none_left rs cs (c ∷ new) b a is p =
    absurd (omega (
      arith,
      length_permutation rs cs p,
      length_permutation (rs ++ c ∷ new) cs a,
      length-append rs (c ∷ new),
    ))

-- ---- 7. more ticks

marks_long : (os : List Mark) → length (map begun_at os) ≡ length os
marks_long [] = refl
marks_long (o ∷ os) = ap suc (marks_long os)

pub resized : (b : Bool) (held n len : ℕ) (old new : List Tick) (os : List Mark)
    → AreBegun os held old → len ≡ length old → length old ≤ n
    → new ≡ (if b then take n old ++ replicate (n - len) unticked else old) → AreBegun os held new
resized false held n len old new os begun is h at = subst (λ l. AreBegun os held l) (sym at) begun
resized true held n len old new os (is-old, long) is h at =
    let more = length old - length os in
    let all : new ≡ map begun_at os ++ replicate (more + (n - len)) unticked =
    at ∙ ((λ i. take_all n old h i ++ replicate (n - len) unticked)
    ∙ (ap (λ l. l ++ replicate (n - len) unticked) is-old
    ∙ (append_assoc (map begun_at os) (replicate more unticked) (replicate (n - len) unticked)
    ∙ ap (λ l. map begun_at os ++ l) (replicate-append-replicate more (n - len) unticked)))) in
    let longer : length new ≡ length old + (n - len) =
    ap length (at ∙ (λ i. take_all n old h i ++ replicate (n - len) unticked))
    ∙ (length-append old (replicate (n - len) unticked)
    ∙ ap (λ k. length old + k) (length-replicate (n - len) unticked)) in
    let count : length new ≡ length os + (more + (n - len)) =
    ap length all ∙ (length-append (map begun_at os) (replicate (more + (n - len)) unticked)
    ∙ (λ i. marks_long os i + length-replicate (more + (n - len)) unticked i)) in
    let rest : more + (n - len) ≡ length new - length os = omega (arith, count) in
    (all ∙ ap (λ k. map begun_at os ++ replicate k unticked) rest, omega (arith, longer, long))
