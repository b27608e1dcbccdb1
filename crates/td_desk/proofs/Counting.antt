-- How the changes of a book grow with its calls.
use Rattle.std.proofs.Common.{◌≡◌, ℕ, zero, suc, ◌+◌, ◌-◌, ◌≤◌, Bool, true, false, not, ◌&&◌, ◌||◌}
use Rattle.std.proofs.Common.{List, [], ◌∷◌, ◌++◌, length, Some, refl, sym, ap, ◌∙◌, subst, arith}
use Rattle.std.proofs.Common.{append-nil, length-append, append_assoc}
use Rattle.std.proofs.Common.{if◌then◌else◌}
use Rattle.std.specs.Prelude.{slice_get, Option, None, IsPermutation}
use Rattle.std.proofs.lemmas.Option.{same_Some}
use Rattle.std.proofs.lemmas.Bool.{and_parts, ne_eqb}
use Rattle.std.proofs.lemmas.List.Sorted.{IsPermutation-refl, IsPermutation-sym}
use Rattle.std.proofs.lemmas.List.Sorted.{IsPermutation-trans, IsPermutation-middle}
use Rattle.std.proofs.lemmas.List.Sorted.{IsPermutation-append_right, IsPermutation-to_front}
use Rattle.std.proofs.lemmas.List.Sorted.{length_permutation}
use Rattle.std.proofs.Math.Bool.{or-true}
use Rattle.td_rows.specs.declared.key.Key.{Key}
use Rattle.td_journal.specs.declared.entry.Entry.{Entry}
use Rattle.td_journal.specs.declared.entry.Mark.{Mark}
use Rattle.td_journal.specs.declared.entry.Mark.TheVariants.{Standing, Undone}
use Rattle.td_journal.specs.declared.entry.Marked.{Marked}
use Rattle.td_journal.specs.Entries.{is_standing, standing_entry, undone_at, undone, CanBeUndone}
use Rattle.td_core.specs.History.{History, rows_of, with_entry}
use Rattle.td_core.specs.Refusals.{is_queued_at}
use Rattle.td_book.specs.Seen.{is_desks}
use Rattle.td_book.specs.Desk.{claim_of}
use Rattle.td_book.specs.Calls.{is_lost, noting_one, noting}
use Rattle.td_book.proofs.Deeds.{length-undone_at}
use Rattle.td_desk.specs.declared.receipt.Receipt.{Receipt}
use Rattle.td_desk.specs.declared.receipt.Receipt.TheVariants.{Undid}
use Rattle.td_desk.specs.Receipts.{made_of}
use Rattle.td_desk.specs.Changes.{made_by, undone_since, changes_from, still_undone}

-- ---- 1. longer journals

still_none : (ms : List Marked) → still_undone ms [] ≡ true
still_none [] = refl
still_none (m ∷ ms) = refl

pub still-append : (ms ks : List Marked) (os : List Mark) → still_undone ms os ≡ true
    → still_undone (ms ++ ks) os ≡ true
still-append ms ks [] h = still_none (ms ++ ks)
still-append [] ks (o ∷ os) h = absurd (cc)
still-append (m ∷ ms) ks (o ∷ os) h =
    let p = and_parts (is_standing o || not (is_standing m.mark)) (still_undone ms os) h in
    (λ i. p.0 i && still-append ms ks os p.1 i)

-- the changes of a longer journal
pub changes-append : (n : ℕ) (ms ks : List Marked) (os : List Mark) → still_undone ms os ≡ true
    → changes_from n (ms ++ ks) os ≡ changes_from n ms os ++ changes_from (n + length ms) ks []
changes-append n [] ks [] h = let e : n + 0 ≡ n = omega arith in rw e refl
changes-append n [] ks (o ∷ os) h = absurd (cc)
changes-append n (m ∷ ms) ks [] h =
    let e : suc n + length ms ≡ n + suc (length ms) = omega arith in
    let hd = made_by n m.entry.kind m.entry.keys ++ undone_since n true m.mark in
    ap (λ l. hd ++ l) (changes-append (suc n) ms ks [] (still_none ms)
    ∙ ap (λ k. changes_from (suc n) ms [] ++ changes_from k ks []) e)
    ∙ sym (append_assoc hd (changes_from (suc n) ms []) (changes_from (n + suc (length ms)) ks []))
changes-append n (m ∷ ms) ks (o ∷ os) h =
    let e : suc n + length ms ≡ n + suc (length ms) = omega arith in
    let hd = undone_since n (is_standing o) m.mark in
    let p = and_parts (is_standing o || not (is_standing m.mark)) (still_undone ms os) h in
    ap (λ l. hd ++ l) (changes-append (suc n) ms ks os p.1
    ∙ ap (λ k. changes_from (suc n) ms os ++ changes_from k ks []) e)
    ∙ sym (append_assoc hd (changes_from (suc n) ms os) (changes_from (n + suc (length ms)) ks []))

-- ---- 2. entries that are no clerk's: claims and outcomes

-- a journal with more claims and outcomes, at most this many
pub record Notes (old new : List Marked) (most : ℕ) : Type 0 where
  pub more : List Marked
  pub at : new ≡ old ++ more
  pub few : length more ≤ most
  pub none : (n : ℕ) → changes_from n more [] ≡ []

pub notes_none : (old new : List Marked) (most : ℕ) → new ≡ old → Notes old new most
notes_none old new most same =
    record { more = []; at = same ∙ sym (append-nil old); few = omega arith; none = λ n. refl }

entry_none : (n : ℕ) (e : Entry) → is_desks e.kind ≡ false
    → changes_from n (standing_entry e ∷ []) [] ≡ []
entry_none n e h = (λ i. ((if h i then made_of n e.kind e.keys ∷ [] else []) ++ []) ++ [])

pub notes_entry : (old new : List Marked) (e : Entry) → is_desks e.kind ≡ false
    → new ≡ old ++ standing_entry e ∷ [] → Notes old new 1
notes_entry old new e h at =
    record {
      more = standing_entry e ∷ [];
      at = at;
      few = omega arith;
      none = λ n. entry_none n e h;
    }

none-append : (xs ys : List Marked) (n : ℕ) → ((k : ℕ) → changes_from k xs [] ≡ [])
    → ((k : ℕ) → changes_from k ys [] ≡ []) → changes_from n (xs ++ ys) [] ≡ []
none-append xs ys n p q =
    changes-append n xs ys [] (still_none xs) ∙ (λ i. p n i ++ q (n + length xs) i)

pub notes_more : (old mid new : List Marked) (a b : ℕ) → Notes old mid a → Notes mid new b
    → Notes old new (a + b)
notes_more old mid new a b p q = record {
  more = p.more ++ q.more;
  at = q.at ∙ (ap (λ l. l ++ q.more) p.at ∙ append_assoc old p.more q.more);
  few = let x = p.few in let y = q.few in omega (arith, length-append p.more q.more);
  none = λ n. none-append p.more q.more n p.none q.none;
}

pub notes_at_most : (old new : List Marked) (a b : ℕ) → a ≤ b → Notes old new a → Notes old new b
notes_at_most old new a b h p =
    record { more = p.more; at = p.at; few = let x = p.few in omega arith; none = p.none }

pub notes_one : (h : History) (k : Key) (b : ℕ) → Notes h.journal (noting_one h k b).journal 1
notes_one h k b = at (is_queued_at (rows_of h) k && is_lost b)
  where
    at : (v : Bool) → Notes h.journal (if v then with_entry h (claim_of b k) else h).journal 1
    at true =
        notes_entry h.journal (h.journal ++ standing_entry (claim_of b k) ∷ [])
        (claim_of b k) refl refl
    at false = notes_none h.journal h.journal 1 refl

pub notes_each : (h : History) (ks : List Key) (bs : List ℕ)
    → Notes h.journal (noting h ks bs).journal (length ks)
notes_each h [] bs = notes_none h.journal h.journal 0 refl
notes_each h (k ∷ ks) [] = notes_none h.journal h.journal (length (k ∷ ks)) refl
notes_each h (k ∷ ks) (b ∷ bs) =
    notes_at_most h.journal (noting (noting_one h k b) ks bs).journal (1 + length ks)
    (length (k ∷ ks)) (omega arith)
    (notes_more h.journal (noting_one h k b).journal (noting (noting_one h k b) ks bs).journal 1
    (length ks) (notes_one h k b) (notes_each (noting_one h k b) ks bs))

-- what holds of the marks of a journal, and what it says of its changes
pub changes_noted : (os : List Mark) (old new : List Marked) (most : ℕ) → still_undone old os ≡ true
    → Notes old new most → changes_from 1 new os ≡ changes_from 1 old os
changes_noted os old new most still p =
    ap (λ l. changes_from 1 l os) p.at
    ∙ (changes-append 1 old p.more os still
    ∙ (ap (λ l. changes_from 1 old os ++ l) (p.none (1 + length old))
    ∙ append-nil (changes_from 1 old os)))

pub still_noted : (os : List Mark) (old new : List Marked) (most : ℕ) → still_undone old os ≡ true
    → Notes old new most → still_undone new os ≡ true
still_noted os old new most still p =
    ap (λ l. still_undone l os) p.at ∙ still-append old p.more os still

pub long_noted : (old new : List Marked) (most : ℕ) → Notes old new most
    → length new ≤ length old + most
long_noted old new most p = let x = p.few in omega (arith, ap length p.at, length-append old p.more)

-- ---- 3. an entry that is a clerk's

last_one : (r : Receipt) (old new : List Receipt) → new ≡ old ++ r ∷ []
    → IsPermutation (r ∷ old) new
last_one r old new at =
    subst (λ l. IsPermutation (r ∷ old) l) (sym at)
    (IsPermutation-sym (old ++ r ∷ []) (r ∷ old) (IsPermutation-to_front old r))

pub changes_entry : (os : List Mark) (old new : List Marked) (e : Entry) (n : ℕ)
    → still_undone old os ≡ true → is_desks e.kind ≡ true → new ≡ old ++ standing_entry e ∷ []
    → n ≡ length old + 1
    → IsPermutation (made_of n e.kind e.keys ∷ changes_from 1 old os) (changes_from 1 new os)
changes_entry os old new e n still own at num =
    let long : 1 + length old ≡ n = omega (arith, num) in
    last_one (made_of n e.kind e.keys) (changes_from 1 old os) (changes_from 1 new os)
    (ap (λ l. changes_from 1 l os) at ∙ (changes-append 1 old (standing_entry e ∷ []) os still
    ∙ (λ i. changes_from 1 old os
    ++ (((if own i then made_of (long i) e.kind e.keys ∷ [] else []) ++ []) ++ []))))

pub still_entry : (os : List Mark) (old new : List Marked) (e : Entry) → still_undone old os ≡ true
    → new ≡ old ++ standing_entry e ∷ [] → still_undone new os ≡ true
still_entry os old new e still at =
    ap (λ l. still_undone l os) at ∙ still-append old (standing_entry e ∷ []) os still

-- ---- 4. an undo

none_undone : (n : ℕ) (m : Mark) → m ≡ Standing → undone_since n true m ≡ []
none_undone n m h = ap (undone_since n true) h

stood_before : (o m : Mark) → m ≡ Standing → (is_standing o || not (is_standing m)) ≡ true
    → is_standing o ≡ true
stood_before Standing m up h = refl
stood_before Undone m up h =
    absurd (let e : not (is_standing m) ≡ false = ap (λ x. not (is_standing x)) up in cc)

deeper : (n i : ℕ) (hd old new : List Receipt) → IsPermutation (Undid (suc n + i) ∷ old) new
    → IsPermutation (Undid (n + suc i) ∷ (hd ++ old)) (hd ++ new)
deeper n i hd old new h =
    let e : n + suc i ≡ suc n + i = omega arith in
    rw e (IsPermutation-trans (Undid (suc n + i) ∷ (hd ++ old)) (hd ++ Undid (suc n + i) ∷ old)
    (hd ++ new)
    (IsPermutation-sym (hd ++ Undid (suc n + i) ∷ old) (Undid (suc n + i) ∷ (hd ++ old))
    (IsPermutation-middle hd (Undid (suc n + i)) old))
    (IsPermutation-append_right hd (Undid (suc n + i) ∷ old) new h))

-- one change more
changes-undone : (n i : ℕ) (ms : List Marked) (os : List Mark) (m : Marked)
    → slice_get ms i ≡ Some m → m.mark ≡ Standing → still_undone ms os ≡ true
    → IsPermutation (Undid (n + i) ∷ changes_from n ms os) (changes_from n (undone_at ms i) os)
changes-undone n zero [] os m at up h =
    absurd (let e : slice_get {X = Marked} [] zero ≡ Some m = at in cc)
changes-undone n (suc i) [] os m at up h =
    absurd (let e : slice_get {X = Marked} [] (suc i) ≡ Some m = at in cc)
changes-undone n zero (x ∷ ms) [] m at up h =
    let same : x ≡ m = same_Some x m at in
    let up' : x.mark ≡ Standing = ap (λ (y : Marked). y.mark) same ∙ up in
    let made = made_by n x.entry.kind x.entry.keys in
    let rest = changes_from (suc n) ms [] in
    let e : n + 0 ≡ n = omega arith in
    let old : (made ++ undone_since n true x.mark) ++ rest ≡ made ++ rest =
    ap (λ l. (made ++ l) ++ rest) (none_undone n x.mark up')
    ∙ ap (λ l. l ++ rest) (append-nil made) in
    rw (e, old, append_assoc made (Undid n ∷ []) rest)
    (IsPermutation-sym (made ++ Undid n ∷ rest) (Undid n ∷ (made ++ rest))
    (IsPermutation-middle made (Undid n) rest))
changes-undone n zero (x ∷ ms) (o ∷ os) m at up h =
    let same : x ≡ m = same_Some x m at in
    let up' : x.mark ≡ Standing = ap (λ (y : Marked). y.mark) same ∙ up in
    let p = and_parts (is_standing o || not (is_standing x.mark)) (still_undone ms os) h in
    let stood : is_standing o ≡ true = stood_before o x.mark up' p.0 in
    let e : n + 0 ≡ n = omega arith in
    rw (e, stood, up') (IsPermutation-refl (Undid n ∷ changes_from (suc n) ms os))
changes-undone n (suc i) (x ∷ ms) [] m at up h =
    deeper n i (made_by n x.entry.kind x.entry.keys ++ undone_since n true x.mark)
    (changes_from (suc n) ms []) (changes_from (suc n) (undone_at ms i) [])
    (changes-undone (suc n) i ms [] m at up (still_none ms))
changes-undone n (suc i) (x ∷ ms) (o ∷ os) m at up h =
    let p = and_parts (is_standing o || not (is_standing x.mark)) (still_undone ms os) h in
    deeper n i (undone_since n (is_standing o) x.mark) (changes_from (suc n) ms os)
    (changes_from (suc n) (undone_at ms i) os) (changes-undone (suc n) i ms os m at up p.1)

still-undone : (ms : List Marked) (i : ℕ) (os : List Mark) → still_undone ms os ≡ true
    → still_undone (undone_at ms i) os ≡ true
still-undone ms i [] h = still_none (undone_at ms i)
still-undone [] i (o ∷ os) h = h
still-undone (m ∷ ms) zero (o ∷ os) h =
    let p = and_parts (is_standing o || not (is_standing m.mark)) (still_undone ms os) h in
    (λ i. or-true (is_standing o) i && p.1 i)
still-undone (m ∷ ms) (suc i) (o ∷ os) h =
    let p = and_parts (is_standing o || not (is_standing m.mark)) (still_undone ms os) h in
    (λ j. p.0 j && still-undone ms i os p.1 j)

pub changes_undid : (os : List Mark) (n : ℕ) (ms : List Marked) → still_undone ms os ≡ true
    → CanBeUndone ms n
    → IsPermutation (Undid n ∷ changes_from 1 ms os) (changes_from 1 (undone ms n) os)
changes_undid os zero ms still can =
    absurd (let e : ◌≡◌ {A = Option Marked} None (Some can.marked) = can.there in cc)
changes_undid os (suc i) ms still can =
    let p : suc i - 1 ≡ i = omega arith in
    let there : slice_get ms i ≡ Some can.marked =
    subst (λ k. slice_get ms k ≡ Some can.marked) p
    (sym (ap (λ t. if t then None else slice_get ms (suc i - 1))
    (ne_eqb (suc i) 0 (λ z. omega arith))) ∙ can.there) in
    let e : suc i ≡ 1 + i = omega arith in
    rw (p, e) (changes-undone 1 i ms os can.marked there can.stands still)

pub still_undid : (os : List Mark) (n : ℕ) (ms : List Marked) → still_undone ms os ≡ true
    → still_undone (undone ms n) os ≡ true
still_undid os n ms still = still-undone ms (n - 1) os still

pub long_undid : (n : ℕ) (ms : List Marked) → length (undone ms n) ≡ length ms
long_undid n ms = length-undone_at ms (n - 1)

-- ---- 5. how many changes there are

pub one_more : (r : Receipt) (old new : List Receipt) → IsPermutation (r ∷ old) new
    → length new ≡ length old + 1
one_more r old new h = length_permutation (r ∷ old) new h ∙ omega arith
