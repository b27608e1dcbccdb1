-- What the desk tries, one row after another.
use Rattle.std.proofs.Common.{◌≡◌, ℕ, zero, suc, ◌+◌, Bool, true, false, ◌&&◌, List, [], ◌∷◌, ◌++◌}
use Rattle.std.proofs.Common.{Option, Some, None, option_map, if◌then◌else◌, filter, map, length}
use Rattle.std.proofs.Common.{take, drop, slice_get, ap, refl, sym, ◌∙◌, arith, append-nil}
use Rattle.std.proofs.Common.{append_assoc}
use Rattle.std.proofs.lemmas.List.{map-append}
use Rattle.std.proofs.lemmas.List.Elements.{filter-append}
use Rattle.std.proofs.lemmas.Option.{same_Some}
use Rattle.td_board.specs.declared.views.DeskTry.{DeskTry}
use Rattle.td_board.specs.declared.views.DeskTry.TheVariants.{WithdrawalWon, WithdrawalLost}
use Rattle.td_board.specs.declared.views.DeskTry.TheVariants.{Offered, ClaimNoted}
use Rattle.td_rows.specs.declared.key.Key.{Key}
use Rattle.td_rows.specs.declared.row.Row.{Row}
use Rattle.td_rows.specs.declared.kind.Kind.TheVariants.{Claim}
use Rattle.td_rows.specs.Keys.{same_key, names, ascending}
use Rattle.td_rows.specs.Meaning.{means}
use Rattle.td_rows.specs.States.{is_queued}
use Rattle.td_rows.specs.Table.{Table, keys_of, meant}
use Rattle.td_rows.proofs.Tables.{row_of-each_row}
use Rattle.td_change.specs.Saved.{place_of, number_of}
use Rattle.td_change.proofs.Numbers.{number_of-at}
use Rattle.td_core.specs.History.{History, rows_of, with_entry}
use Rattle.td_core.specs.Refusals.{is_queued_at}
use Rattle.td_core.proofs.Phases.{keys_of-rows_of}
use Rattle.td_core.proofs.Worlds.{rows_of-with_entry}
use Rattle.td_book.specs.Desk.{claim_of}
use Rattle.td_book.specs.Calls.{is_lost, noting_one, noting, OutAt, claim_no}
use Rattle.td_book.specs.Tries.{withdrawal, tries_at, tries_for, wins_for, offers_for, look}
use Rattle.td_book.specs.Tries.{look_at}
use Rattle.td_book.proofs.Steps.{is_out_at, noting_one-opening}

-- ---- 1. at one row

-- the row of a key is out: it is tried
pub tries_at-out : (t : Table) (k : Key) (i b : ℕ) → ascending (keys_of t) ≡ true → OutAt t k i
    → tries_at t k b ≡ withdrawal i b
tries_at-out t k i b up out =
    ap (λ v. if v then withdrawal (number_of t k) b else [])
    (is_out_at t k i out.row up out.at ∙ out.out)
    ∙ ap (λ (n : ℕ). withdrawal n b) (sym (number_of-at t k i out.row up out.at))

-- so it is where it is looked at
pub look_at-out : (t : Table) (k : Key) (i b : ℕ) → ascending (keys_of t) ≡ true → OutAt t k i
    → look_at t k b ≡ look i b
look_at-out t k i b up out =
    ap (λ v. if v then look (number_of t k) b else [])
    (is_out_at t k i out.row up out.at ∙ out.out)
    ∙ ap (λ (n : ℕ). look n b) (sym (number_of-at t k i out.row up out.at))

-- and where it is offered
pub offers_for-out : (t : Table) (k : Key) (i : ℕ) → ascending (keys_of t) ≡ true → OutAt t k i
    → offers_for t (k ∷ []) ≡ Offered i ∷ []
offers_for-out t k i up out =
    ap (λ v. map (λ (q : Key). Offered (number_of t q)) (if v then k ∷ [] else []))
    (is_out_at t k i out.row up out.at ∙ out.out)
    ∙ ap (λ (n : ℕ). Offered n ∷ []) (sym (number_of-at t k i out.row up out.at))

-- it isn't: nothing
pub tries_at-idle : (t : Table) (k : Key) (b : ℕ) → is_queued_at t k ≡ false → tries_at t k b ≡ []
tries_at-idle t k b idle = ap (λ v. if v then withdrawal (number_of t k) b else []) idle

pub look_at-idle : (t : Table) (k : Key) (b : ℕ) → is_queued_at t k ≡ false → look_at t k b ≡ []
look_at-idle t k b idle = ap (λ v. if v then look (number_of t k) b else []) idle

pub offers_for-idle : (t : Table) (k : Key) → is_queued_at t k ≡ false → offers_for t (k ∷ []) ≡ []
offers_for-idle t k idle =
    ap (λ v. map (λ (q : Key). Offered (number_of t q)) (if v then k ∷ [] else [])) idle

-- nothing is added
pub none_more : (tries : List DeskTry) (t : Table) (k : Key) (b : ℕ) → is_queued_at t k ≡ false
    → tries ≡ tries ++ tries_at t k b
none_more tries t k b idle =
    sym (append-nil tries) ∙ ap (λ (l : List DeskTry). tries ++ l) (sym (tries_at-idle t k b idle))

pub none_looked : (tries : List DeskTry) (t : Table) (k : Key) (b : ℕ) → is_queued_at t k ≡ false
    → tries ≡ tries ++ look_at t k b
none_looked tries t k b idle =
    sym (append-nil tries) ∙ ap (λ (l : List DeskTry). tries ++ l) (sym (look_at-idle t k b idle))

-- a withdrawal that is lost names its builder
pub withdrawal-lost : (i b : ℕ) → is_lost b ≡ true
    → withdrawal i b ≡ WithdrawalLost i b ∷ ClaimNoted i b ∷ []
withdrawal-lost i zero h = absurd (let bad : false ≡ true = h in cc)
withdrawal-lost i (suc b) h = refl

pub look-lost : (i b : ℕ) → is_lost b ≡ true
    → look i b ≡ WithdrawalLost i b ∷ ClaimNoted i b ∷ []
look-lost i zero h = absurd (let bad : false ≡ true = h in cc)
look-lost i (suc b) h = refl

-- one that notes no claim is won, or there is none
pub tries_at-won : (h : History) (k : Key) (b : ℕ) → None ≡ claim_no h k b
    → tries_at (rows_of h) k b ≡ tries_at (rows_of h) k 0
tries_at-won h k zero none = refl
tries_at-won h k (suc b) none = either (is_queued_at (rows_of h) k) none
  where
    either : (v : Bool) → None ≡ (if v && true then Some (length h.journal + 1) else None)
        → (if v
        then WithdrawalLost (number_of (rows_of h) k) (suc b)
        ∷ ClaimNoted (number_of (rows_of h) k) (suc b) ∷ []
        else [])
        ≡ (if v then WithdrawalWon (number_of (rows_of h) k) ∷ [] else [])
    either true bad = absurd (cc)
    either false e = refl

-- one that notes a claim is lost
pub tries_at-lost : (t : Table) (k : Key) (b : ℕ) → is_queued_at t k ≡ true → is_lost b ≡ true
    → tries_at t k b ≡ WithdrawalLost (number_of t k) b ∷ ClaimNoted (number_of t k) b ∷ []
tries_at-lost t k b out lost =
    ap (λ v. if v then withdrawal (number_of t k) b else []) out
    ∙ withdrawal-lost (number_of t k) b lost

-- ---- 2. one row more

pub tries_for-push : (t : Table) (ks : List Key) (bs : List ℕ) (k : Key) (b : ℕ)
    → length bs ≡ length ks
    → tries_for t (ks ++ k ∷ []) (bs ++ b ∷ []) ≡ tries_for t ks bs ++ tries_at t k b
tries_for-push t [] [] k b e = append-nil (tries_at t k b)
tries_for-push t [] (c ∷ bs) k b e = absurd (cc)
tries_for-push t (q ∷ ks) [] k b e = absurd (cc)
tries_for-push t (q ∷ ks) (c ∷ bs) k b e =
    ap (λ (l : List DeskTry). tries_at t q c ++ l)
    (tries_for-push t ks bs k b
    (let s : suc (length bs) ≡ suc (length ks) = e in omega arith))
    ∙ sym (append_assoc (tries_at t q c) (tries_for t ks bs) (tries_at t k b))

pub wins_for-push : (t : Table) (ks : List Key) (k : Key)
    → wins_for t (ks ++ k ∷ []) ≡ wins_for t ks ++ tries_at t k 0
wins_for-push t [] k =
    elim (is_queued_at t k) as (λ v.
    map (λ q. WithdrawalWon (number_of t q)) (if v then k ∷ [] else [])
    ≡ (if v then WithdrawalWon (number_of t k) ∷ [] else [])) [
      | true ↦ refl
      | false ↦ refl
    ]
wins_for-push t (q ∷ ks) k =
    let f : Key → DeskTry = λ x. WithdrawalWon (number_of t x) in
    elim (is_queued_at t q) as (λ v.
    map f (if v then q ∷ filter (is_queued_at t) (ks ++ k ∷ [])
    else filter (is_queued_at t) (ks ++ k ∷ []))
    ≡ map f (if v then q ∷ filter (is_queued_at t) ks else filter (is_queued_at t) ks)
    ++ tries_at t k 0) [
      | true ↦ ap (λ (l : List DeskTry). f q ∷ l) (wins_for-push t ks k)
      | false ↦ wins_for-push t ks k
    ]

pub offers_for-append : (t : Table) (ks ls : List Key)
    → offers_for t (ks ++ ls) ≡ offers_for t ks ++ offers_for t ls
offers_for-append t ks ls =
    ap (map (λ (k : Key). Offered (number_of t k))) (filter-append (is_queued_at t) ks ls)
    ∙ map-append (λ (k : Key). Offered (number_of t k)) (filter (is_queued_at t) ks)
    (filter (is_queued_at t) ls)

-- what was tried before, and what is tried then
pub tries_more : (first old new a b : List DeskTry) → old ≡ first ++ a → new ≡ old ++ b
    → new ≡ first ++ (a ++ b)
tries_more first old new a b was now =
    now ∙ ap (λ (l : List DeskTry). l ++ b) was ∙ append_assoc first a b

-- ---- 3. claims on other rows leave a row out

abbrev test : Option Row → Bool
test o = elim o [ Some r ↦ is_queued r.state | None ↦ false ]

claimed-else : (o : Option Row) (q k : Key) (b : ℕ) → same_key k q ≡ false
    → test (option_map (meant (Claim b) (q ∷ []) k) o) ≡ test o
claimed-else None q k b apart = refl
claimed-else (Some r) q k b apart =
    ap (λ v. is_queued (if (if v then true else false) then means (Claim b) r else r).state) apart

queued-one : (h : History) (q k : Key) (b : ℕ) → same_key k q ≡ false
    → is_queued_at (rows_of (noting_one h q b)) k ≡ is_queued_at (rows_of h) k
queued-one h q k b apart = either (is_queued_at (rows_of h) q && is_lost b)
  where
    either : (v : Bool)
        → is_queued_at (rows_of (if v then with_entry h (claim_of b q) else h)) k
        ≡ is_queued_at (rows_of h) k
    either true =
        ap (λ (t : Table). is_queued_at t k) (rows_of-with_entry h (claim_of b q))
        ∙ ap test (row_of-each_row (meant (Claim b) (q ∷ [])) (rows_of h) k)
        ∙ claimed-else _ q k b apart
    either false = refl

apart_of : (v w : Bool) → (if v then true else w) ≡ false → (v ≡ false) × (w ≡ false)
apart_of true w h = absurd (let bad : true ≡ false = h in cc)
apart_of false w h = (refl, h)

pub queued-noted : (h : History) (ks : List Key) (bs : List ℕ) (k : Key) → names ks k ≡ false
    → is_queued_at (rows_of (noting h ks bs)) k ≡ is_queued_at (rows_of h) k
queued-noted h [] bs k off = refl
queued-noted h (q ∷ ks) [] k off = refl
queued-noted h (q ∷ ks) (b ∷ bs) k off =
    let apart = apart_of (same_key k q) (names ks k) off in
    queued-noted (noting_one h q b) ks bs k apart.1 ∙ queued-one h q k b apart.0

numbers-one : (h : History) (q : Key) (b : ℕ)
    → keys_of (rows_of (noting_one h q b)) ≡ keys_of (rows_of h)
numbers-one h q b =
    keys_of-rows_of (noting_one h q b)
    ∙ ap (λ (t : Table). keys_of t) (noting_one-opening h q b) ∙ sym (keys_of-rows_of h)

pub keys-noted : (h : History) (ks : List Key) (bs : List ℕ)
    → keys_of (rows_of (noting h ks bs)) ≡ keys_of (rows_of h)
keys-noted h [] bs = refl
keys-noted h (q ∷ ks) [] = refl
keys-noted h (q ∷ ks) (b ∷ bs) = keys-noted (noting_one h q b) ks bs ∙ numbers-one h q b

pub tries_at-noted : (h : History) (ks : List Key) (bs : List ℕ) (k : Key) (b : ℕ)
    → names ks k ≡ false
    → tries_at (rows_of (noting h ks bs)) k b ≡ tries_at (rows_of h) k b
tries_at-noted h ks bs k b off =
    let out = queued-noted h ks bs k off in
    let keys = keys-noted h ks bs in
    λ j. if out j then withdrawal (place_of (keys j) k) b else []

-- ---- 4. the keys before and behind one

pub split_at : (named : List Key) (i : ℕ) (k : Key) → slice_get named i ≡ Some k
    → named ≡ take i named ++ k ∷ drop (suc i) named
split_at [] i k at = absurd (cc)
split_at (x ∷ ks) zero k at = ap (λ (q : Key). q ∷ ks) (same_Some x k at)
split_at (x ∷ ks) (suc i) k at = ap (λ (l : List Key). x ∷ l) (split_at ks i k at)
