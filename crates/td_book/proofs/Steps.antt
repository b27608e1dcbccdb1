-- The moves of the desk over plain values.
use Rattle.std.proofs.Common.{◌≡◌, ℕ, zero, suc, ◌+◌, ◌<◌, ◌≤◌, Bool, true, false, ◌&&◌, List, []}
use Rattle.std.proofs.Common.{◌∷◌, ◌++◌, Option, Some, None, if◌then◌else◌, length, take, drop}
use Rattle.std.proofs.Common.{get_or, slice_get, option_map, ap, refl, sym, subst, ◌∙◌, arith}
use Rattle.std.proofs.lemmas.Bool.{and_parts}
use Rattle.std.proofs.lemmas.Option.{same_Some, slice_get_read}
use Rattle.std.proofs.Math.Bool.{and-false}
use Rattle.td_rows.specs.declared.key.Key.{Key}
use Rattle.td_rows.specs.declared.row.Row.{Row}
use Rattle.td_rows.specs.declared.kind.Kind.TheVariants.{Claim}
use Rattle.td_rows.specs.Keys.{same_key, names, below_all, ascending}
use Rattle.td_rows.specs.States.{is_queued}
use Rattle.td_rows.specs.Table.{Table, row_of, AppliesOn, IsAt, keys_of}
use Rattle.td_rows.proofs.Keys.{same_key-true, same_key-refl, same_key-apart, below-apart}
use Rattle.td_rows.proofs.Tables.{row_of-at, names-push}
use Rattle.td_rows.proofs.Lists.{drop-next, slice_get-map}
use Rattle.td_change.proofs.Numbers.{names-below}
use Rattle.td_core.specs.History.{History, rows_of, with_entry}
use Rattle.td_core.specs.Keeps.{places_in}
use Rattle.td_core.specs.Refusals.{is_queued_at}
use Rattle.td_core.proofs.Phases.{keys_of-rows_of}
use Rattle.td_core.proofs.WorldSteps.{AppliesOn-one}
use Rattle.td_book.specs.Watching.{WatchedView}
use Rattle.td_book.specs.Desk.{InnerModel, Stays, Spent, HasRoom, HasOne, fixed_of, claim_of}
use Rattle.td_book.specs.Calls.{is_lost, noting_one, OutAt}

pub up_now : (h : History) → ascending (keys_of h.opening) ≡ true
    → ascending (keys_of (rows_of h)) ≡ true
up_now h up = ap ascending (keys_of-rows_of h) ∙ up

-- what holds of the rows that were read holds of those that the inside's history has
pub rows_read : (P : Table → Type 0) (t : Table) (m n : InnerModel) → m ≡ n
    → t ≡ rows_of m.books.history → P t → P (rows_of n.books.history)
rows_read P t m n is read h =
    subst P (read ∙ ap (λ (x : InnerModel). rows_of x.books.history) is) h

pub rising_read : (t : Table) (m n : InnerModel) → m ≡ n → t ≡ rows_of m.books.history
    → ascending (keys_of t) ≡ true → ascending (keys_of (rows_of n.books.history)) ≡ true
rising_read = rows_read (λ (t : Table). ascending (keys_of t) ≡ true)

-- ---- 1. places

-- a key below all of the keys is at no place of them
below_at : (x k : Key) (ks : List Key) (i : ℕ) → below_all x ks ≡ true → slice_get ks i ≡ Some k
    → same_key x k ≡ false
below_at x k [] i h at = absurd (cc)
below_at x k (q ∷ ks) zero h at =
    subst (λ (y : Key). same_key x y ≡ false) (same_Some q k at)
    (below-apart x q (and_parts _ _ h).0)
below_at x k (q ∷ ks) (suc i) h at = below_at x k ks i (and_parts _ _ h).1 at

pub unnamed_before : (ks : List Key) (i : ℕ) (k : Key) → ascending ks ≡ true
    → slice_get ks i ≡ Some k → names (take i ks) k ≡ false
unnamed_before [] i k up at = absurd (cc)
unnamed_before (x ∷ ks) zero k up at = refl
unnamed_before (x ∷ ks) (suc i) k up at =
    let both = and_parts _ _ up in
    ap (λ b. if b then true else names (take i ks) k)
    (same_key-apart x k (below_at x k ks i both.0 at)) ∙ unnamed_before ks i k both.1 at

pub unnamed_after : (ks : List Key) (i : ℕ) (k : Key) → ascending ks ≡ true
    → slice_get ks i ≡ Some k → names (drop (suc i) ks) k ≡ false
unnamed_after [] i k up at = absurd (cc)
unnamed_after (x ∷ ks) zero k up at =
    subst (λ (y : Key). names ks y ≡ false) (same_Some x k at)
    (names-below x ks (and_parts _ _ up).0)
unnamed_after (x ∷ ks) (suc i) k up at = unnamed_after ks i k (and_parts _ _ up).1 at

pub named_here : (named : List Key) (i : ℕ) (k : Key) → slice_get named i ≡ Some k
    → names (drop i named) k ≡ true
named_here named i k at =
    ap (λ (ks : List Key). names ks k) (drop-next named i k at)
    ∙ ap (λ b. if b then true else names (drop (i + 1) named) k) (same_key-refl k)

pub key_at : (ks : List Key) (i : ℕ) (k : Key) → i < length ks → k ≡ get_or ks i k
    → slice_get ks i ≡ Some k
key_at ks i k within is = slice_get_read ks (length ks) i k refl within is

-- ---- 2. rows that are out

pub is_out_at : (t : Table) (k : Key) (i : ℕ) (row : Row) → ascending (keys_of t) ≡ true
    → slice_get t i ≡ Some (k, row) → is_queued_at t k ≡ is_queued row.state
is_out_at t k i row up at =
    ap (λ x. elim x as (λ _. Bool) [ Some r ↦ is_queued r.state | None ↦ false ])
    (row_of-at t k i row up at)

pub idle_row : (t : Table) (k : Key) → is_queued_at t k ≡ false → (row : Row)
    → row_of t k ≡ Some row → is_queued row.state ≡ false
idle_row t k h row found =
    sym (ap (λ x. elim x as (λ _. Bool) [ Some r ↦ is_queued r.state | None ↦ false ]) found) ∙ h

pub out_is : (t : Table) (k : Key) (i : ℕ) (x : Key × Row) (at : IsAt t k i)
    → Some x ≡ slice_get t i → is_queued x.1.state ≡ true → OutAt t k i
out_is t k i x at got out =
    let same : x ≡ (k, at.row) = same_Some x (k, at.row) (got ∙ at.at) in
    record {
      row = at.row;
      at = at.at;
      out = sym (ap (λ (y : Key × Row). is_queued y.1.state) same) ∙ out;
    }

pub out_is_not : (t : Table) (k : Key) (i : ℕ) (x : Key × Row) (at : IsAt t k i)
    → ascending (keys_of t) ≡ true → Some x ≡ slice_get t i → is_queued x.1.state ≡ false
    → is_queued_at t k ≡ false
out_is_not t k i x at up got idle =
    let same : x ≡ (k, at.row) = same_Some x (k, at.row) (got ∙ at.at) in
    is_out_at t k i at.row up at.at ∙ sym (ap (λ (y : Key × Row). is_queued y.1.state) same) ∙ idle

pub out_none : (t : Table) (k : Key) → row_of t k ≡ None → is_queued_at t k ≡ false
out_none t k h = ap (λ x. elim x as (λ _. Bool) [ Some r ↦ is_queued r.state | None ↦ false ]) h

pub claim_applies : (t : Table) (k : Key) (i : ℕ) (b : ℕ) (keys : List Key)
    → ascending (keys_of t) ≡ true → OutAt t k i → keys ≡ k ∷ [] → AppliesOn t (Claim b) keys
claim_applies t k i b keys up out one =
    subst (AppliesOn t (Claim b)) (sym one)
    (AppliesOn-one t (Claim b) k out.row (row_of-at t k i out.row up out.at) out.out)

-- ---- 3. claims that are noted

pub pos_lost : (b : ℕ) → 1 ≤ b → is_lost b ≡ true
pos_lost zero h = absurd (omega arith)
pos_lost (suc b) h = refl

pub lost_at : (t : Table) (k : Key) (i b : ℕ) → ascending (keys_of t) ≡ true → OutAt t k i → 1 ≤ b
    → (is_queued_at t k && is_lost b) ≡ true
lost_at t k i b up out pos =
    ap (λ v. v && is_lost b) (is_out_at t k i out.row up out.at ∙ out.out) ∙ pos_lost b pos

pub noting_one-lost : (h : History) (k : Key) (i b : ℕ) → ascending (keys_of (rows_of h)) ≡ true
    → OutAt (rows_of h) k i → 1 ≤ b → noting_one h k b ≡ with_entry h (claim_of b k)
noting_one-lost h k i b up out pos =
    ap (λ v. if v then with_entry h (claim_of b k) else h) (lost_at (rows_of h) k i b up out pos)

-- the desk was first
pub noting_one-won : (h : History) (k : Key) → noting_one h k 0 ≡ h
noting_one-won h k =
    ap (λ v. if v then with_entry h (claim_of 0 k) else h) (and-false (is_queued_at (rows_of h) k))

pub noting_one-opening : (h : History) (k : Key) (b : ℕ) → (noting_one h k b).opening ≡ h.opening
noting_one-opening h k b = either (is_queued_at (rows_of h) k && is_lost b)
  where
    either : (v : Bool) → (if v then with_entry h (claim_of b k) else h).opening ≡ h.opening
    either true = refl
    either false = refl

-- ---- 4. room

pub stays_none : (m : InnerModel) → Stays m m
stays_none m = record { table = refl; stock = refl; builders = refl; since = refl; watch = refl }

pub stays_more : (a b c : InnerModel) → Stays a b → Stays b c → Stays a c
stays_more a b c s t =
    record {
      table = t.table ∙ s.table;
      stock = t.stock ∙ s.stock;
      builders = t.builders ∙ s.builders;
      since = t.since ∙ s.since;
      watch = t.watch ∙ s.watch;
    }

pub stays_fixed : (a b : InnerModel) → Stays a b → fixed_of b ≡ fixed_of a
stays_fixed a b s =
    λ j. record {
      table = s.table j;
      stock = s.stock j;
      builders = s.builders j;
      since = s.since j;
      watch = s.watch j;
    }

pub spent_none : (keys : List Key) (b : WatchedView) → Spent keys b b
spent_none keys b = record { spare = omega arith; places = λ k. omega arith }

pub longer : (ks : List Key) (k : Key) → length (ks ++ k ∷ []) ≡ length ks + 1
longer [] k = refl
longer (x ∷ ks) k = let h = longer ks k in omega arith

pub spent_more : (keys : List Key) (k : Key) (a b c : WatchedView) → names keys k ≡ false
    → Spent keys a b → Spent (k ∷ []) b c → Spent (keys ++ k ∷ []) a c
spent_more keys k a b c apart s t = record {
  spare = let x = s.spare in let y = t.spare in let z = longer keys k in omega arith;
  places = λ q. let x = s.places q in let y = t.places q in
      subst (λ v. places_in a.room.places q ≤ places_in c.room.places q + (if v then 1 else 0))
      (sym (names-push keys k q))
      (either q (names keys q) (same_key q k) refl refl x y);
}
  where
    one_of : (q : Key) → names keys q ≡ true → same_key q k ≡ true → ⊥
    one_of q named same =
        let bad : true ≡ false = sym named ∙ ap (names keys) (same_key-true q k same) ∙ apart in cc

    either : (q : Key) (u v : Bool) → names keys q ≡ u → same_key q k ≡ v
        → places_in a.room.places q ≤ places_in b.room.places q + (if u then 1 else 0)
        → places_in b.room.places q
        ≤ places_in c.room.places q + (if (if v then true else false) then 1 else 0)
        → places_in a.room.places q
        ≤ places_in c.room.places q + (if (if u then true else v) then 1 else 0)
    either q true true u v x y = absurd (one_of q u v)
    either q true false u v x y = omega arith
    either q false true u v x y = omega arith
    either q false false u v x y = omega arith

pub room_end : (named keys : List Key) (a b : WatchedView) → HasRoom named a → Spent keys a b
    → length keys ≤ length named → HasOne named b
room_end named keys a b room s short = record {
  spare = let x = room.spare in let y = s.spare in omega arith;
  places = λ k is. let x = room.places k is in let y = s.places k in two (names keys k) x y;
}
  where
    two : {m n : ℕ} (v : Bool) → 2 ≤ m → m ≤ n + (if v then 1 else 0) → 1 ≤ n
    two true x y = omega arith
    two false x y = omega arith

-- ---- 5. rows by their numbers

pub some_at : (t : Table) (i : ℕ) → i < length t
    → (k : Key) × (row : Row) × (slice_get t i ≡ Some (k, row))
some_at [] i h = absurd (omega arith)
some_at (p ∷ t) zero h = (p.0, p.1, refl)
some_at (p ∷ t) (suc i) h = some_at t i (omega arith)
