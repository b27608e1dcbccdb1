-- The claim that stops an undo is the latest entry that blocks it.
use Rattle.std.proofs.Common.{◌≡◌, ℕ, ◌+◌, ◌-◌, ◌<◌, true, false, ◌&&◌, ◌||◌}
use Rattle.std.proofs.Common.{List, [], ◌∷◌, ◌++◌, Option, Some, None, Err, if◌then◌else◌, length}
use Rattle.std.proofs.Common.{ap, refl, subst, ◌∙◌, arith}
use Rattle.std.specs.Prelude.{IsSomeAnd, nat_lt}
use Rattle.std.specs.Option.{option_or}
use Rattle.std.proofs.lemmas.Bool.{or_right}
use Rattle.std.proofs.lemmas.Bool.Decides.{nat_tests}
use Rattle.std.proofs.lemmas.Option.{slice_get_within}
use Rattle.td_rows.specs.declared.key.Key.{Key}
use Rattle.td_rows.specs.declared.kind.Kind.{Kind}
use Rattle.td_rows.specs.Keys.{same_key, names}
use Rattle.td_rows.specs.Kinds.{cells}
use Rattle.td_rows.proofs.Keys.{same_key-sym}
use Rattle.td_journal.specs.declared.entry.Entry.{Entry}
use Rattle.td_journal.specs.declared.entry.Marked.{Marked}
use Rattle.td_journal.specs.Entries.{is_standing, standing_entry, entry_at}
use Rattle.td_journal.specs.Touching.{share_key, touches, latest_touching, blocker}
use Rattle.td_journal.proofs.Undoing.{entry_at-place}
use Rattle.td_core.specs.History.{History}
use Rattle.td_core.proofs.Staying.{entry_at-append}
use Rattle.td_book.specs.Calls.{off_for}
use Rattle.td_book.specs.Desk.{claim_of}
use Rattle.td_book.specs.Undoing.{UndoAnswer, IsWon}
use Rattle.td_book.specs.declared.undoing.UndoRefusal.{UndoRefusal}
use Rattle.td_book.specs.declared.undoing.UndoRefusal.TheVariants.{Blocked}
use Rattle.td_steps.specs.Books.{WonNamesTheLatest}
use Rattle.td_steps.proofs.Undos.{stop-none}

-- ---- 1. the last entry, where it touches

latest-last : (e c : Entry) (n number q : ℕ) (ms : List Marked) → q ≡ number + length ms → n < q
    → touches e c ≡ true → latest_touching e n number (ms ++ standing_entry c ∷ []) ≡ Some q
latest-last e c n number q [] is above touch =
    let here : number ≡ q = omega (arith, is) in
    let over : nat_lt n number ≡ true = grind (arith, nat_tests, here, above) in
    (λ j. if over j && touch j then Some (here j) else None)
latest-last e c n number q (m ∷ ms) is above touch =
    ap (λ (o : Option ℕ). option_or o
    (if nat_lt n number && (is_standing m.mark && touches e m.entry) then Some number else None))
    (latest-last e c n (number + 1) q ms (omega (arith, is)) above touch)

-- ---- 2. what a claim touches

share-one : (keys : List Key) (k : Key) → names keys k ≡ true → share_key keys (k ∷ []) ≡ true
share-one [] k named = cc
share-one (q ∷ keys) k named =
    elim (same_key k q) as (λ b.
    same_key k q ≡ b → (if b then true else names keys k) ≡ true
    → share_key (q ∷ keys) (k ∷ []) ≡ true) [
      | true ↦
          λ same _. ap (λ b. (if b then true else false) || share_key keys (k ∷ []))
          (same_key-sym k q same)
      | false ↦
          λ _ rest. or_right (names (k ∷ []) q) (share_key keys (k ∷ [])) (share-one keys k rest)
    ] refl named

-- what is withdrawn for an entry is named by it, and its kind has the state
record IsOff (kind : Kind) (keys : List Key) (k : Key) : Type 0 where
  state : (cells kind).state ≡ true
  named : names keys k ≡ true

is-off : (kind : Kind) (keys : List Key) (k : Key) → names (off_for kind keys) k ≡ true
    → IsOff kind keys k
is-off kind keys k h =
    elim (cells kind).state as (λ b.
    (cells kind).state ≡ b → names (if b then keys else []) k ≡ true → IsOff kind keys k) [
      | true ↦ λ state named. record { state = state; named = named }
      | false ↦ λ _ none. cc
    ] refl h

touches-claim : (e : Entry) (b : ℕ) (k : Key) → IsOff e.kind e.keys k
    → touches e (claim_of b k) ≡ true
touches-claim e b k off =
    let c = cells e.kind in
    ap (λ s. s && (((((c.state && true) || (c.priority && false)) || (c.number && false))
    || (c.dep_wait && false)) || (c.extra && false))) (share-one e.keys k off.named)
    ∙ ap (λ s. ((((s && true) || (c.priority && false)) || (c.number && false))
    || (c.dep_wait && false)) || (c.extra && false)) off.state

-- ---- 3. an undo that a claim stops

blocker-last : (ms : List Marked) (c : Entry) (n q : ℕ) (m : Marked) → entry_at ms n ≡ Some m
    → q ≡ length ms + 1 → touches m.entry c ≡ true
    → blocker (ms ++ standing_entry c ∷ []) n ≡ Some q
blocker-last ms c n q m there is touch =
    let place = entry_at-place ms n m there in
    let inside = slice_get_within ms (n - 1) m place.1 in
    ap (λ (x : Option Marked).
    elim x as (λ _. Option ℕ) [
      | Some y ↦ latest_touching y.entry n 1 (ms ++ standing_entry c ∷ [])
      | None ↦ None
    ]) (entry_at-append ms (standing_entry c ∷ []) n m there)
    ∙ latest-last m.entry c n 1 q ms (omega (arith, is)) (omega (arith, is, inside, place.0)) touch

pub won_names_the_latest : WonNamesTheLatest
won_names_the_latest n m old new stop d =
    let s = stop-none old.history.journal n stop in
    let e = s.can.marked.entry in
    let a : UndoAnswer None n old new (Err (Blocked m)) =
    subst (λ (x : Option UndoRefusal). UndoAnswer x n old new (Err (Blocked m))) stop d in
    let w : IsWon old.history new.history old.fixed.builders (off_for e.kind e.keys) m =
    subst (λ (x : Option Marked).
    IsSomeAnd x (λ (y : Marked).
    IsWon old.history new.history old.fixed.builders (off_for y.entry.kind y.entry.keys) m))
    s.can.there a.outcome in
    ap (λ (h : History). blocker h.journal n) w.now
    ∙ blocker-last old.history.journal (claim_of w.by w.key) n m s.can.marked s.can.there w.number
    (touches-claim e w.by w.key (is-off e.kind e.keys w.key w.is_named))
