-- What the book says of its steps at the board is what its moves are there.
use Rattle.std.proofs.Common.{◌≡◌, ℕ, zero, suc, Bool, true, false, ◌&&◌, List, [], ◌∷◌, ◌++◌, Some}
use Rattle.std.proofs.Common.{Option, None, if◌then◌else◌, map, filter, option_map, slice_get, ap}
use Rattle.std.proofs.Common.{refl, sym, ◌∙◌, subst, append-nil, append_assoc}
use Rattle.std.proofs.lemmas.Bool.{and_parts}
use Rattle.td_board.specs.declared.views.DeskTry.{DeskTry}
use Rattle.td_board.specs.declared.views.DeskTry.TheVariants.{Offered, WithdrawalWon}
use Rattle.td_board.specs.declared.views.DeskTry.TheVariants.{WithdrawalLost}
use Rattle.td_board.specs.declared.views.DeskTry.TheVariants.{ClaimNoted, SettleDone, SettleEarly}
use Rattle.td_rows.specs.declared.key.Key.{Key}
use Rattle.td_rows.specs.declared.row.Row.{Row}
use Rattle.td_rows.specs.declared.kind.Kind.{Kind}
use Rattle.td_rows.specs.declared.kind.Kind.TheVariants.{Claim, Outcome as Ended}
use Rattle.td_rows.specs.declared.outcome.Outcome.{Outcome}
use Rattle.td_rows.specs.Keys.{same_key, names, below_all, ascending}
use Rattle.td_rows.specs.Meaning.{means}
use Rattle.td_rows.specs.States.{is_queued}
use Rattle.td_rows.specs.Table.{Table, keys_of, meant}
use Rattle.td_rows.proofs.Keys.{same_key-refl}
use Rattle.td_rows.proofs.Tables.{row_of-each_row}
use Rattle.td_change.specs.Saved.{place_of, number_of}
use Rattle.td_change.proofs.Numbers.{names-below, named-apart, names-more, number_of-at}
use Rattle.td_core.specs.History.{History, rows_of, with_entry}
use Rattle.td_core.specs.Refusals.{is_queued_at}
use Rattle.td_core.proofs.Phases.{keys_of-rows_of}
use Rattle.td_core.proofs.Worlds.{rows_of-with_entry}
use Rattle.td_book.specs.Calls.{noting_one}
use Rattle.td_book.specs.Deeds.{code_of}
use Rattle.td_book.specs.Desk.{BookModel, claim_of}
use Rattle.td_book.specs.Tries.{tries_at, tries_for, wins_for, offers_for, look, look_at}
use Rattle.td_book.proofs.Builds.{at_key_of}
use Rattle.td_book.proofs.Steps.{noting_one-opening, noting_one-won}
use Rattle.td_book.proofs.Tries.{tries_at-noted}
use Rattle.td_steps.specs.Moves.{Move, offer, won, lost, note}
use Rattle.td_steps.specs.Parts.{withdrawing_one, withdrawing, winning, offering_one, offering}
use Rattle.td_steps.specs.Parts.{committing}
use Rattle.td_steps.specs.Builds.{notice_moves, settle_moves}
use Rattle.td_steps.specs.Tries.{tries_of, tried_in, done_in, AreMade}
use Rattle.td_steps.proofs.Parts.{Moved, idle-on}

-- ---- 1. lists

pub done_in-append : (a b : List DeskTry) → done_in (a ++ b) ≡ done_in a ++ done_in b
done_in-append [] b = refl
done_in-append (Offered r ∷ a) b = ap (λ (l : List DeskTry). Offered r ∷ l) (done_in-append a b)
done_in-append (WithdrawalWon r ∷ a) b =
    ap (λ (l : List DeskTry). WithdrawalWon r ∷ l) (done_in-append a b)
done_in-append (WithdrawalLost r c ∷ a) b =
    ap (λ (l : List DeskTry). WithdrawalLost r c ∷ l) (done_in-append a b)
done_in-append (ClaimNoted r c ∷ a) b =
    ap (λ (l : List DeskTry). ClaimNoted r c ∷ l) (done_in-append a b)
done_in-append (SettleDone r c ∷ a) b =
    ap (λ (l : List DeskTry). SettleDone r c ∷ l) (done_in-append a b)
done_in-append (SettleEarly r c ∷ a) b = done_in-append a b

pub tried_in-append : (o : Table) (a b : List Move)
    → tried_in o (a ++ b) ≡ tried_in o a ++ tried_in o b
tried_in-append o [] b = refl
tried_in-append o (m ∷ a) b =
    ap (λ (l : List DeskTry). tries_of o m ++ l) (tried_in-append o a b)
    ∙ sym (append_assoc (tries_of o m) (tried_in o a) (tried_in o b))

-- a book of which this much more was done
pub made-by : (old new : BookModel) (more : List DeskTry) (moves : List Move)
    → new.tries ≡ old.tries ++ more → done_in more ≡ tried_in old.history.opening moves
    → AreMade old new moves
made-by old new more moves told is =
    ap done_in told ∙ done_in-append old.tries more
    ∙ ap (λ (l : List DeskTry). done_in old.tries ++ l) is

pub made-none : (old new : BookModel) → new.tries ≡ old.tries → AreMade old new []
made-none old new same = ap done_in same ∙ sym (append-nil (done_in old.tries))

pub same-made : (old new : BookModel) → new ≡ old → AreMade old new []
same-made old new same = made-none old new (ap (λ (b : BookModel). b.tries) same)

-- a call that does nothing
pub still : (old new : BookModel) (Are : List Move → Type 0) → Are [] → new ≡ old
    → Moved old new Are
still old new Are are same =
    record { moves = []; are = are; made = same-made old new same; leads = idle-on old new same }

-- what two lists of moves are, one after the other
pub both : (o : Table) (a b : List DeskTry) (ms ns : List Move) → done_in a ≡ tried_in o ms
    → done_in b ≡ tried_in o ns → done_in (a ++ b) ≡ tried_in o (ms ++ ns)
both o a b ms ns one two =
    done_in-append a b ∙ (λ j. one j ++ two j) ∙ sym (tried_in-append o ms ns)

-- ---- 2. offers, and withdrawals that are won

pub done-offering : (o t : Table) (ks : List Key) → keys_of t ≡ keys_of o
    → done_in (offers_for t ks) ≡ tried_in o (offering t ks)
done-offering o t [] same = refl
done-offering o t (k ∷ ks) same =
    elim (is_queued_at t k) as (λ v.
    done_in (map (λ (q : Key). Offered (number_of t q))
    (if v then k ∷ filter (is_queued_at t) ks else filter (is_queued_at t) ks))
    ≡ tried_in o ((if v then offer k ∷ [] else []) ++ offering t ks)) [
      | true ↦ λ j. Offered (place_of (same j) k) ∷ done-offering o t ks same j
      | false ↦ done-offering o t ks same
    ]

pub done-winning : (o t : Table) (ks : List Key) → keys_of t ≡ keys_of o
    → done_in (wins_for t ks) ≡ tried_in o (winning t ks)
done-winning o t [] same = refl
done-winning o t (k ∷ ks) same =
    elim (is_queued_at t k) as (λ v.
    done_in (map (λ (q : Key). WithdrawalWon (number_of t q))
    (if v then k ∷ filter (is_queued_at t) ks else filter (is_queued_at t) ks))
    ≡ tried_in o ((if v then won k ∷ [] else []) ++ winning t ks)) [
      | true ↦ λ j. WithdrawalWon (place_of (same j) k) ∷ done-winning o t ks same j
      | false ↦ done-winning o t ks same
    ]

-- ---- 3. withdrawals

done-trying : (o : Table) (h : History) (k : Key) (b : ℕ) → keys_of (rows_of h) ≡ keys_of o
    → done_in (tries_at (rows_of h) k b) ≡ tried_in o (withdrawing_one h k b)
done-trying o h k zero same =
    let t = rows_of h in
    elim (is_queued_at t k) as (λ v.
    done_in (if v then WithdrawalWon (number_of t k) ∷ [] else [])
    ≡ tried_in o (if v then won k ∷ [] else [])) [
      | true ↦ λ j. WithdrawalWon (place_of (same j) k) ∷ []
      | false ↦ refl
    ]
done-trying o h k (suc b) same =
    let t = rows_of h in
    let n = number_of t k in
    elim (is_queued_at t k) as (λ v.
    done_in (if v then WithdrawalLost n (suc b) ∷ ClaimNoted n (suc b) ∷ [] else [])
    ≡ tried_in o (if v then lost k (suc b) ∷ note k (suc b) ∷ [] else [])) [
      | true ↦ λ j. WithdrawalLost (place_of (same j) k) (suc b)
          ∷ ClaimNoted (place_of (same j) k) (suc b) ∷ []
      | false ↦ refl
    ]

-- a claim on another row leaves the withdrawals
tries_for-noted : (h : History) (k : Key) (b : ℕ) (ks : List Key) (bs : List ℕ)
    → ((q : Key) → names ks q ≡ true → same_key q k ≡ false)
    → tries_for (rows_of h) ks bs ≡ tries_for (rows_of (noting_one h k b)) ks bs
tries_for-noted h k b [] bs apart = refl
tries_for-noted h k b (q ∷ ks) [] apart = refl
tries_for-noted h k b (q ∷ ks) (c ∷ bs) apart =
    let here : same_key q k ≡ false =
    apart q (ap (λ v. if v then true else names ks q) (same_key-refl q)) in
    let off : names (k ∷ []) q ≡ false = ap (λ v. if v then true else false) here in
    λ j. sym (tries_at-noted h (k ∷ []) (b ∷ []) q c off) j
    ++ tries_for-noted h k b ks bs (λ x named. apart x (names-more ks q x named)) j

noted-keys : (h : History) (k : Key) (b : ℕ)
    → keys_of (rows_of (noting_one h k b)) ≡ keys_of (rows_of h)
noted-keys h k b =
    keys_of-rows_of (noting_one h k b) ∙ ap (λ (t : Table). keys_of t) (noting_one-opening h k b)
    ∙ sym (keys_of-rows_of h)

pub done-withdrawing : (o : Table) (h : History) (ks : List Key) (bs : List ℕ)
    → keys_of (rows_of h) ≡ keys_of o → ascending ks ≡ true
    → done_in (tries_for (rows_of h) ks bs) ≡ tried_in o (withdrawing h ks bs)
done-withdrawing o h [] bs same rise = refl
done-withdrawing o h (k ∷ ks) [] same rise = refl
done-withdrawing o h (k ∷ ks) (b ∷ bs) same rise =
    let parts = and_parts (below_all k ks) (ascending ks) rise in
    let below = names-below k ks parts.0 in
    both o (tries_at (rows_of h) k b) (tries_for (rows_of h) ks bs) (withdrawing_one h k b)
    (withdrawing (noting_one h k b) ks bs) (done-trying o h k b same)
    (ap done_in (tries_for-noted h k b ks bs (λ q named. named-apart ks k q below named))
    ∙ done-withdrawing o (noting_one h k b) ks bs (noted-keys h k b ∙ same) parts.1)

-- an entry is no step at the board
pub done-committing : (o : Table) (kind : Kind) (ks : List Key)
    → [] ≡ tried_in o (committing kind ks)
done-committing o kind [] = refl
done-committing o kind (k ∷ ks) = refl

-- ---- 4. the row of a builder

abbrev test : Option Row → Bool
test o = elim o [ Some r ↦ is_queued r.state | None ↦ false ]

claimed-row : (o : Option Row) (k : Key) (b : ℕ)
    → test (option_map (meant (Claim b) (k ∷ []) k) o) ≡ false
claimed-row None k b = refl
claimed-row (Some r) k b =
    ap (λ v. is_queued (if (if v then true else false) then means (Claim b) r else r).state)
    (same_key-refl k)

-- a row whose claim is noted needs no build
claimed-idle : (h : History) (k : Key) (b : ℕ)
    → is_queued_at (rows_of (with_entry h (claim_of b k))) k ≡ false
claimed-idle h k b =
    ap (λ (t : Table). is_queued_at t k) (rows_of-with_entry h (claim_of b k))
    ∙ ap test (row_of-each_row (meant (Claim b) (k ∷ [])) (rows_of h) k) ∙ claimed-row _ k b

pub done-notice : (o : Table) (h : History) (k : Key) (by : ℕ) → keys_of (rows_of h) ≡ keys_of o
    → done_in (look_at (rows_of h) k by) ≡ tried_in o (notice_moves k by h)
done-notice o h k zero same =
    let t = rows_of h in
    subst (λ (g : History). done_in (look_at (rows_of h) k 0)
    ≡ tried_in o (withdrawing h (k ∷ []) (0 ∷ []) ++ offering (rows_of g) (k ∷ [])))
    (sym (noting_one-won h k))
    (elim (is_queued_at t k) as (λ v.
    done_in (if v then WithdrawalWon (number_of t k) ∷ Offered (number_of t k) ∷ [] else [])
    ≡ tried_in o (((if v then won k ∷ [] else []) ++ [])
    ++ ((if v then offer k ∷ [] else []) ++ []))) [
      | true ↦ λ j. WithdrawalWon (place_of (same j) k) ∷ Offered (place_of (same j) k) ∷ []
      | false ↦ refl
    ])
done-notice o h k (suc b) same = at (is_queued_at (rows_of h) k) refl
  where
    at : (v : Bool) → is_queued_at (rows_of h) k ≡ v
        → done_in (if v then look (number_of (rows_of h) k) (suc b) else [])
        ≡ tried_in o (((if v then lost k (suc b) ∷ note k (suc b) ∷ [] else []) ++ [])
        ++ (offering_one (rows_of (if v && true then with_entry h (claim_of (suc b) k) else h)) k
        ++ []))
    at true is =
        (λ j. WithdrawalLost (place_of (same j) k) (suc b)
        ∷ ClaimNoted (place_of (same j) k) (suc b) ∷ [])
        ∙ ap (λ v. WithdrawalLost (number_of o k) (suc b) ∷ ClaimNoted (number_of o k) (suc b)
        ∷ tried_in o ((if v then offer k ∷ [] else []) ++ [])) (sym (claimed-idle h k (suc b)))
    at false is = ap (λ v. tried_in o ((if v then offer k ∷ [] else []) ++ [])) (sym is)

-- the number of a key's row at the opening
pub numbered : (o : Table) (i : ℕ) (k : Key) → ascending (keys_of o) ≡ true
    → slice_get (keys_of o) i ≡ Some k → i ≡ number_of o k
numbered o i k up at = let row = at_key_of o i k at in number_of-at o k i row.0 up row.1

pub done-settle : (o : Table) (h : History) (i b : ℕ) (end : Outcome) (k : Key)
    → keys_of (rows_of (with_entry h (record { kind = Ended b end; keys = k ∷ [] }))) ≡ keys_of o
    → i ≡ number_of o k
    → done_in (SettleDone i (code_of end)
    ∷ offers_for (rows_of (with_entry h (record { kind = Ended b end; keys = k ∷ [] }))) (k ∷ []))
    ≡ tried_in o (settle_moves k b end h)
done-settle o h i b end k same at =
    let t = rows_of (with_entry h (record { kind = Ended b end; keys = k ∷ [] })) in
    λ j. SettleDone (at j) (code_of end) ∷ done-offering o t (k ∷ []) same j
