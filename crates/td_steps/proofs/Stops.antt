-- Whatever builders do, an undo goes on to its end, or stops at a row at which a builder was
-- faster; and moves that no builder decides go on.
use Rattle.std.proofs.Common.{◌≡◌, ℕ, zero, suc, ◌+◌, ◌≤◌, Bool, true, false, List, [], ◌∷◌, ◌++◌}
use Rattle.std.proofs.Common.{Some, None, Ok, Err, if◌then◌else◌, length, take, slice_get, refl}
use Rattle.std.proofs.Common.{append_assoc, sym, subst, inl, inr, arith}
use Rattle.std.specs.Prelude.{◌⊎◌}
use Rattle.std.proofs.lemmas.Bool.{and_parts}
use Rattle.td_rows.specs.declared.key.Key.{Key}
use Rattle.td_rows.specs.Keys.{names, below_all, ascending}
use Rattle.td_rows.specs.Table.{keys_of}
use Rattle.td_supply.specs.Supply.{Stock}
use Rattle.td_core.specs.declared.step.Step.{Step}
use Rattle.td_core.specs.History.{History, rows_of, with_entry, without_entry}
use Rattle.td_core.specs.Refusals.{is_queued_at}
use Rattle.td_core.specs.Steps.{after, after_all}
use Rattle.td_core.specs.Worlds.{WorldView, phase_of}
use Rattle.td_book.specs.Calls.{off_for}
use Rattle.td_book.specs.Desk.{BookModel, claim_of}
use Rattle.td_book.specs.declared.undoing.UndoRefusal.TheVariants as undos
use Rattle.td_steps.specs.Sees.{Sees, resting}
use Rattle.td_steps.specs.Moves.{Move, won, lost, note, undo, step_of, Chosen, arrive, sweep}
use Rattle.td_steps.specs.Moves.{sweeping}
use Rattle.td_steps.specs.Parts.{winning, winning_one, offering}
use Rattle.td_book.specs.Arriving.{freed_now}
use Rattle.td_steps.specs.Arrivals.{sweep_moves}
use Rattle.td_steps.specs.Choices.{first_at}
use Rattle.td_steps.specs.Turns.{RunsWith, AreTurns, UndosGoOn, OthersGoOn}
use Rattle.td_steps.specs.Undos.{undo_moves, blocked_moves, UndoMoves}
use Rattle.td_steps.proofs.Moves.{many, moves_are_steps}
use Rattle.td_steps.proofs.Parts.{queued-row, view-out, desk_off, won-leads, idle-leads, Apart}
use Rattle.td_steps.proofs.Parts.{apart-first, apart-rest, apart-none, up-seen}
use Rattle.td_steps.proofs.Turns.{FreeMoves, Going, free-run, free-none, free-one, free-offering}
use Rattle.td_steps.proofs.Turns.{first-out}
use Rattle.td_steps.proofs.Undos.{Stands, stop-none, off-rises, undone-moves, stopped-moves}

-- a builder was faster at one of the keys, and what stands behind its claim goes on
record StopsAt (turn : ℕ → List Step) (w : WorldView) (h : History) (n : ℕ) (ks : List Key)
    (behind : List Key → Key → ℕ → List Move) : Type 0 where
  place : ℕ
  key : Key
  at : slice_get ks place ≡ Some key
  by : ℕ
  one : 1 ≤ by
  bound : by ≤ n
  going : Going turn w (winning (rows_of h) (take place ks)
      ++ (lost key by ∷ note key by ∷ behind (take place ks) key by))

-- both ends of withdrawals
abbrev Tried : (ℕ → List Step) → WorldView → History → ℕ → List Key → List Move
    → (List Key → Key → ℕ → List Move) → Type 0
Tried turn w h n ks more behind =
    Going turn w (winning (rows_of h) ks ++ more) ⊎ StopsAt turn w h n ks behind

-- what is chosen at the first key, before what goes on at the others
tried-ahead : (turn turn' : ℕ → List Step) (w w' : WorldView) (h : History) (n : ℕ) (k : Key)
    (ks : List Key) (more : List Move) (behind : List Key → Key → ℕ → List Move)
    → ((ms : List Move) → Going turn' w' ms → Going turn w (winning_one (rows_of h) k ++ ms))
    → Tried turn' w' h n ks more (λ front. behind (k ∷ front))
    → Tried turn w h n (k ∷ ks) more behind
tried-ahead turn turn' w w' h n k ks more behind ahead (inl g) =
    inl (subst (λ (ms : List Move). Going turn w ms)
    (sym (append_assoc (winning_one (rows_of h) k) (winning (rows_of h) ks) more))
    (ahead (winning (rows_of h) ks ++ more) g))
tried-ahead turn turn' w w' h n k ks more behind ahead (inr s) =
    let front = winning (rows_of h) (take s.place ks) in
    let rest = lost s.key s.by ∷ note s.key s.by ∷ behind (k ∷ take s.place ks) s.key s.by in
    inr (record {
      place = suc s.place;
      key = s.key;
      at = s.at;
      by = s.by;
      one = s.one;
      bound = s.bound;
      going = subst (λ (ms : List Move). Going turn w ms)
          (sym (append_assoc (winning_one (rows_of h) k) front rest))
          (ahead (front ++ rest) s.going);
    })

-- the first key's row needs no build
tried-idle : (turn : ℕ → List Step) (w : WorldView) (h : History) (n : ℕ) (k : Key) (ks : List Key)
    (more : List Move) (behind : List Key → Key → ℕ → List Move)
    → is_queued_at (rows_of h) k ≡ false
    → Tried turn w h n ks more (λ front. behind (k ∷ front)) → Tried turn w h n (k ∷ ks) more behind
tried-idle turn w h n k ks more behind idle =
    tried-ahead turn turn w w h n k ks more behind
    (λ ms g. subst (λ (b : Bool). Going turn w ((if b then won k ∷ [] else []) ++ ms))
    (sym idle) g)

-- it is withdrawn
tried-won : (turn : ℕ → List Step) (w : WorldView) (h : History) (n : ℕ) (k : Key) (ks : List Key)
    (more : List Move) (behind : List Key → Key → ℕ → List Move) → is_queued_at (rows_of h) k ≡ true
    → Chosen (after_all w (turn 0)) (won k)
    → Tried (λ i. turn (suc i)) (after (after_all w (turn 0)) (step_of (won k))) h n ks more
    (λ front. behind (k ∷ front)) → Tried turn w h n (k ∷ ks) more behind
tried-won turn w h n k ks more behind queued chosen =
    tried-ahead turn (λ i. turn (suc i)) w (after (after_all w (turn 0)) (step_of (won k))) h n k ks
    more behind
    (λ ms g. subst (λ (b : Bool). Going turn w ((if b then won k ∷ [] else []) ++ ms))
    (sym queued) (g.0, (chosen, g.1)))

-- a builder was faster
tried-lost : (turn : ℕ → List Step) (w : WorldView) (h : History) (n b : ℕ) (k : Key)
    (ks : List Key) (more : List Move) (behind : List Key → Key → ℕ → List Move) → suc b ≤ n
    → Chosen (after_all w (turn 0)) (lost k (suc b))
    → FreeMoves (behind [] k (suc b)) → Tried turn w h n (k ∷ ks) more behind
tried-lost turn w h n b k ks more behind bound chosen free =
    let x = after (after_all w (turn 0)) (step_of (lost k (suc b))) in
    let y = after (after_all x (turn 1)) (step_of (note k (suc b))) in
    let rest = free-run (λ i. turn (suc (suc i))) y (behind [] k (suc b)) free in
    inr (record {
      place = 0;
      key = k;
      at = refl;
      by = suc b;
      one = omega arith;
      bound = bound;
      going = (rest.0, (chosen, (tt, rest.1)));
    })

-- one key is decided, and the others follow
try-one : (turn : ℕ → List Step) (w : WorldView) (h : History) (st : Stock) (n : ℕ)
    (done : List Key) (k : Key) (ks : List Key) (more : List Move)
    (behind : List Key → Key → ℕ → List Move) → AreTurns turn
    → Sees w (desk_off h st n done) → ascending (keys_of h.opening) ≡ true → names done k ≡ false
    → ((b : ℕ) → FreeMoves (behind [] k b))
    → ((turn' : ℕ → List Step) (w' : WorldView) → AreTurns turn'
    → Sees w' (desk_off h st n (done ++ k ∷ []))
    → Tried turn' w' h n ks more (λ front. behind (k ∷ front)))
    → Tried turn w h n (k ∷ ks) more behind
try-one turn w h st n done k ks more behind theirs sees up alone frees rest =
    at (is_queued_at (rows_of h) k) refl
  where
    first : is_queued_at (rows_of h) k ≡ true → (b : ℕ) → b ≤ n
        → phase_of (after_all w (turn 0)) k ≡ Some (first_at b)
        → Tried turn w h n (k ∷ ks) more behind
    first queued zero bound open_now =
        let u = after_all w (turn 0) in
        let seen = many w (desk_off h st n done) (turn 0) (theirs 0) sees in
        let leads = won-leads h st n up done k (queued-row h k queued) alone in
        let step = moves_are_steps u (desk_off h st n done) (won k) seen leads.may.0 open_now in
        tried-won turn w h n k ks more behind queued open_now
        (rest (λ i. turn (suc i)) (after u (step_of (won k))) (λ i. theirs (suc i))
        (subst (Sees (after u (step_of (won k)))) leads.to step.sees))
    first queued (suc b) bound held =
        tried-lost turn w h n b k ks more behind bound held (frees (suc b))

    at : (q : Bool) → is_queued_at (rows_of h) k ≡ q → Tried turn w h n (k ∷ ks) more behind
    at false idle =
        tried-idle turn w h n k ks more behind idle
        (rest turn w theirs (subst (Sees w) (idle-leads h st n up done k idle).to sees))
    at true queued =
        let u = after_all w (turn 0) in
        let seen = many w (desk_off h st n done) (turn 0) (theirs 0) sees in
        let f = first-out u (desk_off h st n done) k seen
        (view-out h st n done k (queued-row h k queued) alone) in
        first queued f.by f.bound f.is

try-all : (turn : ℕ → List Step) (w : WorldView) (h : History) (st : Stock) (n : ℕ)
    (done ks : List Key) (more : List Move) (behind : List Key → Key → ℕ → List Move)
    → AreTurns turn → Sees w (desk_off h st n done)
    → ascending (keys_of h.opening) ≡ true → ascending ks ≡ true → Apart done ks → FreeMoves more
    → ((first : List Key) (k : Key) (b : ℕ) → FreeMoves (behind first k b))
    → Tried turn w h n ks more behind
try-all turn w h st n done [] more behind theirs sees up rise apart free frees =
    inl (free-run turn w more free)
try-all turn w h st n done (k ∷ ks) more behind theirs sees up rise apart free frees =
    let both = and_parts (below_all k ks) (ascending ks) rise in
    try-one turn w h st n done k ks more behind theirs sees up (apart-first done k ks apart)
    (frees [] k)
    (λ turn' w' theirs' sees'.
    try-all turn' w' h st n (done ++ k ∷ []) ks more (λ front. behind (k ∷ front)) theirs' sees' up
    both.1 (apart-rest done k ks both.0 apart) free (λ front. frees (k ∷ front)))

module _ (w : WorldView) (n : ℕ) (old : BookModel) (sees : Sees w (resting old))
    (s : Stands old.history.journal n) where
  abbrev off : List Key
  off = off_for s.can.marked.entry.kind s.can.marked.entry.keys

  abbrev more : List Move
  more =
      undo n ∷ offering (rows_of (without_entry old.history n))
      (off_for s.can.marked.entry.kind s.can.marked.entry.keys)

  abbrev behind : List Key → Key → ℕ → List Move
  behind first k b = offering (rows_of (with_entry old.history (claim_of b k))) (first ++ k ∷ [])

  more-free : FreeMoves more
  more-free =
      free-one (undo n) (offering (rows_of (without_entry old.history n)) off) (λ v. tt)
      (free-offering (rows_of (without_entry old.history n)) off)

  ends : (turn : ℕ → List Step) → Tried turn w old.history old.fixed.builders off more behind
      → (moves : List Move) × (v : WorldView) × RunsWith turn w moves v
      × (UndoMoves None n old (Ok tt) moves
      ⊎ UndoMoves None n old (Err (undos.Blocked (length old.history.journal + 1))) moves)
  ends turn (inl g) = (
    undo_moves n s.can.marked.entry.kind s.can.marked.entry.keys old.history,
    g.0,
    g.1,
    inl (undone-moves w n old sees s tt),
  )
  ends turn (inr st) = (
    blocked_moves (take st.place off) st.key st.by old.history,
    st.going.0,
    st.going.1,
    inr (stopped-moves w n old sees s st.place st.by st.key st.at st.one st.bound),
  )

  goes : (turn : ℕ → List Step) → AreTurns turn
      → (moves : List Move) × (v : WorldView) × RunsWith turn w moves v
      × (UndoMoves None n old (Ok tt) moves
      ⊎ UndoMoves None n old (Err (undos.Blocked (length old.history.journal + 1))) moves)
  goes turn theirs =
      ends turn (try-all turn w old.history old.fixed.stock old.fixed.builders [] off more behind
      theirs sees (up-seen w old sees) (off-rises w n old sees s) (apart-none off) more-free
      (λ first k b.
      free-offering (rows_of (with_entry old.history (claim_of b k))) (first ++ k ∷ [])))

pub undos_go_on : UndosGoOn
undos_go_on w turn n old theirs sees none =
    goes w n old sees (stop-none old.history.journal n none) turn theirs

pub others_go_on : OthersGoOn
others_go_on w turn = (
  (λ t. free-run turn w (offering t (keys_of t)) (free-offering t (keys_of t))),
  (λ k. free-run turn w (arrive k ∷ []) (free-one (arrive k) [] (λ v. tt) free-none)),
  (λ old.
      let rest =
      offering (rows_of (sweeping (resting old) (freed_now old)).history) (freed_now old) in
      free-run turn w (sweep_moves old)
      (free-one sweep rest (λ v. tt)
      (free-offering (rows_of (sweeping (resting old) (freed_now old)).history) (freed_now old)))),
)
