-- The moves of an undo lead from the book at rest to the book at rest.
use Rattle.std.proofs.Common.{◌≡◌, ℕ, ◌+◌, Bool, true, false, List, [], ◌∷◌, ◌++◌}
use Rattle.std.proofs.Common.{append_assoc, ◌≤◌, Option, Some, None, Result, Ok, Err, if◌then◌else◌}
use Rattle.std.proofs.Common.{length, take, drop, slice_get, ap, refl, sym, subst, ◌∙◌}
use Rattle.std.specs.Prelude.{IsSomeAnd}
use Rattle.std.proofs.lemmas.List.{take-append-drop}
use Rattle.td_board.specs.declared.views.RowView.{RowView}
use Rattle.td_board.specs.declared.views.DeskTry.{DeskTry}
use Rattle.td_board.specs.declared.views.DeskTry.TheVariants.{WithdrawalLost, ClaimNoted}
use Rattle.td_rows.specs.declared.key.Key.{Key}
use Rattle.td_rows.specs.Keys.{names, ascending}
use Rattle.td_rows.specs.Kinds.{cells}
use Rattle.td_rows.specs.Table.{keys_of}
use Rattle.td_rows.proofs.Lists.{take-next, drop-next}
use Rattle.td_change.specs.Saved.{place_of, number_of}
use Rattle.td_supply.specs.Supply.{Stock}
use Rattle.td_journal.specs.declared.entry.Mark.{Mark}
use Rattle.td_journal.specs.declared.entry.Mark.TheVariants.{Standing, Undone}
use Rattle.td_journal.specs.declared.entry.Marked.{Marked}
use Rattle.td_journal.specs.Entries.{is_command, standing, entry_at, CanBeUndone}
use Rattle.td_journal.specs.Replay.{Lawful}
use Rattle.td_journal.specs.Touching.{blocker}
use Rattle.td_core.specs.History.{History, rows_of, with_entry, without_entry}
use Rattle.td_core.specs.Refusals.{is_queued_at}
use Rattle.td_core.specs.Worlds.{WorldView}
use Rattle.td_book.specs.Calls.{off_for}
use Rattle.td_book.specs.Desk.{BookModel, claim_of}
use Rattle.td_book.specs.Seen.{seen_off}
use Rattle.td_book.specs.Undoing.{undo_stop, mark_stop, UndoAnswer, UndoOutcome, UndoTries, IsWon}
use Rattle.td_book.specs.Undoing.{IsStopped}
use Rattle.td_book.specs.Tries.{wins_for, offers_for}
use Rattle.td_book.specs.declared.undoing.UndoRefusal.{UndoRefusal}
use Rattle.td_book.specs.declared.undoing.UndoRefusal.TheVariants as undos
use Rattle.td_book.proofs.Steps.{unnamed_before}
use Rattle.td_book.proofs.Withdrawals.{undone_off, ascending_take}
use Rattle.td_book.proofs.Calls.{off_within}
use Rattle.td_core.specs.declared.step.Answer.TheVariants as answers
use Rattle.td_core.proofs.Phases.{keys_of-rows_of}
use Rattle.td_core.proofs.Promises.{entries_rise}
use Rattle.td_steps.specs.Sees.{Desk, resting, Sees}
use Rattle.td_steps.specs.Moves.{Move, lost, note, undo, moved}
use Rattle.td_steps.specs.Runs.{moved_all}
use Rattle.td_steps.specs.Parts.{winning, offering, Tells}
use Rattle.td_steps.specs.Undos.{undo_moves, blocked_moves, LostAt, UndoMoves, UndosAreSteps}
use Rattle.td_steps.proofs.Parts.{Leads, leads-none, leads-then, leads-one, tells-at, Moved}
use Rattle.td_steps.proofs.Parts.{moved_all-append, desk_off, queued-row, lost-leads, named-off}
use Rattle.td_steps.proofs.Parts.{winning-all, offering-all, apart-none, book-is, up-seen}
use Rattle.td_steps.proofs.Parts.{off-rise, moved-on}
use Rattle.td_steps.specs.Tries.{tried_in, done_in, AreMade}
use Rattle.td_steps.proofs.Tries.{made-by, made-none, both, done-winning, done-offering, still}

-- ---- 1. from desk to desk

undo-leads : (h : History) (st : Stock) (b n : ℕ) (c : CanBeUndone h.journal n)
    → blocker h.journal n ≡ None → Lawful h.opening (standing h.journal)
    → ascending (keys_of h.opening) ≡ true → ascending c.marked.entry.keys ≡ true
    → Leads (desk_off h st b []) (undo_moves n c.marked.entry.kind c.marked.entry.keys h)
    (desk_off (without_entry h n) st b [])
undo-leads h st b n c free lawful up rises =
    let e = c.marked.entry in
    let off = off_for e.kind e.keys in
    let new = without_entry h n in
    let rise = off-rise e.kind e.keys rises in
    let within : (cells e.kind).state ≡ true → (k : Key) → names e.keys k ≡ true
    → names off k ≡ true = off_within e.kind e.keys off refl in
    let same : seen_off off (rows_of h) ≡ seen_off off (rows_of new) =
    undone_off h new n off c.marked c free lawful up c.there within refl in
    leads-then (desk_off h st b []) (desk_off h st b off) (desk_off new st b [])
    (winning (rows_of h) off) (undo n ∷ offering (rows_of new) off)
    (winning-all h st b [] off up rise (apart-none off))
    (leads-then (desk_off h st b off) (desk_off new st b off) (desk_off new st b []) (undo n ∷ [])
    (offering (rows_of new) off)
    (leads-one (desk_off h st b off) (desk_off new st b off) (undo n)
    (record {
      stands = c;
      free = free;
      off = λ has k named. named-off h st b off k (within has k named);
    })
    (ap (λ (x : List RowView). record (desk_off new st b off) { view = x }) same))
    (offering-all new st b up off rise))

blocked-leads : (h : History) (st : Stock) (n i b : ℕ) (off : List Key) (k : Key)
    → ascending (keys_of h.opening) ≡ true → ascending off ≡ true → slice_get off i ≡ Some k
    → is_queued_at (rows_of h) k ≡ true
    → Leads (desk_off h st n []) (blocked_moves (take i off) k b h)
    (desk_off (with_entry h (claim_of b k)) st n [])
blocked-leads h st n i b off k up rise at queued =
    let first = take i off in
    let new = with_entry h (claim_of b k) in
    let next : take (i + 1) off ≡ first ++ k ∷ [] = take-next off i k at in
    let rise' : ascending (first ++ k ∷ []) ≡ true =
    ap ascending (sym next) ∙ ascending_take off (i + 1) rise in
    leads-then (desk_off h st n []) (desk_off h st n first) (desk_off new st n [])
    (winning (rows_of h) first) (lost k b ∷ note k b ∷ offering (rows_of new) (first ++ k ∷ []))
    (winning-all h st n [] first up (ascending_take off i rise) (apart-none first))
    (leads-then (desk_off h st n first) (desk_off new st n (first ++ k ∷ [])) (desk_off new st n [])
    (lost k b ∷ note k b ∷ []) (offering (rows_of new) (first ++ k ∷ []))
    (lost-leads h st n up first k b (queued-row h k queued) (unnamed_before off i k rise at))
    (offering-all new st n up (first ++ k ∷ []) rise'))

-- what stands where the journal alone decides nothing
pub record Stands (ms : List Marked) (n : ℕ) : Type 0 where
  pub can : CanBeUndone ms n
  pub free : blocker ms n ≡ None

pub stop-none : (ms : List Marked) (n : ℕ) → undo_stop ms n ≡ None → Stands ms n
stop-none ms n h = at (entry_at ms n) refl h
  where
    by_mark : (m : Marked) (mark : Mark) (o : Option ℕ) → mark_stop mark o ≡ None
        → (mark ≡ Standing) × (o ≡ None)
    by_mark m Undone o g = cc
    by_mark m Standing (Some b) g = cc
    by_mark m Standing None g = (refl, refl)

    by_kind : (m : Marked) → entry_at ms n ≡ Some m → (v : Bool) → is_command m.entry.kind ≡ v
        → (if v then mark_stop m.mark (blocker ms n) else Some undos.NotACommand) ≡ None
        → Stands ms n
    by_kind m there false is g = cc
    by_kind m there true is g =
        let s = by_mark m m.mark (blocker ms n) g in
        record {
          can = record { marked = m; there = there; stands = s.0; command = is };
          free = s.1;
        }

    at : (o : Option Marked) → entry_at ms n ≡ o
        → (elim o as (λ _. Option UndoRefusal) [
          | Some m ↦
              if is_command m.entry.kind then mark_stop m.mark (blocker ms n)
              else Some undos.NotACommand
          | None ↦ Some undos.NoSuchEntry
        ]) ≡ None → Stands ms n
    at None there g = cc
    at (Some m) there g = by_kind m there (is_command m.entry.kind) refl g

-- ---- 2. an undo

tells-claim : (h : History) (st : Stock) (n i b : ℕ) (off : List Key) (k : Key)
    → ascending (keys_of h.opening) ≡ true → ascending off ≡ true
    → Tells (desk_off h st n []) (blocked_moves (take i off) k b h)
    (answers.Entry (length h.journal + 1))
tells-claim h st n i b off k up rise =
    let first = take i off in
    let ms = offering (rows_of (with_entry h (claim_of b k))) (first ++ k ∷ []) in
    let before = winning (rows_of h) first in
    let won_first = winning-all h st n [] first up (ascending_take off i rise) (apart-none first) in
    let to : moved_all (desk_off h st n []) (before ++ lost k b ∷ [])
    ≡ moved (desk_off h st n first) (lost k b) =
    moved_all-append (desk_off h st n []) before (lost k b ∷ [])
    ∙ ap (λ (z : Desk). moved z (lost k b)) won_first.to in
    subst (λ (all : List Move).
    Tells (desk_off h st n []) all (answers.Entry (length h.journal + 1)))
    (append_assoc before (lost k b ∷ []) (note k b ∷ ms))
    (tells-at (desk_off h st n []) (moved (desk_off h st n first) (lost k b))
    (before ++ lost k b ∷ []) ms (note k b) (answers.Entry (length h.journal + 1)) to refl)

behind-first : (first : List Key) (k : Key) (rest : List Key)
    → slice_get (first ++ k ∷ rest) (length first) ≡ Some k
behind-first [] k rest = refl
behind-first (q ∷ first) k rest = behind-first first k rest

first-of : (first rest : List Key) → take (length first) (first ++ rest) ≡ first
first-of [] rest = refl
first-of (q ∷ first) rest = ap (λ (ks : List Key). q ∷ ks) (first-of first rest)

-- what an undo does that stops is what its moves are
blocked-made : (old new : BookModel) (first : List Key) (k : Key) (by : ℕ)
    → (let h = old.history in
    new.tries ≡ old.tries ++ (wins_for (rows_of h) first
    ++ WithdrawalLost (number_of (rows_of h) k) by ∷ ClaimNoted (number_of (rows_of h) k) by
    ∷ offers_for (rows_of (with_entry h (claim_of by k))) (first ++ k ∷ [])))
    → AreMade old new (blocked_moves first k by old.history)
blocked-made old new first k by told =
    let h = old.history in
    let o = h.opening in
    let end = with_entry h (claim_of by k) in
    let at : number_of (rows_of h) k ≡ number_of o k =
    ap (λ (ks : List Key). place_of ks k) (keys_of-rows_of h) in
    let again : done_in (offers_for (rows_of end) (first ++ k ∷ []))
    ≡ tried_in o (offering (rows_of end) (first ++ k ∷ [])) =
    done-offering o (rows_of end) (first ++ k ∷ []) (keys_of-rows_of end) in
    let more : List DeskTry = WithdrawalLost (number_of (rows_of h) k) by
    ∷ ClaimNoted (number_of (rows_of h) k) by
    ∷ offers_for (rows_of end) (first ++ k ∷ []) in
    made-by old new (wins_for (rows_of h) first ++ more) (blocked_moves first k by h) told
    (both o (wins_for (rows_of h) first) more (winning (rows_of h) first)
    (lost k by ∷ note k by ∷ offering (rows_of end) (first ++ k ∷ []))
    (done-winning o (rows_of h) first (keys_of-rows_of h))
    (λ j. WithdrawalLost (at j) by ∷ ClaimNoted (at j) by ∷ again j))

module _ (w : WorldView) (n : ℕ) (old : BookModel) (sees : Sees w (resting old))
    (s : Stands old.history.journal n) where
  pub rises : ascending s.can.marked.entry.keys ≡ true
  rises =
      (entries_rise w n s.can.marked sees.sound
      (ap (λ (h : History). entry_at h.journal n) sees.history ∙ s.can.there)).rising

  pub off-rises : ascending (off_for s.can.marked.entry.kind s.can.marked.entry.keys) ≡ true
  off-rises = off-rise s.can.marked.entry.kind s.can.marked.entry.keys rises

  lawful : Lawful old.history.opening (standing old.history.journal)
  lawful =
      subst (λ (h : History). Lawful h.opening (standing h.journal)) sees.history sees.sound.lawful

  pub undone-moves : (u : Unit {0})
      → UndoMoves None n old (Ok u)
      (undo_moves n s.can.marked.entry.kind s.can.marked.entry.keys old.history)
  undone-moves u =
      let e = s.can.marked.entry in
      let h = old.history in
      let off = off_for e.kind e.keys in
      let ms = undo_moves n e.kind e.keys h in
      let won_all = winning-all h old.fixed.stock old.fixed.builders [] off
      (up-seen w old sees) off-rises (apart-none off) in (
        subst (λ (x : Option Marked).
            IsSomeAnd x (λ (m : Marked). ms ≡ undo_moves n m.entry.kind m.entry.keys h))
            (sym s.can.there) refl,
        tells-at (resting old) (desk_off h old.fixed.stock old.fixed.builders off)
            (winning (rows_of h) off) (offering (rows_of (without_entry h n)) off) (undo n)
            (answers.Undone n) won_all.to refl,
      )

  pub stopped-moves : (i by : ℕ) (k : Key)
      → slice_get (off_for s.can.marked.entry.kind s.can.marked.entry.keys) i ≡ Some k → 1 ≤ by
      → by ≤ old.fixed.builders
      → UndoMoves None n old (Err (undos.Blocked (length old.history.journal + 1)))
      (blocked_moves (take i (off_for s.can.marked.entry.kind s.can.marked.entry.keys)) k by
      old.history)
  stopped-moves i by k at one some_builder =
      let e = s.can.marked.entry in
      let h = old.history in
      let off = off_for e.kind e.keys in
      let ms = blocked_moves (take i off) k by h in
      let parts : off ≡ take i off ++ k ∷ drop (i + 1) off =
      sym (take-append-drop i off)
      ∙ ap (λ (x : List Key). take i off ++ x) (drop-next off i k at) in
      let lost_at : LostAt off old ms =
      record {
        first = take i off;
        key = k;
        rest = drop (i + 1) off;
        by = by;
        one = one;
        some_builder = some_builder;
        named = parts;
        moves_are = refl;
      } in (
        subst (λ (x : Option Marked).
            IsSomeAnd x (λ (m : Marked). LostAt (off_for m.entry.kind m.entry.keys) old ms))
            (sym s.can.there) lost_at,
        tells-claim h old.fixed.stock old.fixed.builders i by off k (up-seen w old sees) off-rises,
      )

  made : (new : BookModel) → new.fixed ≡ old.fixed → (r : Result (Unit {0}) UndoRefusal)
      → UndoOutcome n old new r → UndoTries n old new r
      → Moved old new (UndoMoves None n old r)
  made new fixed (Ok u) o tried =
      let e = s.can.marked.entry in
      let h = old.history in
      let off = off_for e.kind e.keys in
      let end = without_entry h n in
      let ms = undo_moves n e.kind e.keys h in
      let told : new.tries
      ≡ old.tries ++ (wins_for (rows_of h) off ++ offers_for (rows_of new.history) off) =
      subst (λ (x : Option Marked).
      IsSomeAnd x (λ (m : Marked).
      new.tries
      ≡ old.tries ++ (wins_for (rows_of h) (off_for m.entry.kind m.entry.keys)
      ++ offers_for (rows_of new.history) (off_for m.entry.kind m.entry.keys)))) s.can.there
      tried in
      record {
        moves = ms;
        are = undone-moves u;
        made = made-by old new (wins_for (rows_of h) off ++ offers_for (rows_of end) off) ms
            (told ∙ ap (λ (x : History).
            old.tries ++ (wins_for (rows_of h) off ++ offers_for (rows_of x) off)) o)
            (both h.opening (wins_for (rows_of h) off) (offers_for (rows_of end) off)
            (winning (rows_of h) off) (undo n ∷ offering (rows_of end) off)
            (done-winning h.opening (rows_of h) off (keys_of-rows_of h))
            (done-offering h.opening (rows_of end) off (keys_of-rows_of end)));
        leads = subst (Leads (resting old) ms)
            (book-is old new (without_entry old.history n) o fixed)
            (undo-leads old.history old.fixed.stock old.fixed.builders n s.can s.free lawful
            (up-seen w old sees) rises);
      }
  made new fixed (Err undos.NoMemory) o tried = record {
    moves = [];
    are = refl;
    made = made-none old new tried;
    leads = leads-none (resting old) (resting new) (book-is old new old.history o fixed);
  }
  made new fixed (Err (undos.Blocked b)) o tried =
      let e = s.can.marked.entry in
      let h = old.history in
      let off = off_for e.kind e.keys in
      let won_by : IsWon h new.history old.fixed.builders off b =
      subst (λ (x : Option Marked).
      IsSomeAnd x (λ (m : Marked).
      IsWon h new.history old.fixed.builders (off_for m.entry.kind m.entry.keys) b)) s.can.there
      o in
      let stop : IsStopped h new.history old.fixed.builders off old.tries new.tries =
      subst (λ (x : Option Marked).
      IsSomeAnd x (λ (m : Marked).
      IsStopped h new.history old.fixed.builders (off_for m.entry.kind m.entry.keys) old.tries
      new.tries)) s.can.there tried in
      let place = length stop.first in
      let k = stop.key in
      let by = stop.by in
      let end = with_entry h (claim_of by k) in
      let at : slice_get off place ≡ Some k =
      ap (λ (ks : List Key). slice_get ks place) stop.split ∙ behind-first stop.first k stop.rest in
      let front : take place off ≡ stop.first =
      ap (take place) stop.split ∙ first-of stop.first (k ∷ stop.rest) in
      let ms = blocked_moves (take place off) k by h in
      let moves : blocked_moves stop.first k by h ≡ ms =
      ap (λ (ks : List Key). blocked_moves ks k by h) (sym front) in
      record {
        moves = ms;
        are = subst (λ (x : ℕ). UndoMoves None n old (Err (undos.Blocked x)) ms) (sym won_by.number)
            (stopped-moves place by k at stop.one stop.some_builder);
        made = subst (AreMade old new) moves
            (blocked-made old new stop.first k by
            (stop.tries
            ∙ ap (λ (x : History). old.tries ++ (wins_for (rows_of h) stop.first
            ++ WithdrawalLost (number_of (rows_of h) k) by
            ∷ ClaimNoted (number_of (rows_of h) k) by
            ∷ offers_for (rows_of x) (stop.first ++ k ∷ []))) stop.now));
        leads = subst (Leads (resting old) ms) (book-is old new end stop.now fixed)
            (blocked-leads h old.fixed.stock old.fixed.builders place by off k
            (up-seen w old sees) off-rises at stop.out);
      }
  made new fixed (Err undos.NoSuchEntry) o tried = absurd o
  made new fixed (Err undos.NotACommand) o tried = absurd o
  made new fixed (Err undos.AlreadyUndone) o tried = absurd o

stopped : (w : WorldView) (n : ℕ) (old new : BookModel) (sees : Sees w (resting old))
    (x : Option UndoRefusal) (result : Result (Unit {0}) UndoRefusal)
    → undo_stop old.history.journal n ≡ x → UndoAnswer x n old new result
    → Moved old new (UndoMoves x n old result)
stopped w n old new sees (Some r) result is a =
    still old new (UndoMoves (Some r) n old result) refl a.1
stopped w n old new sees None result is a =
    made w n old sees (stop-none old.history.journal n is) new a.fixed result a.outcome a.tries

pub undo-moved : (w : WorldView) (n : ℕ) (old new : BookModel)
    (result : Result (Unit {0}) UndoRefusal) → Sees w (resting old)
    → UndoAnswer (undo_stop old.history.journal n) n old new result
    → Moved old new (UndoMoves (undo_stop old.history.journal n) n old result)
undo-moved w n old new result sees answer =
    stopped w n old new sees (undo_stop old.history.journal n) result refl answer

pub undos_are_steps : UndosAreSteps
undos_are_steps w n old new result sees answer =
    moved-on w old new (UndoMoves (undo_stop old.history.journal n) n old result) sees
    (undo-moved w n old new result sees answer)
