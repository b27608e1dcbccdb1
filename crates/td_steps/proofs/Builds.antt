-- The moves of a start and of a finish lead from the book at rest to the book at rest.
use Rattle.std.proofs.Common.{◌≡◌, ◌≢◌, ◌⊎◌, ◌++◌, ℕ, Bool, true, false, List, [], ◌∷◌, Option}
use Rattle.std.proofs.Common.{Some, None, Ok, Err, set, ap, refl, sym, subst, ◌∙◌, inl, inr}
use Rattle.std.proofs.Common.{append-nil, Result}
use Rattle.td_board.specs.declared.outcome.OutcomeCode.{OutcomeCode}
use Rattle.td_board.specs.declared.views.BuilderView.{BuilderView}
use Rattle.td_board.specs.declared.views.DeskTry.TheVariants.{SettleDone, SettleEarly}
use Rattle.td_board.specs.declared.views.Hand.{Hand}
use Rattle.td_board.specs.declared.views.Hand.TheVariants.{Free, Holding, Finished}
use Rattle.td_board.specs.declared.views.RowView.{RowView}
use Rattle.td_board.specs.declared.views.RowView.TheVariants as views
use Rattle.td_rows.specs.declared.key.Key.{Key}
use Rattle.td_rows.specs.declared.row.Row.{Row}
use Rattle.td_rows.specs.declared.kind.Kind.TheVariants as kinds
use Rattle.td_rows.specs.declared.outcome.Outcome.{Outcome}
use Rattle.td_rows.specs.Keys.{ascending}
use Rattle.td_rows.specs.States.{is_building_by}
use Rattle.td_rows.specs.Table.{Table, row_of, keys_of}
use Rattle.td_change.specs.Saved.{number_of}
use Rattle.td_supply.specs.Supply.{Stock}
use Rattle.td_journal.specs.declared.entry.Entry.{Entry}
use Rattle.td_core.specs.History.{History, rows_of, with_entry}
use Rattle.td_core.specs.Worlds.{WorldView}
use Rattle.td_core.proofs.Phases.{keys_of-rows_of}
use Rattle.td_core.proofs.Worlds.{rows_of-with_entry}
use Rattle.td_book.specs.Calls.{noting_one}
use Rattle.td_book.specs.Desk.{BookModel}
use Rattle.td_book.specs.Seen.{seen_off}
use Rattle.td_board.specs.declared.views.DeskTry.{DeskTry}
use Rattle.td_book.specs.Building.{Noticed, is_built_at, EndsShort, StartOutcome}
use Rattle.td_book.specs.declared.starting.Job.{Job}
use Rattle.td_book.specs.declared.starting.StartRefusal.{StartRefusal}
use Rattle.td_book.specs.declared.finishing.FinishRefusal.{FinishRefusal}
use Rattle.td_book.specs.Deeds.{code_of}
use Rattle.td_book.specs.Tries.{look_at, offers_for}
use Rattle.td_book.specs.declared.starting.StartRefusal.TheVariants as starts
use Rattle.td_book.specs.declared.finishing.FinishRefusal.TheVariants as finishes
use Rattle.td_book.proofs.Builds.{ended_off, known-built}
use Rattle.td_book.proofs.Steps.{noting_one-opening, up_now}
use Rattle.td_core.specs.declared.step.Answer.TheVariants as answers
use Rattle.td_steps.specs.Sees.{resting, view_of, Sees}
use Rattle.td_steps.specs.Moves.{settle}
use Rattle.td_steps.specs.Parts.{withdrawing, offering, Tells}
use Rattle.td_steps.proofs.Parts.{Leads, leads-none, leads-then, leads-one, tells-at, desk_off}
use Rattle.td_steps.proofs.Parts.{view-of-row, row-at, withdrawing-all, offering-all, apart-none}
use Rattle.td_steps.proofs.Parts.{book-is, up-seen, Moved, moved-on}
use Rattle.td_steps.specs.Tries.{done_in}
use Rattle.td_steps.proofs.Tries.{done_in-append, made-by, both, done-notice, done-settle}
use Rattle.td_steps.proofs.Tries.{numbered, still}
use Rattle.td_book.specs.Finishing.{Finishes, Settles, FinishOutcome}
use Rattle.td_steps.specs.Builds.{notice_moves, Notices, StartsAreSteps, settle_moves, Ends}
use Rattle.td_steps.specs.Builds.{SettlesAt, FinishesAreSteps, StartMoves, FinishMoves}

-- ---- 1. a start

notice-leads : (h : History) (st : Stock) (n by : ℕ) (k : Key)
    → ascending (keys_of h.opening) ≡ true
    → Leads (desk_off h st n []) (notice_moves k by h) (desk_off (noting_one h k by) st n [])
notice-leads h st n by k up =
    let new = noting_one h k by in
    leads-then (desk_off h st n []) (desk_off new st n (k ∷ [])) (desk_off new st n [])
    (withdrawing h (k ∷ []) (by ∷ [])) (offering (rows_of new) (k ∷ []))
    (withdrawing-all h st n [] (k ∷ []) (by ∷ []) up refl refl (apart-none (k ∷ [])))
    (offering-all new st n
    (ap (λ (t : Table). ascending (keys_of t)) (noting_one-opening h k by) ∙ up) (k ∷ []) refl)

module _ (w : WorldView) (old new : BookModel) (sees : Sees w (resting old)) where
  noticed : (tries : List DeskTry) (i b : ℕ) (is : Bool) → Noticed i b is tries old new
      → done_in tries ≡ [] → Moved old new (Notices i old)
  noticed tries i b is o none =
      let opening = old.history.opening in
      let looked = look_at (rows_of old.history) o.key o.by in
      let ms = notice_moves o.key o.by old.history in
      record {
        moves = ms;
        are = record {
          key = o.key;
          at = o.at;
          by = o.by;
          some_builder = o.some_builder;
          moves_are = refl;
        };
        made = made-by old new (looked ++ tries) ms o.tries
            (done_in-append looked tries ∙ ap (λ (l : List DeskTry). done_in looked ++ l) none
            ∙ append-nil (done_in looked)
            ∙ done-notice opening old.history o.key o.by (keys_of-rows_of old.history));
        leads = subst (Leads (resting old) ms)
            (book-is old new (noting_one old.history o.key o.by) o.history o.fixed)
            (notice-leads old.history old.fixed.stock old.fixed.builders o.by o.key
            (up-seen w old sees));
      }

pub start-moved : (w : WorldView) (b : ℕ) (hand : Hand) (old new : BookModel)
    (result : Result Job StartRefusal) → Sees w (resting old) → StartOutcome b hand old new result
    → Moved old new (StartMoves hand old result)
start-moved w b (Holding i) old new (Ok job) sees o = noticed w old new sees [] i b true o.0 refl
start-moved w b (Holding i) old new (Err starts.Mismatch) sees o =
    noticed w old new sees [] i b false o refl
start-moved w b (Holding i) old new (Err starts.NothingHeld) sees o = absurd o
start-moved w b (Holding i) old new (Err starts.NoMemory) sees o =
    still old new (StartMoves (Holding i) old (Err starts.NoMemory)) refl o
start-moved w b Free old new r sees o = still old new (StartMoves Free old r) refl o.1
start-moved w b (Finished i c) old new r sees o =
    still old new (StartMoves (Finished i c) old r) refl o.1

pub starts_are_steps : StartsAreSteps
starts_are_steps w b hand old new result sees o =
    moved-on w old new (StartMoves hand old result) sees
    (start-moved w b hand old new result sees o)

-- ---- 2. a finish

pub record BuiltRow (h : History) (k : Key) (b : ℕ) : Type 0 where
  pub row : Row
  pub found : row_of (rows_of h) k ≡ Some row
  pub built : is_building_by b row.state ≡ true

pub built-row : (h : History) (k : Key) (b : ℕ) → is_built_at (rows_of h) k b ≡ true
    → BuiltRow h k b
built-row h k b is = at (row_of (rows_of h) k) refl is
  where
    at : (o : Option Row) → row_of (rows_of h) k ≡ o
        → (elim o as (λ _. Bool) [ Some r ↦ is_building_by b r.state | None ↦ false ]) ≡ true
        → BuiltRow h k b
    at None gone q = cc
    at (Some row) found q = record { row = row; found = found; built = q }

settle-leads : (h : History) (st : Stock) (n b : ℕ) (o : Outcome) (k : Key)
    → ascending (keys_of h.opening) ≡ true → is_built_at (rows_of h) k b ≡ true
    → Leads (desk_off h st n []) (settle_moves k b o h)
    (desk_off (with_entry h (record { kind = kinds.Outcome b o; keys = k ∷ [] })) st n [])
settle-leads h st n b o k up built =
    let e : Entry = record { kind = kinds.Outcome b o; keys = k ∷ [] } in
    let new = with_entry h e in
    let r = built-row h k b built in
    let i = number_of h.opening k in
    let known : view_of (desk_off h st n []) k ≡ Some (views.Known b) =
    view-of-row h st n [] k r.row r.found
    ∙ ap (λ (v : RowView). Some v) (known-built b r.row.state r.built) in
    let same : set (seen_off [] (rows_of h)) i views.In ≡ seen_off (k ∷ []) (rows_of new) =
    ended_off (rows_of h) i k r.row b o (up_now h up) (row-at h k r.row r.found)
    ∙ ap (seen_off (k ∷ [])) (sym (rows_of-with_entry h e)) in
    leads-then (desk_off h st n []) (desk_off new st n (k ∷ [])) (desk_off new st n [])
    (settle k b o ∷ []) (offering (rows_of new) (k ∷ []))
    (leads-one (desk_off h st n []) (desk_off new st n (k ∷ [])) (settle k b o) known
    (ap (λ (x : List RowView). record (desk_off new st n (k ∷ [])) { view = x }) same))
    (offering-all new st n up (k ∷ []) refl)

module _ (w : WorldView) (old new : BookModel) (sees : Sees w (resting old)) where
  ended : (i b n : ℕ) (o : Outcome) → Finishes i b o old new n
      → Moved old new
      (λ moves. Ends i b o old moves × Tells (resting old) moves (answers.Entry n))
  ended i b n o e =
      let h = old.history in
      let mid = noting_one h e.key e.by in
      let end = with_entry mid (record { kind = kinds.Outcome b o; keys = e.key ∷ [] }) in
      let up = up-seen w old sees in
      let up' : ascending (keys_of mid.opening) ≡ true =
      ap (λ (t : Table). ascending (keys_of t)) (noting_one-opening h e.key e.by) ∙ up in
      let ms = notice_moves e.key e.by h ++ settle_moves e.key b o mid in
      let first = notice-leads h old.fixed.stock old.fixed.builders e.by e.key up in
      let all : Leads (resting old) ms (desk_off end old.fixed.stock old.fixed.builders []) =
      leads-then (resting old) (desk_off mid old.fixed.stock old.fixed.builders [])
      (desk_off end old.fixed.stock old.fixed.builders []) (notice_moves e.key e.by h)
      (settle_moves e.key b o mid)
      first (settle-leads mid old.fixed.stock old.fixed.builders b o e.key up' e.built) in
      record {
        moves = ms;
        are = (
          record {
            key = e.key;
            at = e.at;
            by = e.by;
            some_builder = e.some_builder;
            moves_are = refl;
          },
          tells-at (resting old) (desk_off mid old.fixed.stock old.fixed.builders [])
              (notice_moves e.key e.by h) (offering (rows_of end) (e.key ∷ [])) (settle e.key b o)
              (answers.Entry n) first.to (ap (λ (x : ℕ). answers.Entry x) (sym e.number)),
        );
        made = made-by old new
            (look_at (rows_of h) e.key e.by
            ++ SettleDone i (code_of o) ∷ offers_for (rows_of end) (e.key ∷ [])) ms
            (e.tries ∙ ap (λ (x : History). old.tries ++ (look_at (rows_of h) e.key e.by
            ++ SettleDone i (code_of o) ∷ offers_for (rows_of x) (e.key ∷ []))) e.history)
            (both h.opening (look_at (rows_of h) e.key e.by)
            (SettleDone i (code_of o) ∷ offers_for (rows_of end) (e.key ∷ []))
            (notice_moves e.key e.by h) (settle_moves e.key b o mid)
            (done-notice h.opening h e.key e.by (keys_of-rows_of h))
            (done-settle h.opening mid i b o e.key
            (keys_of-rows_of end
            ∙ ap (λ (t : Table). keys_of t) (noting_one-opening h e.key e.by))
            (numbered h.opening i e.key up e.at)));
        leads = subst (Leads (resting old) ms) (book-is old new end e.history e.fixed) all;
      }

  settled : (i b n : ℕ) (o : Outcome) → Settles i b o old new n
      → Moved old new
      (λ moves. SettlesAt i b o old moves × Tells (resting old) moves (answers.Entry n))
  settled i b n o e =
      let h = old.history in
      let end = with_entry h (record { kind = kinds.Outcome b o; keys = e.key ∷ [] }) in
      let ms = settle_moves e.key b o h in
      record {
        moves = ms;
        are = (
          record { key = e.key; at = e.at; moves_are = refl },
          tells-at (resting old) (resting old) [] (offering (rows_of end) (e.key ∷ []))
              (settle e.key b o) (answers.Entry n) refl
              (ap (λ (x : ℕ). answers.Entry x) (sym e.number)),
        );
        made = made-by old new
            (SettleDone i (code_of o) ∷ offers_for (rows_of end) (e.key ∷ [])) ms
            (e.tries ∙ ap (λ (x : History). old.tries
            ++ SettleDone i (code_of o) ∷ offers_for (rows_of x) (e.key ∷ [])) e.history)
            (done-settle h.opening h i b o e.key (keys_of-rows_of end)
            (numbered h.opening i e.key (up-seen w old sees) e.at));
        leads = subst (Leads (resting old) ms) (book-is old new end e.history e.fixed)
            (settle-leads h old.fixed.stock old.fixed.builders b o e.key
            (up-seen w old sees) e.built);
      }

-- a settling that came too early is nothing
short-none : (i : ℕ) (c : OutcomeCode) (is : Bool) (behind : List DeskTry) (v u : BuilderView)
    → EndsShort i c is behind v u → done_in behind ≡ []
short-none i c is behind v u (inl e) = ap done_in e.1
short-none i c is behind v u (inr (inl e)) = ap done_in e.1
short-none i c is behind v u (inr (inr e)) = ap done_in e.1

again-none : (i : ℕ) (c : OutcomeCode) (o : Outcome) (more : List DeskTry)
    → ((code_of o ≢ c) × (more ≡ [])) ⊎ ((code_of o ≡ c) × (more ≡ SettleEarly i c ∷ []))
    → done_in more ≡ []
again-none i c o more (inl e) = ap done_in e.1
again-none i c o more (inr e) = ap done_in e.1

pub finish-moved : (w : WorldView) (hand : Hand) (o : Outcome) (v u : BuilderView)
    (old new : BookModel) (result : Result ℕ FinishRefusal) → Sees w (resting old)
    → FinishOutcome hand o v u old new result
    → Moved old new (FinishMoves hand v.number o old result)
finish-moved w (Holding i) o v u old new (Ok n) sees is =
    ended w old new sees i v.number n o is.0
finish-moved w (Holding i) o v u old new (Err finishes.Mismatch) sees is =
    noticed w old new sees is.1 i v.number is.0 is.2
    (short-none i (code_of o) is.0 is.1 v u is.3)
finish-moved w (Holding i) o v u old new (Err finishes.NothingHeld) sees is = absurd is
finish-moved w (Holding i) o v u old new (Err finishes.NoMemory) sees is =
    still old new (FinishMoves (Holding i) v.number o old (Err finishes.NoMemory)) refl is.0
finish-moved w (Finished i c) o v u old new (Ok n) sees is =
    settled w old new sees i v.number n o is.0.1
finish-moved w (Finished i c) o v u old new (Err finishes.Mismatch) sees is = record {
  moves = [];
  are = refl;
  made = made-by old new is.0.1.0 [] (ap (λ (b : BookModel). b.tries) is.0.1.1)
      (again-none i c o is.0.1.0 is.0.1.2);
  leads = leads-none (resting old) (resting new) (sym (ap resting is.0.1.1));
}
finish-moved w (Finished i c) o v u old new (Err finishes.NothingHeld) sees is =
    still old new (FinishMoves (Finished i c) v.number o old (Err finishes.NothingHeld)) refl is.0.1
finish-moved w (Finished i c) o v u old new (Err finishes.NoMemory) sees is =
    still old new (FinishMoves (Finished i c) v.number o old (Err finishes.NoMemory)) refl is.0.1
finish-moved w Free o v u old new (Ok n) sees is =
    still old new (FinishMoves Free v.number o old (Ok n)) refl is.1
finish-moved w Free o v u old new (Err finishes.Mismatch) sees is =
    still old new (FinishMoves Free v.number o old (Err finishes.Mismatch)) refl is.1
finish-moved w Free o v u old new (Err finishes.NothingHeld) sees is =
    still old new (FinishMoves Free v.number o old (Err finishes.NothingHeld)) refl is.1
finish-moved w Free o v u old new (Err finishes.NoMemory) sees is =
    still old new (FinishMoves Free v.number o old (Err finishes.NoMemory)) refl is.1

pub finishes_are_steps : FinishesAreSteps
finishes_are_steps w hand o before behind old new result sees is =
    moved-on w old new (FinishMoves hand before.number o old result) sees
    (finish-moved w hand o before behind old new result sees is)
