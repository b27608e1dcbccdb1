-- The moves of an arrival and of a sweep lead from the book at rest to the book at rest.
use Rattle.std.proofs.Common.{◌≡◌, ◌≢◌, ℕ, ◌+◌, true, List, [], ◌∷◌, Some, None, Ok, Err, length}
use Rattle.std.proofs.Common.{Option, Result, ap, refl, sym, subst, ◌∙◌}
use Rattle.td_board.specs.declared.views.RowView.{RowView}
use Rattle.td_rows.specs.declared.key.Key.{Key}
use Rattle.td_rows.specs.declared.row.Row.{Row}
use Rattle.td_rows.specs.declared.kind.Kind.TheVariants as kinds
use Rattle.td_rows.specs.Keys.{ascending}
use Rattle.td_rows.specs.Meaning.{applies}
use Rattle.td_rows.specs.Table.{row_of, keys_of, AppliesOn}
use Rattle.td_supply.specs.Supply.{Stock}
use Rattle.td_journal.specs.declared.entry.Entry.{Entry}
use Rattle.td_core.specs.History.{History, rows_of, with_entry}
use Rattle.td_core.specs.Offers.{supply_now}
use Rattle.td_core.specs.Worlds.{WorldView}
use Rattle.td_core.proofs.Freeing.{AppliesOn-freed, ascending-freed}
use Rattle.td_core.proofs.Phases.{keys_of-rows_of}
use Rattle.td_core.proofs.WorldSteps.{AppliesOn-one}
use Rattle.td_core.proofs.Worlds.{rows_of-with_entry}
use Rattle.td_book.specs.Desk.{BookModel}
use Rattle.td_book.specs.Seen.{seen_off}
use Rattle.td_book.specs.Arriving.{ArriveOutcome, freed_now, swept_now, SweepOutcome}
use Rattle.td_book.specs.declared.arriving.ArriveRefusal.{ArriveRefusal}
use Rattle.std.specs.declared.alloc.AllocError.{AllocError}
use Rattle.td_book.specs.Tries.{offers_for}
use Rattle.td_book.specs.declared.arriving.ArriveRefusal.TheVariants.{NoSuchRow, DoesNotApply}
use Rattle.td_book.specs.declared.arriving.ArriveRefusal.TheVariants.{NoMemory as NoRoom}
use Rattle.td_book.proofs.Seeing.{arrive_off, waiting_off, desks_off}
use Rattle.td_book.proofs.Steps.{up_now}
use Rattle.td_core.specs.declared.step.Answer.{Answer}
use Rattle.td_core.specs.declared.step.Answer.TheVariants as answers
use Rattle.td_steps.specs.Sees.{resting, Sees}
use Rattle.td_steps.specs.Moves.{Move, arrive, sweep, sweeping, swept_as}
use Rattle.td_steps.specs.Parts.{offering, Tells}
use Rattle.td_steps.specs.Tries.{tried_in, done_in, AreMade}
use Rattle.td_steps.proofs.Tries.{done-offering, made-by, made-none, same-made, still}
use Rattle.td_steps.proofs.Parts.{Leads, leads-then, leads-one, tells-at, desk_off, Moved}
use Rattle.td_steps.proofs.Parts.{offering-all, up-seen, moved-on}
use Rattle.td_steps.specs.Arrivals.{ArriveMoves, ArrivalsAreSteps, sweep_moves, SweepMoves}
use Rattle.td_steps.specs.Arrivals.{SweepsAreSteps}

-- ---- 1. arrivals

arrive-leads : (h : History) (st : Stock) (n : ℕ) (k : Key) (row : Row)
    → ascending (keys_of h.opening) ≡ true → row_of (rows_of h) k ≡ Some row
    → applies kinds.Arrive row ≡ true
    → Leads (desk_off h st n []) (arrive k ∷ [])
    (desk_off (with_entry h (record { kind = kinds.Arrive; keys = k ∷ [] })) st n [])
arrive-leads h st n k row up found fit =
    let e : Entry = record { kind = kinds.Arrive; keys = k ∷ [] } in
    let same : seen_off [] (rows_of h) ≡ seen_off [] (rows_of (with_entry h e)) =
    sym (ap (seen_off []) (rows_of-with_entry h e)
    ∙ arrive_off (k ∷ []) (rows_of h) (up_now h up)
    (AppliesOn-one (rows_of h) kinds.Arrive k row found fit)) in
    leads-one (desk_off h st n []) (desk_off (with_entry h e) st n []) (arrive k) (row, found, fit)
    (ap (λ (x : List RowView). record (desk_off (with_entry h e) st n []) { view = x }) same)

pub arrive-moved : (w : WorldView) (k : Key) (old new : BookModel) (result : Result ℕ ArriveRefusal)
    → Sees w (resting old) → ArriveOutcome k old new result
    → Moved old new (ArriveMoves k old result)
arrive-moved w k old new (Ok n) sees o = record {
  moves = arrive k ∷ [];
  are = (
    refl,
    subst (λ (x : ℕ). Tells (resting old) (arrive k ∷ []) (answers.Entry x)) (sym o.4)
        (tells-at (resting old) (resting old) [] [] (arrive k)
        (answers.Entry (length old.history.journal + 1)) refl refl),
  );
  made = made-none old new (ap (λ (b : BookModel). b.tries) o.3);
  leads = subst (Leads (resting old) (arrive k ∷ [])) (ap resting (sym o.3))
      (arrive-leads old.history old.fixed.stock old.fixed.builders k o.0 (up-seen w old sees) o.1
      o.2);
}
arrive-moved w k old new (Err NoSuchRow) sees o =
    still old new (ArriveMoves k old (Err NoSuchRow)) refl o.1
arrive-moved w k old new (Err (DoesNotApply s)) sees o =
    still old new (ArriveMoves k old (Err (DoesNotApply s))) refl o.4
arrive-moved w k old new (Err NoRoom) sees o =
    still old new (ArriveMoves k old (Err NoRoom)) refl o.3

pub arrivals_are_steps : ArrivalsAreSteps
arrivals_are_steps w k old new result sees o =
    moved-on w old new (ArriveMoves k old result) sees (arrive-moved w k old new result sees o)

-- ---- 2. sweeps

sweep-leads : (old : BookModel) → ascending (keys_of old.history.opening) ≡ true
    → Leads (resting old) (sweep_moves old)
    (resting (record old { history = (sweeping (resting old) (freed_now old)).history }))
sweep-leads old up = at (freed_now old) refl
  where
    fit : AppliesOn (rows_of old.history) kinds.Sweep (freed_now old)
    fit =
        AppliesOn-freed (supply_now old.fixed.stock old.history) (rows_of old.history)
        (up_now old.history up)

    rise : ascending (freed_now old) ≡ true
    rise =
        ascending-freed (supply_now old.fixed.stock old.history) (rows_of old.history)
        (up_now old.history up)

    at : (keys : List Key) → freed_now old ≡ keys
        → Leads (resting old) (sweep
        ∷ offering (rows_of (sweeping (resting old) keys).history) keys)
        (resting (record old { history = (sweeping (resting old) keys).history }))
    at [] is = leads-one (resting old) (resting old) sweep tt (ap (sweeping (resting old)) is)
    at (k ∷ keys) is =
        let e : Entry = record { kind = kinds.Sweep; keys = k ∷ keys } in
        let new = with_entry old.history e in
        let fit' : AppliesOn (rows_of old.history) kinds.Sweep (k ∷ keys) =
        subst (AppliesOn (rows_of old.history) kinds.Sweep) is fit in
        let same : seen_off [] (rows_of old.history) ≡ seen_off (k ∷ keys) (rows_of new) =
        waiting_off (k ∷ keys) (rows_of old.history) (up_now old.history up) fit'
        ∙ sym (ap (seen_off (k ∷ keys)) (rows_of-with_entry old.history e)
        ∙ desks_off (k ∷ keys) (k ∷ keys) kinds.Sweep (rows_of old.history)
        (up_now old.history up) refl fit' (λ _ q named. named)) in
        leads-then (resting old) (desk_off new old.fixed.stock old.fixed.builders (k ∷ keys))
        (desk_off new old.fixed.stock old.fixed.builders []) (sweep ∷ [])
        (offering (rows_of new) (k ∷ keys))
        (leads-one (resting old) (desk_off new old.fixed.stock old.fixed.builders (k ∷ keys)) sweep
        tt (ap (sweeping (resting old)) is
        ∙ ap (λ (x : List RowView).
        record (desk_off new old.fixed.stock old.fixed.builders (k ∷ keys)) { view = x }) same))
        (offering-all new old.fixed.stock old.fixed.builders up (k ∷ keys)
        (ap ascending (sym is) ∙ rise))

swept-none : (old : BookModel) (keys : List Key) → keys ≡ []
    → old.history ≡ (sweeping (resting old) keys).history
swept-none old keys e = sym (ap (λ (ks : List Key). (sweeping (resting old) ks).history) e)

swept-some : (old : BookModel) (keys : List Key) → keys ≢ []
    → with_entry old.history (record { kind = kinds.Sweep; keys = keys })
    ≡ (sweeping (resting old) keys).history
swept-some old [] some = absurd (some refl)
swept-some old (k ∷ keys) some = refl

tells-sweep : (old : BookModel) (behind : List Move) (a : Answer)
    → swept_as (resting old) (freed_now old) ≡ a → Tells (resting old) (sweep ∷ behind) a
tells-sweep old behind a is = tells-at (resting old) (resting old) [] behind sweep a refl is

swept-told-some : (old : BookModel) (keys : List Key) → keys ≢ []
    → swept_as (resting old) keys ≡ answers.Entry (length old.history.journal + 1)
swept-told-some old [] some = absurd (some refl)
swept-told-some old (k ∷ keys) some = refl

module _ (w : WorldView) (old new : BookModel) (sees : Sees w (resting old)) where
  swept-on : resting new
      ≡ resting (record old { history = (sweeping (resting old) (freed_now old)).history })
      → Leads (resting old) (sweep_moves old) (resting new)
  swept-on is =
      subst (Leads (resting old) (sweep_moves old)) (sym is)
      (sweep-leads old (up-seen w old sees))

-- what a sweep offers
swept-made : (old : BookModel) (h : History) (keys : List Key)
    → h ≡ (sweeping (resting old) keys).history
    → done_in (offers_for (rows_of h) keys)
    ≡ tried_in old.history.opening
    (sweep ∷ offering (rows_of (sweeping (resting old) keys).history) keys)
swept-made old h [] is = refl
swept-made old h (k ∷ keys) is =
    ap (λ (x : History). done_in (offers_for (rows_of x) (k ∷ keys))) is
    ∙ done-offering old.history.opening
    (rows_of (with_entry old.history (record { kind = kinds.Sweep; keys = k ∷ keys }))) (k ∷ keys)
    (keys_of-rows_of (with_entry old.history (record { kind = kinds.Sweep; keys = k ∷ keys })))

pub sweep-moved : (w : WorldView) (old new : BookModel) (result : Result (Option ℕ) AllocError)
    → Sees w (resting old) → SweepOutcome old new result → Moved old new (SweepMoves old result)
sweep-moved w old new (Ok None) sees o =
    let is : resting new
    ≡ resting (record old { history = (sweeping (resting old) (freed_now old)).history }) =
    ap resting o.1 ∙ ap (λ (h : History). resting (record old { history = h }))
    (swept-none old (freed_now old) o.0) in
    record {
      moves = sweep_moves old;
      are = (
        refl,
        tells-sweep old (offering (rows_of (sweeping (resting old) (freed_now old)).history)
            (freed_now old)) answers.Nothing (ap (swept_as (resting old)) o.0),
      );
      made = subst (λ (keys : List Key). AreMade old new
          (sweep ∷ offering (rows_of (sweeping (resting old) keys).history) keys)) (sym o.0)
          (same-made old new o.1);
      leads = swept-on w old new sees is;
    }
sweep-moved w old new (Ok (Some n)) sees o =
    let now = swept-some old (freed_now old) o.0 in
    let is : resting new
    ≡ resting (record old { history = (sweeping (resting old) (freed_now old)).history }) =
    ap resting o.1 ∙ ap (λ (h : History). resting (record old { history = h })) now in
    record {
      moves = sweep_moves old;
      are = (
        refl,
        tells-sweep old (offering (rows_of (sweeping (resting old) (freed_now old)).history)
            (freed_now old)) (answers.Entry n)
            (swept-told-some old (freed_now old) o.0 ∙ ap (λ (x : ℕ). answers.Entry x) (sym o.2)),
      );
      made = made-by old new (offers_for (rows_of (swept_now old)) (freed_now old))
          (sweep_moves old) (ap (λ (b : BookModel). b.tries) o.1)
          (swept-made old (swept_now old) (freed_now old) now);
      leads = swept-on w old new sees is;
    }
sweep-moved w old new (Err e) sees o = still old new (SweepMoves old (Err e)) refl o

pub sweeps_are_steps : SweepsAreSteps
sweeps_are_steps w old new result sees o =
    moved-on w old new (SweepMoves old result) sees (sweep-moved w old new result sees o)
