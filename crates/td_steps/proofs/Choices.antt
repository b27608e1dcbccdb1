-- Some choice always fits the world, and with it a command's moves run.
use Rattle.std.proofs.Common.{◌≡◌, ℕ, zero, suc, ◌≤◌, Bool, true, false, ◌&&◌, List, [], ◌∷◌, ◌++◌}
use Rattle.std.proofs.Common.{Option, Some, None, option_map, if◌then◌else◌, filter, map, slice_get}
use Rattle.std.proofs.Common.{ap, refl, sym, subst, ◌∙◌, arith, true≢false}
use Rattle.std.proofs.lemmas.Bool.{and_parts}
use Rattle.td_rows.specs.declared.key.Key.{Key}
use Rattle.td_rows.specs.declared.row.Row.{Row}
use Rattle.td_rows.specs.declared.kind.Kind.{Kind}
use Rattle.td_rows.specs.declared.kind.Kind.TheVariants as kinds
use Rattle.td_rows.specs.Keys.{same_key, names, below_all, ascending}
use Rattle.td_rows.specs.Meaning.{means}
use Rattle.td_rows.specs.States.{is_queued}
use Rattle.td_rows.specs.Table.{Table, row_of, meant}
use Rattle.td_rows.proofs.Keys.{same_key-refl}
use Rattle.td_rows.proofs.Tables.{row_of-each_row}
use Rattle.td_change.proofs.Numbers.{names-below, named-apart, names-more}
use Rattle.td_core.specs.declared.step.Phase.{Phase}
use Rattle.td_core.specs.declared.step.Phase.TheVariants as phases
use Rattle.td_core.specs.declared.step.Step.TheVariants as steps
use Rattle.td_core.specs.declared.step.Refusal.TheVariants.{NotOpen}
use Rattle.td_core.specs.Committing.{takes}
use Rattle.td_core.specs.History.{History, rows_of, with_entry}
use Rattle.td_core.specs.Refusals.{is_queued_at, withdraw_refusal, note_refusal}
use Rattle.td_core.specs.Steps.{after, after_all, noted}
use Rattle.td_core.specs.Worlds.{WorldView, phase_of, with_phase, journaled}
use Rattle.td_core.proofs.Phases.{phase_of-other}
use Rattle.td_core.proofs.WorldSteps.{after-accepted, after-refused}
use Rattle.td_core.proofs.Worlds.{rows_of-with_entry}
use Rattle.td_book.specs.Calls.{is_lost, noting_one, noting, off_for, entered}
use Rattle.td_book.specs.Desk.{BookModel, claim_of}
use Rattle.td_book.specs.Commands.{named_by, is_matched_in}
use Rattle.td_wbread.specs.Kinds.{kind_of}
use Rattle.td_steps.specs.Sees.{Sees, resting}
use Rattle.td_steps.specs.Moves.{Move, offer, won, lost, note, step_of, Chosen}
use Rattle.td_steps.specs.Runs.{Runs}
use Rattle.td_steps.specs.Parts.{withdrawing_one, withdrawing, offering_one, offering, committing}
use Rattle.td_steps.specs.Commands.{entering_moves, command_moves}
use Rattle.td_steps.specs.Choices.{first_at, Decided, WorldsDecide, DecidedCommandsRun}
use Rattle.td_steps.proofs.Parts.{queued-row, view-out, off-rise, up-seen}
use Rattle.td_steps.proofs.Commands.{named-rise}
use Rattle.td_steps.proofs.Turns.{first-out}

-- ---- 1. moves that run with no step of a builder between them

ChosenOn : WorldView → List Move → Type 0
ChosenOn w [] = Unit {0}
ChosenOn w (m ∷ ms) = Chosen w m × ChosenOn (after w (step_of m)) ms

runs-on : (w : WorldView) (ms : List Move) → ChosenOn w ms
    → Runs w ms (after_all w (map step_of ms))
unfolding ChosenOn
runs-on w [] c = record { theirs = []; all = refl; to = refl }
runs-on w (m ∷ ms) c =
    (w, record { theirs = []; all = refl; to = refl }, c.0, runs-on (after w (step_of m)) ms c.1)

chosen-then : (w : WorldView) (a b : List Move) → ChosenOn w a → ((v : WorldView) → ChosenOn v b)
    → ChosenOn w (a ++ b)
unfolding ChosenOn
chosen-then w [] b one two = two w
chosen-then w (m ∷ a) b one two = (one.0, chosen-then (after w (step_of m)) a b one.1 two)

chosen-offering-one : (v : WorldView) (t : Table) (k : Key) → ChosenOn v (offering_one t k)
unfolding ChosenOn
chosen-offering-one v t k =
    elim (is_queued_at t k) as (λ b. ChosenOn v (if b then offer k ∷ [] else [])) [
      | true ↦ (tt, tt)
      | false ↦ tt
    ]

chosen-offering : (v : WorldView) (t : Table) (ks : List Key) → ChosenOn v (offering t ks)
unfolding ChosenOn
chosen-offering v t [] = tt
chosen-offering v t (k ∷ ks) =
    chosen-then v (offering_one t k) (offering t ks) (chosen-offering-one v t k)
    (λ u. chosen-offering u t ks)

chosen-committing : (v : WorldView) (kind : Kind) (ks : List Key) → ChosenOn v (committing kind ks)
unfolding ChosenOn
chosen-committing v kind [] = tt
chosen-committing v kind (k ∷ ks) = (tt, tt)

-- ---- 2. what is decided stays so at other keys

record Kept (w v : WorldView) (ks : List Key) : Type 0 where
  queued : (q : Key) → names ks q ≡ true
      → is_queued_at (rows_of v.history) q ≡ is_queued_at (rows_of w.history) q
  phase : (q : Key) → names ks q ≡ true → is_queued_at (rows_of w.history) q ≡ true
      → phase_of v q ≡ phase_of w q

decided-kept : (w v : WorldView) (ks : List Key) (bs : List ℕ) → Kept w v ks → Decided w ks bs
    → Decided v ks bs
decided-kept w v [] bs kept d = tt
decided-kept w v (k ∷ ks) [] kept d = d
decided-kept w v (k ∷ ks) (b ∷ bs) kept d =
    let here : names (k ∷ ks) k ≡ true =
    ap (λ b. if b then true else names ks k) (same_key-refl k) in (
      (λ now. let was = sym (kept.queued k here) ∙ now in kept.phase k here was ∙ d.0 was),
      decided-kept w v ks bs
          (record {
            queued = λ q named. kept.queued q (names-more ks k q named);
            phase = λ q named. kept.phase q (names-more ks k q named);
          }) d.1,
    )

kept-closed : (w : WorldView) (k : Key) (p : Phase) (ks : List Key) → names ks k ≡ false
    → Kept w (with_phase w k p) ks
kept-closed w k p ks apart = record {
  queued = λ q named. refl;
  phase = λ q named is. let r = queued-row w.history q is in
      phase_of-other w k q p r.row r.found (named-apart ks k q apart named);
}

-- a claim changes no other row
queued-other : (h : History) (k q : Key) (b : ℕ) → same_key q k ≡ false
    → is_queued_at (rows_of (with_entry h (claim_of b k))) q ≡ is_queued_at (rows_of h) q
queued-other h k q b apart =
    ap (λ (t : Table). is_queued_at t q) (rows_of-with_entry h (claim_of b k))
    ∙ ap told (row_of-each_row (meant (kinds.Claim b) (k ∷ [])) (rows_of h) q)
    ∙ at (row_of (rows_of h) q)
  where
    told : Option Row → Bool
    told o = elim o as (λ _. Bool) [ Some r ↦ is_queued r.state | None ↦ false ]

    at : (o : Option Row) → told (option_map (meant (kinds.Claim b) (k ∷ []) q) o) ≡ told o
    at None = refl
    at (Some r) =
        ap (λ v. is_queued
        (if (if v then true else false) then means (kinds.Claim b) r else r).state) apart

kept-noted : (w : WorldView) (k : Key) (b : ℕ) (ks : List Key) → names ks k ≡ false
    → Kept w (with_phase (journaled w (kinds.Claim b) (k ∷ [])) k (phases.Noted b)) ks
kept-noted w k b ks apart = record {
  queued = λ q named. queued-other w.history k q b (named-apart ks k q apart named);
  phase = λ q named is. let r = queued-row w.history q is in
      phase_of-other w k q (phases.Noted b) r.row r.found (named-apart ks k q apart named);
}

-- ---- 3. withdrawals

chosen-one : (w : WorldView) (k : Key) (b : ℕ) (ks : List Key) (bs : List ℕ) → names ks k ≡ false
    → Decided w (k ∷ ks) (b ∷ bs)
    → ((v : WorldView) → Decided v ks bs → ChosenOn v (withdrawing v.history ks bs))
    → ChosenOn w (withdrawing_one w.history k b ++ withdrawing (noting_one w.history k b) ks bs)
unfolding ChosenOn
chosen-one w k b ks bs apart d rest = at (is_queued_at (rows_of w.history) k) (is_lost b) refl refl
  where
    first : (l : Bool) → is_lost b ≡ l → is_queued_at (rows_of w.history) k ≡ true
        → phase_of w k ≡ Some (if l then phases.Held b else phases.Open)
    first l is queued = d.0 queued ∙ ap (λ v. Some (if v then phases.Held b else phases.Open)) is

    at : (q l : Bool) → is_queued_at (rows_of w.history) k ≡ q → is_lost b ≡ l
        → ChosenOn w ((if q then (if l then lost k b ∷ note k b ∷ [] else won k ∷ []) else [])
        ++ withdrawing (if q && l then with_entry w.history (claim_of b k) else w.history) ks bs)
    at false l queued is = rest w d.1
    at true false queued is =
        let open_now = first false is queued in
        let next : after w (steps.Withdraw k) ≡ with_phase w k phases.Closed =
        after-accepted w (steps.Withdraw k) (ap withdraw_refusal open_now) in (
          open_now,
          subst (λ (v : WorldView). ChosenOn v (withdrawing w.history ks bs)) (sym next)
              (rest (with_phase w k phases.Closed)
              (decided-kept w (with_phase w k phases.Closed) ks bs
              (kept-closed w k phases.Closed ks apart) d.1)),
        )
    at true true queued is =
        let held = first true is queued in
        let still : after w (steps.Withdraw k) ≡ w =
        after-refused w (steps.Withdraw k) NotOpen (ap withdraw_refusal held) in
        let v : WorldView = with_phase (journaled w (kinds.Claim b) (k ∷ [])) k (phases.Noted b) in
        let next : after w (steps.Note k) ≡ v =
        after-accepted w (steps.Note k) (ap note_refusal held) ∙ ap (noted w k) held in
        let w_rest = withdrawing (with_entry w.history (claim_of b k)) ks bs in (
          held,
          subst (λ (u : WorldView). ChosenOn u (note k b ∷ w_rest)) (sym still) (
            tt,
            subst (λ (u : WorldView). ChosenOn u w_rest) (sym next)
                (rest v (decided-kept w v ks bs (kept-noted w k b ks apart) d.1)),
          ),
        )

chosen-withdrawing : (w : WorldView) (ks : List Key) (bs : List ℕ) → ascending ks ≡ true
    → Decided w ks bs → ChosenOn w (withdrawing w.history ks bs)
unfolding ChosenOn
chosen-withdrawing w [] bs rise d = tt
chosen-withdrawing w (k ∷ ks) [] rise d = absurd d
chosen-withdrawing w (k ∷ ks) (b ∷ bs) rise d =
    let both = and_parts (below_all k ks) (ascending ks) rise in
    chosen-one w k b ks bs (names-below k ks both.0) d (λ v e. chosen-withdrawing v ks bs both.1 e)

decided-run : (w : WorldView) (kind : Kind) (named matched : List Key) (bs : List ℕ)
    → ascending named ≡ true → Decided w (off_for kind named) bs
    → ChosenOn w (entering_moves kind named matched w.history bs)
decided-run w kind named matched bs rise d =
    let off = off_for kind named in
    let now = noting w.history off bs in
    let taken = takes (rows_of now) kind matched in
    chosen-then w (withdrawing w.history off bs)
    (committing kind taken ++ offering (rows_of (entered now kind taken)) off)
    (chosen-withdrawing w off bs (off-rise kind named rise) d)
    (λ v. chosen-then v (committing kind taken) (offering (rows_of (entered now kind taken)) off)
    (chosen-committing v kind taken)
    (λ u. chosen-offering u (rows_of (entered now kind taken)) off))

pub decided_commands_run : DecidedCommandsRun
decided_commands_run w c old bs sees len d =
    let matched = filter (is_matched_in c old) (named_by c old) in
    let run : ChosenOn w (command_moves c old bs) =
    subst (λ (h : History). ChosenOn w (entering_moves (kind_of c) (named_by c old) matched h bs))
    sees.history
    (decided-run w (kind_of c) (named_by c old) matched bs (named-rise c old (up-seen w old sees))
    d) in
    runs-on w (command_moves c old bs) run

-- ---- 4. each world decides

record First (w : WorldView) (n : ℕ) (k : Key) : Type 0 where
  by : ℕ
  bound : by ≤ n
  is : is_queued_at (rows_of w.history) k ≡ true → phase_of w k ≡ Some (first_at by)

first-at : (w : WorldView) (old : BookModel) (k : Key) → Sees w (resting old)
    → First w old.fixed.builders k
first-at w old k i = at (is_queued_at (rows_of w.history) k) refl
  where
    at : (q : Bool) → is_queued_at (rows_of w.history) k ≡ q → First w old.fixed.builders k
    at false queued =
        record { by = 0; bound = omega arith; is = λ e. absurd (true≢false (sym e ∙ queued)) }
    at true queued =
        let there : is_queued_at (rows_of old.history) k ≡ true =
        ap (λ (h : History). is_queued_at (rows_of h) k) (sym i.history) ∙ queued in
        let first = first-out w (resting old) k i
        (view-out old.history old.fixed.stock old.fixed.builders [] k
        (queued-row old.history k there) refl) in
        record { by = first.by; bound = first.bound; is = λ _. first.is }

pub worlds_decide : WorldsDecide
worlds_decide w old [] i = ([], record { one_each = refl; bound = λ j b at. cc }, tt)
worlds_decide w old (k ∷ ks) i =
    let f = first-at w old k i in
    let rest = worlds_decide w old ks i in (
      f.by ∷ rest.0,
      record { one_each = ap suc rest.1.one_each; bound = bound f.by rest.0 f.bound rest.1.bound },
      (f.is, rest.2),
    )
  where
    bound : (b : ℕ) (bs : List ℕ) → b ≤ old.fixed.builders
        → ((j c : ℕ) → slice_get bs j ≡ Some c → c ≤ old.fixed.builders) → (j c : ℕ)
        → slice_get (b ∷ bs) j ≡ Some c → c ≤ old.fixed.builders
    bound b bs le all zero c at = let same : b ≡ c = cc in omega (arith, le, same)
    bound b bs le all (suc j) c at = all j c at
