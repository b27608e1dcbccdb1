-- Each move of the desk is a step, and builders' steps change nothing that the book knows.
use Rattle.std.proofs.Common.{◌≡◌, ℕ, ◌+◌, Bool, true, false, not, List, [], ◌∷◌, Option, Some}
use Rattle.std.proofs.Common.{None, cond, find, if◌then◌else◌, length, set, ap, refl, sym, subst}
use Rattle.std.proofs.Common.{◌∙◌}
use Rattle.std.specs.Prelude.{is_none}
use Rattle.std.proofs.lemmas.Bool.{and_parts}
use Rattle.std.proofs.lemmas.List.{length-set}
use Rattle.td_board.specs.declared.views.RowView.{RowView}
use Rattle.td_board.specs.declared.views.RowView.TheVariants as views
use Rattle.td_rows.specs.declared.key.Key.{Key}
use Rattle.td_rows.specs.declared.row.Row.{Row}
use Rattle.td_rows.specs.declared.kind.Kind.{Kind}
use Rattle.td_rows.specs.declared.kind.Kind.TheVariants as kinds
use Rattle.td_rows.specs.declared.outcome.Outcome.{Outcome}
use Rattle.td_rows.specs.Keys.{names}
use Rattle.td_rows.specs.Kinds.{cells}
use Rattle.td_rows.specs.Meaning.{applies}
use Rattle.td_rows.specs.Table.{row_of, AppliesOn}
use Rattle.td_rows.proofs.Keys.{same_key-refl}
use Rattle.td_change.specs.Saved.{number_of}
use Rattle.td_change.proofs.Numbers.{names-more}
use Rattle.td_journal.specs.Entries.{entry_at}
use Rattle.td_journal.specs.Touching.{blocker}
use Rattle.td_core.specs.declared.step.Phase.{Phase}
use Rattle.td_core.specs.declared.step.Phase.TheVariants as phases
use Rattle.td_core.specs.declared.step.Hand.TheVariants as hands
use Rattle.td_core.specs.declared.step.Answer.TheVariants as answers
use Rattle.td_core.specs.declared.step.Refusal.{Refusal}
use Rattle.td_core.specs.declared.step.Refusal.TheVariants.{NotACommand, NoKeys, NoSuchRow}
use Rattle.td_core.specs.declared.step.Refusal.TheVariants.{DoesNotApply, NotPinned, NotOpen}
use Rattle.td_core.specs.declared.step.Step.{Step}
use Rattle.td_core.specs.declared.step.Step.TheVariants as steps
use Rattle.td_core.specs.History.{History, rows_of, with_entry, without_entry}
use Rattle.td_core.specs.Offers.{supply_now, freed}
use Rattle.td_core.specs.Phases.{is_pinned}
use Rattle.td_core.specs.Refusals.{is_queued_at, offer_refusal, withdraw_refusal, note_refusal}
use Rattle.td_core.specs.Refusals.{settle_refusal, arrive_refusal, commit_refusal, undo_refusal}
use Rattle.td_core.specs.Refusals.{is_missing, is_unfit, is_unpinned, first_unpinned}
use Rattle.td_core.specs.Refusals.{refused_if, first_refused}
use Rattle.td_core.specs.Steps.{refusal, answer_to, sweep_answer, accepted, after, after_all, noted}
use Rattle.td_core.specs.Steps.{settled, finished, swept, swept_now}
use Rattle.td_core.specs.Worlds.{WorldView, phase_of, with_phase, hand_of, with_hand, journaled}
use Rattle.td_core.specs.Worlds.{IsWorld}
use Rattle.td_core.proofs.Refusing.{undo_refusal-none}
use Rattle.td_core.proofs.WorldSteps.{IsWorld-after, answer_to-accepted, answer_to-refused}
use Rattle.td_core.proofs.WorldSteps.{after-accepted, after-refused, claims, finishes}
use Rattle.td_steps.specs.Sees.{Desk, view_of, with_view, entering, Sees, is_off, Fits, FitAll}
use Rattle.td_steps.specs.Moves.{Move, offer, won, lost, note, commit, undo, settle, arrive, sweep}
use Rattle.td_steps.specs.Moves.{step_of, answer_of, next_no, swept_as, moved, sweeping, freed_by}
use Rattle.td_steps.specs.Moves.{MayCommit, MayUndo, May, Chosen}
use Rattle.td_steps.specs.Runs.{is_builders, are_builders, Meanwhile}
use Rattle.td_steps.specs.Laws.{MovesAreSteps, BuildersChangeNothing, RunsAreSeen}
use Rattle.td_steps.proofs.Sees.{fit-both, numbers_alike, phase_seen, view_seen, both_seen}
use Rattle.td_steps.proofs.Sees.{one_seen, taken_seen, hand_changed, fits-in, fits-seen, fits-off}
use Rattle.td_steps.proofs.Sees.{open-held, noted-done}

-- ---- 1. no key is refused

find-none : (p : Key → Bool) (ks : List Key) → ((k : Key) → names ks k ≡ true → p k ≡ false)
    → find p ks ≡ None
find-none p [] h = refl
find-none p (k ∷ ks) h =
    let here : p k ≡ false = h k (ap (λ b. if b then true else names ks k) (same_key-refl k)) in
    let rest : find p ks ≡ None = find-none p ks (λ q named. h q (names-more ks k q named)) in
    (λ j. cond (here j) (Some k) (rest j))

there-fits : (kind : Kind) (o : Option Row)
    → (elim o as (λ _. Bool) [ Some r ↦ applies kind r | None ↦ false ]) ≡ true → is_none o ≡ false
there-fits kind None h = cc
there-fits kind (Some r) h = refl

unpinned-off : (w : WorldView) (d : Desk) (k : Key) → Sees w d → is_off (view_of d k) ≡ true
    → is_unpinned w k ≡ false
unpinned-off w d k i off = at (phase_of w k) refl
  where
    at : (o : Option Phase) → phase_of w k ≡ o
        → (elim o as (λ _. Bool) [ Some p ↦ not (is_pinned p) | None ↦ false ]) ≡ false
    at None is = refl
    at (Some p) is =
        let seen = view_seen w d k p i is in
        ap not (fits-off seen.0 p seen.2 (ap is_off (sym seen.1) ∙ off))

none-unpinned : (w : WorldView) (d : Desk) (kind : Kind) (keys : List Key) → Sees w d
    → ((cells kind).state ≡ true → (k : Key) → names keys k ≡ true → is_off (view_of d k) ≡ true)
    → first_unpinned w kind keys ≡ None
none-unpinned w d kind keys i off =
    elim (cells kind).state as (λ b.
    (cells kind).state ≡ b → (if b then find (is_unpinned w) keys else None) ≡ None) [
      | true ↦
          λ has. find-none (is_unpinned w) keys (λ k named. unpinned-off w d k i (off has k named))
      | false ↦ λ _. refl
    ] refl

commit-none : (w : WorldView) (d : Desk) (kind : Kind) (keys : List Key) → Sees w d
    → MayCommit d kind keys → commit_refusal w kind keys ≡ None
commit-none w d kind keys i may =
    let fit : AppliesOn (rows_of w.history) kind keys =
    subst (λ (h : History). AppliesOn (rows_of h) kind keys) (sym i.history) may.applies in
    let t = rows_of w.history in
    let there : find (is_missing t) keys ≡ None =
    find-none (is_missing t) keys (λ k named. there-fits kind (row_of t k) (fit k named)) in
    let unfit : find (is_unfit t kind) keys ≡ None =
    find-none (is_unfit t kind) keys (λ k named. ap not (fit k named)) in
    let off : first_unpinned w kind keys ≡ None = none-unpinned w d kind keys i may.off in
    (λ j. refused_if (not (may.command j)) NotACommand
    (refused_if (not (may.rise j)) NoKeys
    (first_refused (there j) (λ k. NoSuchRow (Some k))
    (first_refused (unfit j) (λ k. DoesNotApply k)
    (first_refused (off j) (λ k. NotPinned (Some k)) None)))))

undo-none : (w : WorldView) (d : Desk) (n : ℕ) → Sees w d → MayUndo d n → undo_refusal w n ≡ None
undo-none w d n i may =
    let m = may.stands.marked in
    let there : entry_at w.history.journal n ≡ Some m =
    ap (λ (h : History). entry_at h.journal n) i.history ∙ may.stands.there in
    let free : blocker w.history.journal n ≡ None =
    ap (λ (h : History). blocker h.journal n) i.history ∙ may.free in
    let off : first_unpinned w m.entry.kind m.entry.keys ≡ None =
    none-unpinned w d m.entry.kind m.entry.keys i may.off in
    undo_refusal-none w n m there may.stands.command may.stands.stands free off

-- ---- 2. each move

-- whether and why a move is refused
abbrev refusal_of : Move → Option Refusal
refusal_of (lost k b) = Some NotOpen
refusal_of m = None

record Stepped (w : WorldView) (d : Desk) (m : Move) : Type 0 where
  refuses : refusal w (step_of m) ≡ refusal_of m
  sees : Sees (after w (step_of m)) (moved d m)

-- a step that isn't refused
module _ (w : WorldView) (d : Desk) (i : Sees w d) where
  sound-now : (st : Step) → refusal w st ≡ None → IsWorld (accepted w st)
  sound-now st none = subst IsWorld (after-accepted w st none) (IsWorld-after w st i.sound)

  go : (st : Step) (x : Desk) → refusal w st ≡ None → Sees (accepted w st) x → Sees (after w st) x
  go st x none sees = subst (λ (v : WorldView). Sees v x) (sym (after-accepted w st none)) sees

  -- one more entry
  entered_seen : (kind : Kind) (keys : List Key) → IsWorld (journaled w kind keys)
      → Sees (journaled w kind keys) (entering d kind keys)
  entered_seen kind keys sound = record {
    sound = sound;
    history = ap (λ (h : History). with_entry h (record { kind = kind; keys = keys })) i.history;
    supply = i.supply;
    builders = i.builders;
    sized = i.sized;
    fits = i.fits;
  }

  -- one more entry on one key, whose row'd phase changes
  moved_seen : (kind : Kind) (k : Key) (v : RowView) (p : Phase)
      → IsWorld (with_phase (journaled w kind (k ∷ [])) k p) → Fits v p
      → Sees (with_phase (journaled w kind (k ∷ [])) k p) (with_view (entering d kind (k ∷ [])) k v)
  moved_seen kind k v p sound here = record {
    sound = sound;
    history = ap (λ (h : History). with_entry h (record { kind = kind; keys = k ∷ [] })) i.history;
    supply = i.supply;
    builders = i.builders;
    sized = length-set d.view _ v ∙ i.sized ∙ sym (length-set w.phases _ p);
    fits = subst (λ (n : ℕ).
        FitAll (set d.view n v) (set w.phases (number_of w.history.opening k) p))
        (sym (numbers_alike w d k i))
        (fit-both d.view w.phases (number_of w.history.opening k) v p here i.fits);
  }

  offer_step : (k : Key) → May d (offer k) → Stepped w d (offer k)
  offer_step k may =
      let seen = phase_seen w d k views.In i may.0 in
      let closed : phase_of w k ≡ Some phases.Closed =
      seen.1 ∙ ap (λ (p : Phase). Some p) (fits-in seen.0 seen.2) in
      let queued : is_queued_at (rows_of w.history) k ≡ true =
      ap (λ (h : History). is_queued_at (rows_of h) k) i.history ∙ may.1 in
      let none : refusal w (steps.Offer k) ≡ None = λ j. offer_refusal (queued j) (closed j) in
      record {
        refuses = none;
        sees = go (steps.Offer k) (moved d (offer k)) none
            (both_seen w d k views.Out phases.Open i (sound-now (steps.Offer k) none) tt);
      }

  won_step : (k : Key) → phase_of w k ≡ Some phases.Open → Stepped w d (won k)
  won_step k open_now =
      let none : refusal w (steps.Withdraw k) ≡ None = ap withdraw_refusal open_now in
      record {
        refuses = none;
        sees = go (steps.Withdraw k) (moved d (won k)) none
            (both_seen w d k views.In phases.Closed i (sound-now (steps.Withdraw k) none) tt);
      }

  lost_step : (k : Key) (b : ℕ) → phase_of w k ≡ Some (phases.Held b) → Stepped w d (lost k b)
  lost_step k b held =
      let not_open : refusal w (steps.Withdraw k) ≡ Some NotOpen = ap withdraw_refusal held in
      record {
        refuses = not_open;
        sees = subst (λ (v : WorldView). Sees v (moved d (lost k b)))
            (sym (after-refused w (steps.Withdraw k) NotOpen not_open))
            (one_seen w d k (views.Seen b) (phases.Held b) i held refl);
      }

  note_step : (k : Key) (b : ℕ) → May d (note k b) → Stepped w d (note k b)
  note_step k b may =
      let seen = phase_seen w d k (views.Seen b) i may in
      let held : phase_of w k ≡ Some (phases.Held b) =
      seen.1 ∙ ap (λ (p : Phase). Some p) (fits-seen b seen.0 seen.2) in
      let none : refusal w (steps.Note k) ≡ None = ap note_refusal held in
      let is : accepted w (steps.Note k)
      ≡ with_phase (journaled w (kinds.Claim b) (k ∷ [])) k (phases.Noted b) =
      ap (noted w k) held in
      record {
        refuses = none;
        sees = go (steps.Note k) (moved d (note k b)) none
            (subst (λ (v : WorldView). Sees v (moved d (note k b))) (sym is)
            (moved_seen (kinds.Claim b) k (views.Known b) (phases.Noted b)
            (subst IsWorld is (sound-now (steps.Note k) none)) refl));
      }

  settle_step : (k : Key) (b : ℕ) (o : Outcome) → phase_of w k ≡ Some (phases.Done b o)
      → Stepped w d (settle k b o)
  settle_step k b o ended =
      let none : refusal w (steps.Settle k) ≡ None = ap settle_refusal ended in
      let is : accepted w (steps.Settle k)
      ≡ with_phase (journaled w (kinds.Outcome b o) (k ∷ [])) k phases.Closed =
      ap (settled w k) ended in
      record {
        refuses = none;
        sees = go (steps.Settle k) (moved d (settle k b o)) none
            (subst (λ (v : WorldView). Sees v (moved d (settle k b o))) (sym is)
            (moved_seen (kinds.Outcome b o) k views.In phases.Closed
            (subst IsWorld is (sound-now (steps.Settle k) none)) tt));
      }

  commit_step : (kind : Kind) (keys : List Key) → MayCommit d kind keys
      → Stepped w d (commit kind keys)
  commit_step kind keys may =
      let none : refusal w (steps.Commit kind keys) ≡ None = commit-none w d kind keys i may in
      record {
        refuses = none;
        sees = go (steps.Commit kind keys) (moved d (commit kind keys)) none
            (entered_seen kind keys (sound-now (steps.Commit kind keys) none));
      }

  undo_step : (n : ℕ) → MayUndo d n → Stepped w d (undo n)
  undo_step n may =
      let none : refusal w (steps.Undo n) ≡ None = undo-none w d n i may in
      record {
        refuses = none;
        sees = go (steps.Undo n) (moved d (undo n)) none (record {
          sound = sound-now (steps.Undo n) none;
          history = ap (λ (h : History). without_entry h n) i.history;
          supply = i.supply;
          builders = i.builders;
          sized = i.sized;
          fits = i.fits;
        });
      }

  arrive_step : (k : Key) → May d (arrive k) → Stepped w d (arrive k)
  arrive_step k may =
      let row = may.0 in
      let found : row_of (rows_of w.history) k ≡ Some row =
      ap (λ (h : History). row_of (rows_of h) k) i.history ∙ may.1 in
      let none : refusal w (steps.Arrive k) ≡ None =
      ap (arrive_refusal k) found ∙ ap (λ b. refused_if (not b) (DoesNotApply k) None) may.2 in
      record {
        refuses = none;
        sees = go (steps.Arrive k) (moved d (arrive k)) none
            (entered_seen kinds.Arrive (k ∷ []) (sound-now (steps.Arrive k) none));
      }

  sweep_step : Stepped w d sweep
  sweep_step =
      let same : swept_now w ≡ freed_by d =
      λ j. freed (supply_now (i.supply j) (i.history j)) (rows_of (i.history j)) in
      record {
        refuses = refl;
        sees = go steps.Sweep (moved d sweep) refl
            (at (swept_now w) (freed_by d) same (sound-now steps.Sweep refl));
      }
    where
      each : (keys : List Key) → IsWorld (swept w keys) → Sees (swept w keys) (sweeping d keys)
      each [] sound = i
      each (k ∷ keys) sound = entered_seen kinds.Sweep (k ∷ keys) sound

      at : (a b : List Key) → a ≡ b → IsWorld (swept w a) → Sees (swept w a) (sweeping d b)
      at a b same sound =
          subst (λ (keys : List Key). Sees (swept w a) (sweeping d keys)) same (each a sound)

stepped : (w : WorldView) (d : Desk) (m : Move) → Sees w d → May d m → Chosen w m → Stepped w d m
stepped w d (offer k) i may chosen = offer_step w d i k may
stepped w d (won k) i may chosen = won_step w d i k chosen
stepped w d (lost k b) i may chosen = lost_step w d i k b chosen
stepped w d (note k b) i may chosen = note_step w d i k b may
stepped w d (commit kind keys) i may chosen = commit_step w d i kind keys may
stepped w d (undo n) i may chosen = undo_step w d i n may
stepped w d (settle k b o) i may chosen = settle_step w d i k b o chosen
stepped w d (arrive k) i may chosen = arrive_step w d i k may
stepped w d sweep i may chosen = sweep_step w d i

-- what it answers follows from whether it is refused
entry_told : (w : WorldView) (d : Desk) (i : Sees w d)
    → answers.Entry (length w.history.journal + 1) ≡ answers.Entry (next_no d)
entry_told w d i = ap (λ (h : History). answers.Entry (length h.journal + 1)) i.history

answered : (w : WorldView) (d : Desk) (m : Move) → Sees w d → refusal w (step_of m) ≡ refusal_of m
    → answer_to w (step_of m) ≡ answer_of d m
answered w d (offer k) i none = answer_to-accepted w (steps.Offer k) none
answered w d (won k) i none = answer_to-accepted w (steps.Withdraw k) none
answered w d (lost k b) i is = answer_to-refused w (steps.Withdraw k) NotOpen is
answered w d (note k b) i none = answer_to-accepted w (steps.Note k) none ∙ entry_told w d i
answered w d (commit kind keys) i none =
    answer_to-accepted w (steps.Commit kind keys) none ∙ entry_told w d i
answered w d (undo n) i none = answer_to-accepted w (steps.Undo n) none
answered w d (settle k b o) i none = answer_to-accepted w (steps.Settle k) none ∙ entry_told w d i
answered w d (arrive k) i none = answer_to-accepted w (steps.Arrive k) none ∙ entry_told w d i
answered w d sweep i none =
    let same : swept_now w ≡ freed_by d =
    λ j. freed (supply_now (i.supply j) (i.history j)) (rows_of (i.history j)) in
    answer_to-accepted w steps.Sweep none ∙ ap (sweep_answer w) same ∙ at (freed_by d)
  where
    at : (keys : List Key) → sweep_answer w keys ≡ swept_as d keys
    at [] = refl
    at (k ∷ keys) = entry_told w d i

pub moves_are_steps : MovesAreSteps
moves_are_steps w d m i may chosen =
    let s = stepped w d m i may chosen in
    record { answers = answered w d m i s.refuses; sees = s.sees }

-- ---- 3. builders' steps

claim_keeps : (w : WorldView) (d : Desk) (b : ℕ) (k : Key) → Sees w d
    → refusal w (steps.Claim b k) ≡ None → Sees (accepted w (steps.Claim b k)) d
claim_keeps w d b k i none =
    let c = claims (hand_of w b) (phase_of w k) none in
    taken_seen w d k phases.Open (phases.Held b) b (hands.Holding k) i
    (sound-now w d i (steps.Claim b k) none) c.1 (open-held b)

finish_keeps : (w : WorldView) (d : Desk) (b : ℕ) (o : Outcome) → Sees w d
    → refusal w (steps.Finish b o) ≡ None → Sees (accepted w (steps.Finish b o)) d
finish_keeps w d b o i none =
    let f = finishes w b (hand_of w b) none in
    let k = f.0 in
    let is : accepted w (steps.Finish b o)
    ≡ with_hand (with_phase w k (phases.Done b o)) b (hands.Finished k o) =
    ap (finished w b o) f.1.0 in
    let sound : IsWorld (with_hand (with_phase w k (phases.Done b o)) b (hands.Finished k o)) =
    subst IsWorld is (sound-now w d i (steps.Finish b o) none) in
    subst (λ (v : WorldView). Sees v d) (sym is)
    (taken_seen w d k (phases.Noted b) (phases.Done b o) b (hands.Finished k o) i sound f.1.1
    (noted-done b o))

keeps : (w : WorldView) (d : Desk) (st : Step) → is_builders st ≡ true → Sees w d
    → refusal w st ≡ None → Sees (accepted w st) d
keeps w d (steps.Claim b k) theirs i none = claim_keeps w d b k i none
keeps w d (steps.Finish b o) theirs i none = finish_keeps w d b o i none
keeps w d (steps.Release b) theirs i none =
    hand_changed w d b hands.Free i (sound-now w d i (steps.Release b) none)
keeps w d (steps.Offer k) theirs i none = cc
keeps w d (steps.Withdraw k) theirs i none = cc
keeps w d (steps.Note k) theirs i none = cc
keeps w d (steps.Commit kind keys) theirs i none = cc
keeps w d (steps.Undo n) theirs i none = cc
keeps w d (steps.Settle k) theirs i none = cc
keeps w d (steps.Arrive k) theirs i none = cc
keeps w d steps.Sweep theirs i none = cc

pub builders_change_nothing : BuildersChangeNothing
builders_change_nothing w d st theirs i = at (refusal w st) refl
  where
    at : (r : Option Refusal) → refusal w st ≡ r → Sees (after w st) d
    at None none = go w d i st d none (keeps w d st theirs i none)
    at (Some r) is = subst (λ (v : WorldView). Sees v d) (sym (after-refused w st r is)) i

-- ---- 4. lists of moves

pub many : (w : WorldView) (d : Desk) (ss : List Step) → are_builders ss ≡ true → Sees w d
    → Sees (after_all w ss) d
many w d [] theirs i = i
many w d (st ∷ ss) theirs i =
    let both = and_parts (is_builders st) (are_builders ss) theirs in
    many (after w st) d ss both.1 (builders_change_nothing w d st both.0 i)

meanwhile : (w v : WorldView) (d : Desk) → Sees w d → Meanwhile w v → Sees v d
meanwhile w v d i m = subst (λ (x : WorldView). Sees x d) (sym m.to) (many w d m.theirs m.all i)

pub runs_are_seen : RunsAreSeen
runs_are_seen w d [] i allowed v runs = (runs, meanwhile w v d i runs)
runs_are_seen w d (m ∷ ms) i allowed v runs =
    let u = runs.0 in
    let step = moves_are_steps u d m (meanwhile w u d i runs.1) allowed.0 runs.2 in
    let rest = runs_are_seen (after u (step_of m)) (moved d m) ms step.sees allowed.1 v runs.3 in
    ((u, runs.1, step.answers, rest.0), rest.1)
