-- A schedule of the board runs in the world, with the moves that the desk's steps are.
use Rattle.std.proofs.Common.{◌≡◌, ◌≢◌, ℕ, suc, ◌<◌, ◌≤◌, true, false, List, [], ◌∷◌, ◌++◌, length}
use Rattle.std.proofs.Common.{set}
use Rattle.std.proofs.Common.{ap, refl, sym, subst, ◌∙◌, arith, append-nil, append_assoc}
use Rattle.std.proofs.Common.{length-set, length-append, eq-eqb, ne_eqb, if◌then◌else◌, ◌==◌, ◌-◌}
use mathlib.Core.Logic.{dite}
use mathlib.Core.Option.{some}
use native.Mathlib.Decide.{ℕ_discrete}
use lib.ListN.{get_elem?}
use Rattle.atomic_table.proofs.Lists.{set_here, set_else, at_longer}
use Rattle.td_board.specs.declared.outcome.OutcomeCode.{OutcomeCode}
use Rattle.td_board.specs.declared.views.RowView.TheVariants.{In, Out, Seen, Known}
use Rattle.td_board.specs.declared.views.Deed.TheVariants as deed
use Rattle.td_board.specs.declared.views.DeskTry.{DeskTry}
use Rattle.td_board.specs.declared.views.DeskTry.TheVariants.{Offered, WithdrawalWon}
use Rattle.td_board.specs.declared.views.DeskTry.TheVariants.{WithdrawalLost}
use Rattle.td_board.specs.declared.views.DeskTry.TheVariants.{ClaimNoted, SettleDone, SettleEarly}
use Rattle.td_board.specs.declared.views.BuilderTry.{BuilderTry}
use Rattle.td_board.specs.declared.views.BuilderTry.TheVariants.{ClaimWon, ClaimLost, FinishDone}
use Rattle.td_board.specs.declared.views.BuilderTry.TheVariants.{FinishEarly, ReleaseDone}
use Rattle.td_board.specs.declared.views.BuilderTry.TheVariants.{ReleaseEarly}
use Rattle.td_board.specs.declared.views.DeskView.{DeskView}
use Rattle.td_board.specs.declared.views.BuilderView.{BuilderView}
use Rattle.td_board.specs.declared.views.View.TheVariants.{Desk as DeskSeat, Builder}
use Rattle.td_board.specs.Phase.{Phase as BoardPhase, closed, opened, held, noted, done}
use Rattle.td_board.specs.Knowledge.{new_desk, with_builder, with_row, with_deed, noted_of}
use Rattle.td_board.specs.Knowledge.{new_builder, with_claim, with_finish, with_free_hand}
use Rattle.td_board.specs.Knowledge.{desk_tried, builder_tried, row_of}
use Rattle.td_board.specs.Steps as board
use Rattle.td_board.specs.Steps.{Moment, IsAt, DeskKnows, BuilderKnows, new_board, learned, moved}
use Rattle.td_board.specs.Steps.{seated, Reached}
use Rattle.td_board.proofs.Lists.{at_less, one_at}
use Rattle.td_board.proofs.RowLaws.{same_desk, builder_seat}
use Rattle.td_board.proofs.Schedules.{with_desk, rule_stands}
use Rattle.td_rows.specs.declared.outcome.Outcome.{Outcome}
use Rattle.td_rows.specs.Keys.{ascending}
use Rattle.td_rows.specs.Table.{Table, keys_of}
use Rattle.td_core.specs.declared.step.Step.{Step}
use Rattle.td_core.specs.declared.step.Step.TheVariants as steps
use Rattle.td_core.specs.Steps.{after}
use Rattle.td_core.specs.Worlds.{WorldView, IsWorld}
use Rattle.td_book.specs.Deeds.{code_of}
use Rattle.td_steps.specs.Sees.{Desk, Sees}
use Rattle.td_steps.specs.Moves.{Move, step_of}
use Rattle.td_steps.specs.Runs.{MayAll, moved_all, is_builders, Runs}
use Rattle.td_steps.specs.Tries.{tries_of, tried_in, done_in}
use Rattle.td_steps.specs.Theirs.{theirs_in, is_by, steps_in, IsStep, AreTaken}
use Rattle.td_steps.proofs.Moves.{runs_are_seen}
use Rattle.td_steps.proofs.Tries.{done_in-append}
use Rattle.td_steps.proofs.RunLists.{meanwhile-none, runs-more, runs-move, theirs-more}
use Rattle.td_steps.proofs.RunLists.{theirs-move, may-parts, split}
use Rattle.td_steps.proofs.Showing.{Agrees, agrees-learned, agrees-quiet, agrees-tried}
use Rattle.td_steps.proofs.Showing.{agrees-seated}
use Rattle.td_steps.proofs.DeskShows.{is-offer, is-won, is-lost, is-note, is-settle, Simulates}
use Rattle.td_steps.proofs.DeskShows.{offer-shows, won-shows, lost-shows, note-shows, settle-shows}
use Rattle.td_steps.proofs.DeskShows.{quiet}
use Rattle.td_steps.proofs.BuilderShows.{claim-shows, finish-shows, release-shows}
use Rattle.td_steps.proofs.Theirs.{steps_in-append, taken-new}
use Rattle.td_steps.proofs.Theirs.{taken-desk, taken-seated, taken-builder}

-- a run of the moves to a world that is as the board is, with the steps of builders that these took
-- at the board
pub record Reaches (w : WorldView) (o : Table) (n : ℕ) (ms : List Move) (g : ℕ → Outcome)
    (m : Moment) : Type 0 where
  pub world : WorldView
  pub runs : Runs w ms world
  pub agrees : Agrees o n g m world
  pub taken : AreTaken (keys_of o) m (theirs_in w world ms runs)

-- the outcomes have the codes that the board has of builds that have ended
abbrev pub Fitting : (ℕ → Outcome) → List BoardPhase → Type 0
Fitting g ps = (r b : ℕ) (c : OutcomeCode) → get_elem? ps r ≡ some (done b c) → code_of (g r) ≡ c

-- ---- 1. one step more

empties : (a b : List DeskTry) → a ++ b ≡ [] → (a ≡ []) × (b ≡ [])
empties [] b h = (refl, h)
empties (t ∷ a) b h = absurd (cc)

fitting-before : (g g' : ℕ → Outcome) (ps : List BoardPhase) (r : ℕ) (p₀ p : BoardPhase)
    → get_elem? ps r ≡ some p₀ → ((s : ℕ) → s ≢ r → g' s ≡ g s)
    → ((b : ℕ) (c : OutcomeCode) → p₀ ≡ done b c → code_of (g' r) ≡ c) → Fitting g (set ps r p)
    → Fitting g' ps
fitting-before g g' ps r p₀ p there beside here fits s b c at =
    dite (ℕ_discrete s r)
    (λ (e : s ≡ r).
    ap (λ i. code_of (g' i)) e
    ∙ here b c (one_at ps r p₀ (done b c) there (ap (get_elem? ps) (sym e) ∙ at)))
    (λ (ne : s ≢ r). ap code_of (beside s ne) ∙ fits s b c (set_else ps r s p ne ∙ at))

module _ (w : WorldView) (o : Table) (n : ℕ) where
  run-quiet : (g : ℕ → Outcome) (m : Moment) (v : WorldView) (ms us : List Move)
      (runs : Runs w ms v) → tried_in o us ≡ [] → Agrees o n g m v
      → AreTaken (keys_of o) m (theirs_in w v ms runs) → Reaches w o n (ms ++ us) g m
  run-quiet g m v ms [] runs none a own =
      subst (λ (l : List Move). Reaches w o n l g m) (sym (append-nil ms))
      (record { world = v; runs = runs; agrees = a; taken = own })
  run-quiet g m v ms (x ∷ us) runs none a own =
      let parts = empties (tries_of o x) (tried_in o us) none in
      let q = quiet o x v parts.0 in
      let u = after v (step_of x) in
      subst (λ (l : List Move). Reaches w o n l g m) (append_assoc ms (x ∷ []) us)
      (run-quiet g m u (ms ++ x ∷ []) us (runs-move w v ms x runs q.0) parts.1
      (agrees-quiet o n g g m v u a (q.1.opening ∙ a.opening) (λ s. refl) q.1.phases q.1.hands)
      (subst (AreTaken (keys_of o) m) (sym (theirs-move w v ms x runs q.0)) own))

module _ (w : WorldView) (o : Table) (n : ℕ) (d0 : Desk) (sees0 : Sees w d0) where
  desk-step : (g : ℕ → Outcome) (m m' : Moment) (front : List DeskTry) (e : DeskTry)
      (ms : List Move) → MayAll d0 ms → tried_in o ms ≡ front ++ e ∷ []
      → ((ss : List Step) → AreTaken (keys_of o) m ss → AreTaken (keys_of o) m' ss)
      → ((x : Move) → tries_of o x ≡ e ∷ [] → (g' : ℕ → Outcome)
      × ((before : List Move) → MayAll d0 before → tried_in o before ≡ front
      → Reaches w o n before g' m)
      × Simulates o n g' g m m' x)
      → Reaches w o n ms g m'
  desk-step g m m' front e ms may told keeps sim =
      let s = split o ms front e told in
      let all = may-parts d0 s.before (s.move ∷ s.behind)
      (subst (λ (l : List Move). MayAll d0 l) s.parts may) in
      let t = sim s.move s.one in
      let r = t.1 s.before all.0 s.first in
      let sees = (runs_are_seen w d0 s.before sees0 all.0 r.world r.runs).1 in
      let made = t.2 r.world (moved_all d0 s.before) sees all.1.0 r.agrees in
      subst (λ (l : List Move). Reaches w o n l g m')
      (append_assoc s.before (s.move ∷ []) s.behind ∙ sym s.parts)
      (run-quiet w o n g m' (after r.world (step_of s.move)) (s.before ++ s.move ∷ []) s.behind
      (runs-move w r.world s.before s.move r.runs made.0) s.rest made.1
      (subst (AreTaken (keys_of o) m') (sym (theirs-move w r.world s.before s.move r.runs made.0))
      (keeps (theirs_in w r.world s.before r.runs) r.taken)))

  builder-step : (g : ℕ → Outcome) (m m' : Moment) (ms : List Move) → MayAll d0 ms
      → Reaches w o n ms g m
      → ((v : WorldView) → IsWorld v → Agrees o n g m v
      → (s : Step) × (is_builders s ≡ true) × Agrees o n g m' (after v s)
      × ((ss : List Step) → AreTaken (keys_of o) m ss → AreTaken (keys_of o) m' (ss ++ s ∷ [])))
      → Reaches w o n ms g m'
  builder-step g m m' ms may r sim =
      let sees = (runs_are_seen w d0 ms sees0 may r.world r.runs).1 in
      let t = sim r.world sees.sound r.agrees in
      record {
        world = after r.world t.0;
        runs = runs-more w r.world ms t.0 t.1 r.runs;
        agrees = t.2;
        taken = subst (AreTaken (keys_of o) m') (sym (theirs-more w r.world ms t.0 t.1 r.runs))
            (t.3 (theirs_in w r.world ms r.runs) r.taken);
      }

  -- ---- 2. what holds at each moment

  -- any moves that the desk may make, and that are what it has done at the board, run to a world
  -- that is as the board is, with any outcomes of those codes
  abbrev pub Runnable : Moment → Type 0
  Runnable m = (d : DeskView) → DeskKnows m d → length d.noted ≤ n → (ms : List Move) → MayAll d0 ms
      → tried_in o ms ≡ done_in d.tried → (g : ℕ → Outcome) → Fitting g m.phases
      → Reaches w o n ms g m

  module _ (m : Moment) (ih : Runnable m) where
    one-desk : (d d1 d' : DeskView) → DeskKnows m d
        → get_elem? (set m.views 0 (DeskSeat d1)) 0 ≡ some (DeskSeat d') → d1 ≡ d'
    one-desk d d1 d' at at' =
        same_desk d1 d'
        (one_at (set m.views 0 (DeskSeat d1)) 0 (DeskSeat d1) (DeskSeat d')
        (set_here m.views 0 (DeskSeat d1) (at_less m.views 0 (DeskSeat d) at)) at')

    -- the desk changes a phase
    desk-moves : (d d1 : DeskView) (e : DeskTry) (r : ℕ) (p₀ p : BoardPhase) → DeskKnows m d
        → IsAt m r p₀ → length d1.noted ≡ length d.noted
        → done_in d1.tried ≡ done_in d.tried ++ e ∷ []
        → ((g : ℕ → Outcome) (x : Move) → tries_of o x ≡ e ∷ [] → (g' : ℕ → Outcome)
        × ((s : ℕ) → s ≢ r → g' s ≡ g s)
        × ((b : ℕ) (c : OutcomeCode) → p₀ ≡ done b c → code_of (g' r) ≡ c)
        × Simulates o n g' g m (moved r p 0 (DeskSeat d1) m) x)
        → Runnable (moved r p 0 (DeskSeat d1) m)
    desk-moves d d1 e r p₀ p at there lists adds sim d' at' few ms may told g fit =
        let same = one-desk d d1 d' at at' in
        let told' : tried_in o ms ≡ done_in d.tried ++ e ∷ [] =
        told ∙ ap (λ (x : DeskView). done_in x.tried) (sym same) ∙ adds in
        let few' : length d.noted ≤ n =
        subst (λ i. i ≤ n) (ap (λ (x : DeskView). length x.noted) (sym same) ∙ lists) few in
        let m' = moved r p 0 (DeskSeat d1) m in
        desk-step g m m' (done_in d.tried) e ms may told'
        (λ ss own. taken-desk (keys_of o) ss m m' d d1 at refl own) (λ x one.
        let t = sim g x one in (
          t.0,
          (λ before mayb first.
              ih d at few' before mayb first t.0
              (fitting-before g t.0 m.phases r p₀ p there t.1 t.2 fit)),
          t.3,
        ))

    -- it changes none
    desk-learns : (d d1 : DeskView) (e : DeskTry) → DeskKnows m d
        → length d1.noted ≡ length d.noted → done_in d1.tried ≡ done_in d.tried ++ e ∷ []
        → ((g : ℕ → Outcome) (x : Move) → tries_of o x ≡ e ∷ []
        → Simulates o n g g m (learned 0 (DeskSeat d1) m) x)
        → Runnable (learned 0 (DeskSeat d1) m)
    desk-learns d d1 e at lists adds sim d' at' few ms may told g fit =
        let same = one-desk d d1 d' at at' in
        let told' : tried_in o ms ≡ done_in d.tried ++ e ∷ [] =
        told ∙ ap (λ (x : DeskView). done_in x.tried) (sym same) ∙ adds in
        let few' : length d.noted ≤ n =
        subst (λ i. i ≤ n) (ap (λ (x : DeskView). length x.noted) (sym same) ∙ lists) few in
        let m' = learned 0 (DeskSeat d1) m in
        desk-step g m m' (done_in d.tried) e ms may told'
        (λ ss own. taken-desk (keys_of o) ss m m' d d1 at refl own)
        (λ x one. (g, (λ before mayb first. ih d at few' before mayb first g fit), sim g x one))

    -- a settling came too early
    desk-waits : (d d1 : DeskView) → DeskKnows m d → length d1.noted ≡ length d.noted
        → done_in d1.tried ≡ done_in d.tried → Runnable (learned 0 (DeskSeat d1) m)
    desk-waits d d1 at lists adds d' at' few ms may told g fit =
        let same = one-desk d d1 d' at at' in
        let few' : length d.noted ≤ n =
        subst (λ i. i ≤ n) (ap (λ (x : DeskView). length x.noted) (sym same) ∙ lists) few in
        let r = ih d at few' ms may
        (told ∙ ap (λ (x : DeskView). done_in x.tried) (sym same) ∙ adds) g fit in
        record {
          world = r.world;
          runs = r.runs;
          agrees = agrees-learned o n g g m r.world r.world r.agrees r.agrees.opening d1 (λ s. refl)
              refl refl;
          taken = taken-desk (keys_of o) (theirs_in w r.world ms r.runs) m
              (learned 0 (DeskSeat d1) m) d d1 at refl r.taken;
        }

    -- a builder changes a phase
    builder-moves : (b : ℕ) (y : BuilderView) (r : ℕ) (p₀ p : BoardPhase) → 0 < b → IsAt m r p₀
        → ((i : ℕ) (c : OutcomeCode) → p₀ ≡ done i c → ⊥)
        → ((g : ℕ → Outcome) → Fitting g (set m.phases r p) → (v : WorldView) → IsWorld v
        → Agrees o n g m v
        → (s : Step) × (is_builders s ≡ true)
        × Agrees o n g (moved r p b (Builder y) m) (after v s)
        × ((ss : List Step) → AreTaken (keys_of o) m ss
        → AreTaken (keys_of o) (moved r p b (Builder y) m) (ss ++ s ∷ [])))
        → Runnable (moved r p b (Builder y) m)
    builder-moves b y r p₀ p one there never sim d at few ms may told g fit =
        let seat : DeskKnows m d =
        sym (set_else m.views b 0 (Builder y) (λ e. omega (arith, e, one))) ∙ at in
        builder-step g m (moved r p b (Builder y) m) ms may
        (ih d seat few ms may told g
        (fitting-before g g m.phases r p₀ p there (λ s _. refl)
        (λ i c is. absurd (never i c is)) fit))
        (λ v sound a. sim g fit v sound a)

    -- a builder changes none
    builder-learns : (b : ℕ) (y : BuilderView) → 0 < b
        → ((g : ℕ → Outcome) → Fitting g m.phases → (v : WorldView) → IsWorld v
        → Agrees o n g m v
        → (s : Step) × (is_builders s ≡ true) × Agrees o n g (learned b (Builder y) m) (after v s)
        × ((ss : List Step) → AreTaken (keys_of o) m ss
        → AreTaken (keys_of o) (learned b (Builder y) m) (ss ++ s ∷ [])))
        → Runnable (learned b (Builder y) m)
    builder-learns b y one sim d at few ms may told g fit =
        let seat : DeskKnows m d =
        sym (set_else m.views b 0 (Builder y) (λ e. omega (arith, e, one))) ∙ at in
        builder-step g m (learned b (Builder y) m) ms may (ih d seat few ms may told g fit)
        (λ v sound a. sim g fit v sound a)

    -- a builder's try moves nothing
    builder-waits : (b : ℕ) (v y : BuilderView) → 0 < b → BuilderKnows m b v → y.hand ≡ v.hand
        → steps_in y.tried ≡ steps_in v.tried → Runnable (learned b (Builder y) m)
    builder-waits b v y one seat hand same d at few ms may told g fit =
        let seat0 : DeskKnows m d =
        sym (set_else m.views b 0 (Builder y) (λ e. omega (arith, e, one))) ∙ at in
        let r = ih d seat0 few ms may told g fit in
        record {
          world = r.world;
          runs = r.runs;
          agrees = agrees-tried o n g m r.world b v y r.agrees seat hand;
          taken = subst (AreTaken (keys_of o) (learned b (Builder y) m))
              (append-nil (theirs_in w r.world ms r.runs))
              (taken-builder (keys_of o) (theirs_in w r.world ms r.runs) m
              (learned b (Builder y) m) b v y seat refl [] [] tt refl (λ c apart. refl)
              (same ∙ sym (append-nil (steps_in v.tried))) r.taken);
        }

  -- ---- 3. each kind of step

  with_seat : (m : Moment) (d d' : DeskView) → DeskKnows m d → DeskKnows (seated d m) d'
      → with_builder d ≡ d'
  with_seat m d d' at at' =
      let vs = set m.views 0 (DeskSeat (with_builder d)) in
      let more = Builder (new_builder (suc (length d.noted))) ∷ [] in
      same_desk (with_builder d) d'
      (one_at (vs ++ more) 0 (DeskSeat (with_builder d)) (DeskSeat d')
      (at_longer vs more 0 (DeskSeat (with_builder d))
      (set_here m.views 0 (DeskSeat (with_builder d)) (at_less m.views 0 (DeskSeat d) at))) at')

  numbered-from-one : (rows : ℕ) (m : Moment) (b : ℕ) (v : BuilderView) → Reached rows m
      → BuilderKnows m b v → 0 < b
  numbered-from-one rows m b v reached at =
      let stands = rule_stands rows m reached in
      let k = builder_seat rows m.phases stands.0 m.views b v stands.1 at in
      let named : b ≡ suc k.0 = k.1 in omega (arith, named)

  -- a builder's step is the last of what it did
  took : {m : Moment} (m' : Moment) (b : ℕ) (y y' : BuilderView) → BuilderKnows m b y
      → m'.views ≡ set m.views b (Builder y') → (t : BuilderTry) (s : Step)
      → IsStep (keys_of o) t s → is_by b s ≡ true → ((c : ℕ) → c ≢ b → is_by c s ≡ false)
      → steps_in y'.tried ≡ steps_in y.tried ++ t ∷ []
      → (ss : List Step) → AreTaken (keys_of o) m ss → AreTaken (keys_of o) m' (ss ++ s ∷ [])
  took {m} m' b y y' seat is t s step his not_theirs adds ss own =
      taken-builder (keys_of o) ss m m' b y y' seat is (t ∷ []) (s ∷ []) (step, tt)
      (ap (λ z. if z then s ∷ [] else []) his)
      (λ c apart. ap (λ z. if z then s ∷ [] else []) (not_theirs c apart)) adds own

  stepped : ascending (keys_of o) ≡ true → (rows : ℕ) (m m' : Moment) → Reached rows m
      → Runnable m → board.Step m m' → Runnable m'
  stepped up rows m m' reached ih (board.seat d at e) =
      subst Runnable (sym e) (λ d' at' few ms may told g fit.
      let same = with_seat m d d' at at' in
      let fits = with_desk rows m d (rule_stands rows m reached) at in
      let many = fits.many in
      let longer = length-append d.noted ([] ∷ []) in
      let few' : length (with_builder d).noted ≤ n =
      subst (λ i. i ≤ n) (ap (λ (x : DeskView). length x.noted) (sym same)) few in
      let r = ih d at (omega (arith, few', longer)) ms may
      (told ∙ ap (λ (x : DeskView). done_in x.tried) (sym same)) g fit in
      record {
        world = r.world;
        runs = r.runs;
        agrees = agrees-seated o n g m r.world d r.agrees at (omega (arith, few', longer, many));
        taken = taken-seated (keys_of o) (theirs_in w r.world ms r.runs) m d at r.taken;
      })
  stepped up rows m m' reached ih (board.offer r d at shown is e) =
      let d1 : DeskView = desk_tried (Offered r) (with_row r Out d) in
      subst Runnable (sym e)
      (desk-moves m ih d d1 (Offered r) r closed opened at is refl
      (done_in-append d.tried (Offered r ∷ [])) (λ g x one.
      let t = is-offer o x r one in (
        g,
        (λ s _. refl),
        (λ b c no. absurd (let bad : closed ≡ done b c = no in cc)),
        subst (Simulates o n g g m (moved r opened 0 (DeskSeat d1) m)) (sym t.1)
            (offer-shows o n g m r d1 t.0 t.2 is),
      )))
  stepped up rows m m' reached ih (board.withdrawal_won r d at shown is e) =
      let d1 : DeskView = desk_tried (WithdrawalWon r) (with_row r In d) in
      subst Runnable (sym e)
      (desk-moves m ih d d1 (WithdrawalWon r) r opened closed at is refl
      (done_in-append d.tried (WithdrawalWon r ∷ [])) (λ g x one.
      let t = is-won o x r one in (
        g,
        (λ s _. refl),
        (λ b c no. absurd (let bad : opened ≡ done b c = no in cc)),
        subst (Simulates o n g g m (moved r closed 0 (DeskSeat d1) m)) (sym t.1)
            (won-shows o n g m r d1 t.0 t.2 is),
      )))
  stepped up rows m m' reached ih (board.withdrawal_lost r b d at shown is e) =
      let d1 : DeskView = desk_tried (WithdrawalLost r b) (with_row r (Seen b) d) in
      subst Runnable (sym e)
      (desk-learns m ih d d1 (WithdrawalLost r b) at refl
      (done_in-append d.tried (WithdrawalLost r b ∷ [])) (λ g x one.
      let t = is-lost o x r b one in
      subst (Simulates o n g g m (learned 0 (DeskSeat d1) m)) (sym t.1)
      (lost-shows o n g m r d1 t.0 t.2 b is)))
  stepped up rows m m' reached ih (board.note r b d at shown is e) =
      let d1 : DeskView =
      desk_tried (ClaimNoted r b) (with_deed b (deed.Claim r) (with_row r (Known b) d)) in
      subst Runnable (sym e)
      (desk-moves m ih d d1 (ClaimNoted r b) r (held b) (noted b) at is
      (length-set d.noted (b - 1) (noted_of d b ++ deed.Claim r ∷ []))
      (done_in-append d.tried (ClaimNoted r b ∷ [])) (λ g x one.
      let t = is-note o x r b one in (
        g,
        (λ s _. refl),
        (λ i c no. absurd (let bad : held b ≡ done i c = no in cc)),
        subst (Simulates o n g g m (moved r (noted b) 0 (DeskSeat d1) m)) (sym t.1)
            (note-shows o n g m r d1 t.0 t.2 b is),
      )))
  stepped up rows m m' reached ih (board.settle_done r b c d at shown is e) =
      let d1 : DeskView =
      desk_tried (SettleDone r c) (with_deed b (deed.Finish r c) (with_row r In d)) in
      subst Runnable (sym e)
      (desk-moves m ih d d1 (SettleDone r c) r (done b c) closed at is
      (length-set d.noted (b - 1) (noted_of d b ++ deed.Finish r c ∷ []))
      (done_in-append d.tried (SettleDone r c ∷ [])) (λ g x one.
      let t = is-settle o x r c one in
      let g' : ℕ → Outcome = λ s. if s == r then t.2 else g s in
      let here : g' r ≡ t.2 = ap (λ z. if z then t.2 else g r) (eq-eqb r r refl) in
      let beside : (s : ℕ) → s ≢ r → g' s ≡ g s =
      λ s ne. ap (λ z. if z then t.2 else g s) (ne_eqb s r ne) in (
        g',
        beside,
        (λ i z ended.
            let codes : c ≡ z = (let both : done b c ≡ done i z = ended in cc) in
            ap code_of here ∙ t.5 ∙ codes),
        subst (Simulates o n g' g m (moved r closed 0 (DeskSeat d1) m)) (sym t.3)
            (settle-shows o n g m r d1 t.0 t.4 g' t.1 b c t.2 is here beside),
      )))
  stepped up rows m m' reached ih (board.settle_early r b c p d at shown is ne e) =
      subst Runnable (sym e)
      (desk-waits m ih d (desk_tried (SettleEarly r c) d) at refl
      (done_in-append d.tried (SettleEarly r c ∷ []) ∙ append-nil (done_in d.tried)))
  stepped up rows m m' reached ih (board.claim_won r b v at free is e) =
      let one = numbered-from-one rows m b v reached at in
      subst Runnable (sym e)
      (builder-moves m ih b (with_claim r v) r opened (held b) one is
      (λ i c no. absurd (let bad : opened ≡ done i c = no in cc)) (λ g fit u sound a.
      let t =
      claim-shows o n g m u r b v a up one at (sound.sized ∙ ap length a.opening) free is in (
        steps.Claim b t.0,
        refl,
        t.2,
        took (moved r (held b) b (Builder (with_claim r v)) m) b v (with_claim r v) at refl
            (ClaimWon r) (steps.Claim b t.0) t.1 (eq-eqb b b refl) (λ c apart. ne_eqb c b apart)
            (steps_in-append v.tried (ClaimWon r ∷ [])),
      )))
  stepped up rows m m' reached ih (board.claim_lost r b p v at free is ne e) =
      subst Runnable (sym e)
      (builder-waits m ih b v (builder_tried (ClaimLost r) v)
      (numbered-from-one rows m b v reached at) at refl
      (steps_in-append v.tried (ClaimLost r ∷ []) ∙ append-nil (steps_in v.tried)))
  stepped up rows m m' reached ih (board.finish_done r b c v at holds is e) =
      let one = numbered-from-one rows m b v reached at in
      let code : (g : ℕ → Outcome) → Fitting g (set m.phases r (done b c)) → code_of (g r) ≡ c =
      λ g fit. fit r b c (set_here m.phases r (done b c) (at_less m.phases r (noted b) is)) in
      subst Runnable (sym e)
      (builder-moves m ih b (with_finish r c v) r (noted b) (done b c) one is
      (λ i z no. absurd (let bad : noted b ≡ done i z = no in cc)) (λ g fit u sound a. (
        steps.Finish b (g r),
        refl,
        finish-shows o n g m u r b v a up one at c holds is (code g fit),
        took (moved r (done b c) b (Builder (with_finish r c v)) m) b v (with_finish r c v) at refl
            (FinishDone r c) (steps.Finish b (g r)) (code g fit) (eq-eqb b b refl)
            (λ i apart. ne_eqb i b apart) (steps_in-append v.tried (FinishDone r c ∷ [])),
      )))
  stepped up rows m m' reached ih (board.finish_early r b c p v at holds is ne e) =
      subst Runnable (sym e)
      (builder-waits m ih b v (builder_tried (FinishEarly r c) v)
      (numbered-from-one rows m b v reached at) at refl
      (steps_in-append v.tried (FinishEarly r c ∷ []) ∙ append-nil (steps_in v.tried)))
  stepped up rows m m' reached ih (board.release_done r b c p v at ended is ne e) =
      let one = numbered-from-one rows m b v reached at in
      subst Runnable (sym e)
      (builder-learns m ih b (with_free_hand v) one (λ g fit u sound a. (
        steps.Release b,
        refl,
        release-shows o n g m u r b v a up one at c p sound ended is ne
            (λ i z there. fit r i z there),
        took (learned b (Builder (with_free_hand v)) m) b v (with_free_hand v) at refl
            (ReleaseDone (row_of v.hand)) (steps.Release b) tt (eq-eqb b b refl)
            (λ i apart. ne_eqb i b apart)
            (steps_in-append v.tried (ReleaseDone (row_of v.hand) ∷ [])),
      )))
  stepped up rows m m' reached ih (board.release_early r b c v at ended is e) =
      subst Runnable (sym e)
      (builder-waits m ih b v (builder_tried (ReleaseEarly r) v)
      (numbered-from-one rows m b v reached at) at refl
      (steps_in-append v.tried (ReleaseEarly r ∷ []) ∙ append-nil (steps_in v.tried)))

  -- ---- 4. every schedule

  pub simulated : ascending (keys_of o) ≡ true → (rows : ℕ)
      → ((g : ℕ → Outcome) → Agrees o n g (new_board rows) w) → (m : Moment) → Reached rows m
      → Runnable m
  simulated up rows start m board.made =
      λ d at few ms may told g fit.
      let same : new_desk rows 0 ≡ d =
      same_desk (new_desk rows 0) d
      (one_at (DeskSeat (new_desk rows 0) ∷ []) 0 (DeskSeat (new_desk rows 0)) (DeskSeat d) refl at)
      in
      let none : tried_in o ms ≡ [] =
      told ∙ ap (λ (x : DeskView). done_in x.tried) (sym same) in
      run-quiet w o n g (new_board rows) w [] ms (meanwhile-none w) none (start g)
      (taken-new (keys_of o) [] rows)
  simulated up rows start m' (board.after {m} reached step) =
      stepped up rows m m' reached (simulated up rows start m reached) step
