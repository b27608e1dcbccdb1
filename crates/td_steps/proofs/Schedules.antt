-- Every schedule of a board at whose desk's seat a book is kept is a run of a world.
use Rattle.std.proofs.Common.{◌≡◌, ℕ, zero, suc, ◌<◌, ◌≤◌, List, [], ◌∷◌, ◌++◌, Some, length}
use Rattle.std.proofs.Common.{replicate, slice_get, ap, refl, sym, subst, ◌∙◌, arith, append-nil}
use Rattle.std.proofs.Common.{append_assoc, None, if◌then◌else◌, ◌-◌, ne_eqb}
use Rattle.std.proofs.lemmas.List.{length-replicate}
use mathlib.Core.Option.{some, some-ne-none}
use Rattle.td_board.specs.declared.outcome.OutcomeCode.{OutcomeCode}
use Rattle.td_board.specs.declared.outcome.OutcomeCode.TheVariants as codes
use Rattle.td_board.specs.declared.views.DeskTry.{DeskTry}
use Rattle.td_board.specs.declared.views.DeskView.{DeskView}
use Rattle.td_board.specs.declared.views.BuilderView.{BuilderView}
use Rattle.td_board.specs.declared.views.View.TheVariants.{Desk as DeskSeat, Builder}
use Rattle.td_board.specs.Phase.{Phase as BoardPhase, closed, opened, held, noted, done}
use Rattle.td_board.specs.Knowledge.{new_desk}
use Rattle.td_board.specs.Steps.{Moment, DeskKnows, BuilderKnows, new_board, Reached}
use Rattle.td_board.proofs.Lists.{at_less, one_at, at_replicate}
use Rattle.td_board.proofs.RowLaws.{not_both}
use Rattle.td_board.proofs.Schedules.{with_desk, rule_stands}
use Rattle.td_rows.specs.declared.outcome.Outcome.{Outcome}
use Rattle.td_rows.specs.declared.outcome.Outcome.TheVariants as ends
use Rattle.td_rows.specs.Table.{Table, keys_of}
use Rattle.td_supply.specs.Supply.{Stock}
use Rattle.td_core.specs.declared.step.Phase.TheVariants.{Closed}
use Rattle.td_core.specs.declared.step.Hand.TheVariants.{Free}
use Rattle.td_core.specs.History.{History, rows_of}
use Rattle.td_core.specs.Worlds.{WorldView, hand_in}
use Rattle.td_book.specs.Deeds.{code_of}
use Rattle.td_book.specs.Desk.{Fixed, BookModel}
use Rattle.td_book.proofs.Returns.{length-rows}
use Rattle.td_book.proofs.Seeing.{length-seen_off}
use Rattle.td_steps.specs.Sees.{Desk, Sees, resting}
use Rattle.td_steps.specs.Moves.{Move}
use Rattle.td_steps.specs.Runs.{MayAll}
use Rattle.td_steps.specs.Parts.{offering}
use Rattle.td_steps.specs.Openings.{world_from, desk_from, MayOpen, begun}
use Rattle.td_steps.specs.Books.{Call, DoAll}
use Rattle.td_steps.specs.Tries.{tried_in, done_in}
use Rattle.td_steps.specs.Schedules.{SamePhase, SameHand, Shows, AreCalls, SchedulesRun}
use Rattle.td_steps.proofs.Books.{entries_stay}
use Rattle.td_steps.proofs.Calls.{call-moved}
use Rattle.td_steps.proofs.Earlier.{earlier}
use Rattle.td_steps.proofs.Growth.{all-grown}
use Rattle.td_steps.proofs.Moves.{runs_are_seen}
use Rattle.td_steps.proofs.Openings.{histories_open, opens-leads}
use Rattle.td_steps.proofs.Parts.{Leads, leads-then}
use Rattle.td_steps.proofs.Showing.{phase_as, Agrees, nobody}
use Rattle.td_steps.proofs.Simulation.{Reaches, Fitting, simulated}
use Rattle.td_steps.proofs.Tries.{done_in-append, tried_in-append}

-- ---- 1. some outcomes of the codes that the board has

abbrev end_of : OutcomeCode → Outcome
end_of codes.Built = ends.Built
end_of codes.Attempted = ends.Attempted
end_of codes.GivenBack = ends.GivenBack
end_of codes.Waits = ends.Waits []

end_is : (c : OutcomeCode) → code_of (end_of c) ≡ c
end_is codes.Built = refl
end_is codes.Attempted = refl
end_is codes.GivenBack = refl
end_is codes.Waits = refl

abbrev end_at : List BoardPhase → ℕ → Outcome
end_at [] r = ends.Built
end_at (done b c ∷ ps) zero = end_of c
end_at (p ∷ ps) zero = ends.Built
end_at (p ∷ ps) (suc r) = end_at ps r

ends_fit : (ps : List BoardPhase) → Fitting (end_at ps) ps
ends_fit [] r b c at = absurd (some-ne-none (done b c) (sym at))
ends_fit (closed ∷ ps) zero b c at = absurd (cc)
ends_fit (opened ∷ ps) zero b c at = absurd (cc)
ends_fit (held a ∷ ps) zero b c at = absurd (cc)
ends_fit (noted a ∷ ps) zero b c at = absurd (cc)
ends_fit (done a d ∷ ps) zero b c at =
    let same : d ≡ c = (let e : some (done a d) ≡ some (done b c) = at in cc) in end_is d ∙ same
ends_fit (p ∷ ps) (suc r) b c at = ends_fit ps r b c at

-- ---- 2. a new board

replicated : {A : Type 0} (n i : ℕ) (x : A) → i < n → slice_get (replicate n x) i ≡ Some x
replicated zero i x h = absurd (omega arith)
replicated (suc n) zero x h = refl
replicated (suc n) (suc i) x h = replicated n i x (omega arith)

free_all : (n b : ℕ) → 0 < b → b ≤ n → hand_in (replicate n Free) b ≡ Some Free
free_all n b one few =
    ap (λ z. if z then None else slice_get (replicate n Free) (b - 1))
    (ne_eqb b 0 (λ e. omega (arith, e, one)))
    ∙ replicated n (b - 1) Free (omega (arith, one, few))

starts : (h : History) (st : Stock) (n rows : ℕ) (g : ℕ → Outcome) → rows ≡ length h.opening
    → Agrees h.opening n g (new_board rows) (world_from h st n)
starts h st n rows g many = record {
  opening = refl;
  sized =
      length-replicate (length h.opening) Closed ∙ sym many ∙ sym (length-replicate rows closed);
  crew = length-replicate n Free;
  phases = λ r p at.
      let is : closed ≡ p = at_replicate rows r closed p at in
      let within : r < length (replicate rows closed) = at_less (replicate rows closed) r p at in
      let long = length-replicate rows closed in
      replicated (length h.opening) r Closed (omega (arith, within, long, many))
      ∙ ap (λ (x : BoardPhase). Some (phase_as (g r) x)) is;
  hands = λ b v at. absurd (nobody rows b v at);
  spare = λ b long one few. free_all n b one few;
}

-- ---- 3. the calls

-- the moves of calls, behind those before
record Chained (d0 : Desk) (o : Table) (calls : List Call) (old new : BookModel)
    (before : List Move) : Type 0 where
  moves : List Move
  are : AreCalls calls old new moves
  leads : Leads d0 (before ++ moves) (resting new)
  made : done_in new.tries ≡ tried_in o (before ++ moves)

module _ (h : History) (fixed : Fixed) (may : MayOpen h) (rows : ℕ) (m : Moment)
    (reached : Reached rows m) (d : DeskView) (at : DeskKnows m d)
    (few : length d.noted ≤ fixed.builders) (many : rows ≡ length h.opening) where
  abbrev w0 : WorldView
  w0 = world_from h fixed.stock fixed.builders

  abbrev d0 : Desk
  d0 = desk_from h fixed.stock fixed.builders

  sees0 : Sees w0 d0
  sees0 = (histories_open h fixed may).sees

  runs-to : (k : Moment) → Reached rows k → (e : DeskView) → DeskKnows k e
      → length e.noted ≤ fixed.builders → (ms : List Move) → MayAll d0 ms
      → tried_in h.opening ms ≡ done_in e.tried
      → Reaches w0 h.opening fixed.builders ms (end_at k.phases) k
  runs-to k there e knows least ms mays told =
      simulated w0 h.opening fixed.builders d0 sees0 may.rising rows
      (λ g. starts h fixed.stock fixed.builders rows g many) k there e knows least ms mays told
      (end_at k.phases) (ends_fit k.phases)

  chained : (calls : List Call) (old new : BookModel) (before : List Move)
      → Leads d0 before (resting old) → done_in old.tries ≡ tried_in h.opening before
      → old.history.opening ≡ h.opening → DoAll calls old new → done_in d.tried ≡ done_in new.tries
      → Chained d0 h.opening calls old new before
  chained [] old new before leads made opening same end = record {
    moves = [];
    are = (same, refl);
    leads = subst (λ (l : List Move). Leads d0 l (resting new)) (sym (append-nil before))
        (subst (λ (b : BookModel). Leads d0 before (resting b)) (sym same) leads);
    made = ap (λ (b : BookModel). done_in b.tries) same ∙ made
        ∙ ap (tried_in h.opening) (sym (append-nil before));
  }
  chained (c ∷ calls) old new before leads made opening did end =
      let between = did.0 in
      let grown = all-grown (c ∷ calls) old new did in
      let parted : done_in d.tried ≡ tried_in h.opening before ++ done_in grown.0 =
      end ∙ ap done_in grown.1 ∙ done_in-append old.tries grown.0
      ∙ ap (λ (l : List DeskTry). l ++ done_in grown.0) made in
      let then_ = earlier rows fixed.builders (tried_in h.opening before) m reached d at few
      (done_in grown.0) parted in
      let r = runs-to then_.moment then_.reached then_.desk then_.knows then_.few before leads.may
      (sym then_.made) in
      let seen = (runs_are_seen w0 d0 before sees0 leads.may r.world r.runs).1 in
      let sees : Sees r.world (resting old) = subst (Sees r.world) leads.to seen in
      let call = call-moved r.world c old between sees did.1 in
      let all = before ++ call.moves in
      let leads' : Leads d0 all (resting between) =
      leads-then d0 (resting old) (resting between) before call.moves leads call.leads in
      let made' : done_in between.tries ≡ tried_in h.opening all =
      call.made ∙ (λ j. made j ++ tried_in (opening j) call.moves)
      ∙ sym (tried_in-append h.opening before call.moves) in
      let opening' : between.history.opening ≡ h.opening =
      (entries_stay (c ∷ []) old between (between, did.1, refl)).opening ∙ opening in
      let rest = chained calls between new all leads' made' opening' did.2 end in
      let whole = append_assoc before call.moves rest.moves in
      record {
        moves = call.moves ++ rest.moves;
        are = (
          between,
          did.1,
          call.moves,
          call.are,
          call.made,
          rest.moves,
          rest.are,
          refl,
        );
        leads = subst (λ (l : List Move). Leads d0 l (resting new)) whole rest.leads;
        made = rest.made ∙ ap (tried_in h.opening) whole;
      }

-- ---- 4. every schedule

same-phase : (e : Outcome) (p : BoardPhase)
    → ((b : ℕ) (c : OutcomeCode) → p ≡ done b c → code_of e ≡ c) → SamePhase p (phase_as e p)
same-phase e closed fit = tt
same-phase e opened fit = tt
same-phase e (held b) fit = refl
same-phase e (noted b) fit = refl
same-phase e (done b c) fit = (refl, fit b c refl)

shows : (o : Table) (n : ℕ) (m : Moment) (v : WorldView)
    → Agrees o n (end_at m.phases) m v → length m.views ≡ suc n → Shows m v
shows o n m v a many = record {
  rows = a.sized;
  builders = ap suc a.crew ∙ sym many;
  phases = λ r p at. (
    phase_as (end_at m.phases r) p,
    a.phases r p at,
    same-phase (end_at m.phases r) p
        (λ b c is. ends_fit m.phases r b c (at ∙ ap (λ (x : BoardPhase). some x) is)),
  );
  hands = λ b y at.
      let x = a.hands b y at in (
        x.0,
        x.1,
        subst (λ (t : Table). SameHand (keys_of t) y.hand x.0) (sym a.opening) x.2,
      );
}

pub schedules_run : SchedulesRun
schedules_run rows m reached seat at h fixed calls new may did rest =
    let book = begun h fixed in
    let follows = entries_stay calls book new did in
    let fits = with_desk rows m seat.desk (rule_stands rows m reached) at in
    let crew : length seat.desk.noted ≡ fixed.builders =
    rest.builders ∙ ap (λ (x : Fixed). x.builders) follows.fixed in
    let few : length seat.desk.noted ≤ fixed.builders = omega (arith, crew) in
    let many : rows ≡ length h.opening =
    sym fits.wide ∙ ap length rest.rows ∙ length-seen_off [] (rows_of new.history)
    ∙ length-rows new.history ∙ ap (λ (t : Table). length t) follows.opening in
    let w = world_from h fixed.stock fixed.builders in
    let d = desk_from h fixed.stock fixed.builders in
    let sees = (histories_open h fixed may).sees in
    let first = offering (rows_of h) (keys_of (rows_of h)) in
    let all = chained h fixed may rows m reached seat.desk at few many calls book new first
    (opens-leads h fixed may) (histories_open h fixed may).made refl did
    (ap done_in rest.tries) in
    let r = runs-to h fixed may rows m reached seat.desk at few many m reached seat.desk at few
    (first ++ all.moves) all.leads.may (sym all.made ∙ ap done_in (sym rest.tries)) in
    let seen = runs_are_seen w d (first ++ all.moves) sees all.leads.may r.world r.runs in
    let end : Sees r.world (resting new) = subst (Sees r.world) all.leads.to seen.1 in
    let views : length m.views ≡ suc fixed.builders = fits.many ∙ ap suc crew in (
      all.moves,
      all.are,
      r.world,
      (r.runs, r.taken, seen.0),
      end.history,
      shows h.opening fixed.builders m r.world r.agrees views,
    )
