-- Whatever builders do, a command goes on to its end.
use Rattle.std.proofs.Common.{◌≡◌, ℕ, zero, suc, ◌≤◌, Bool, true, false, ◌&&◌, List, [], ◌∷◌, ◌++◌}
use Rattle.std.proofs.Common.{Some, if◌then◌else◌, filter, length, slice_get, ap, refl, sym, subst}
use Rattle.std.proofs.Common.{◌∙◌, arith}
use Rattle.std.proofs.lemmas.Bool.{and_parts}
use Rattle.td_board.specs.declared.views.RowView.TheVariants as views
use Rattle.td_rows.specs.declared.key.Key.{Key}
use Rattle.td_rows.specs.declared.kind.Kind.{Kind}
use Rattle.td_rows.specs.Keys.{names, below_all, ascending}
use Rattle.td_rows.specs.Table.{Table, keys_of}
use Rattle.td_supply.specs.Supply.{Stock}
use Rattle.td_core.specs.Committing.{takes}
use Rattle.td_core.specs.declared.step.Phase.{Phase}
use Rattle.td_core.specs.declared.step.Phase.TheVariants as phases
use Rattle.td_core.specs.declared.step.Step.{Step}
use Rattle.td_core.specs.History.{History, rows_of, with_entry}
use Rattle.td_core.specs.Refusals.{is_queued_at}
use Rattle.td_core.specs.Steps.{after, after_all}
use Rattle.td_core.specs.Worlds.{WorldView, phase_of}
use Rattle.td_book.specs.Calls.{is_lost, noting_one, noting, entered}
use Rattle.td_book.specs.Desk.{claim_of}
use Rattle.td_core.proofs.Promises.{builders_are_there}
use Rattle.td_book.specs.Commands.{named_by, is_matched_in}
use Rattle.td_wbread.specs.Kinds.{kind_of}
use Rattle.td_steps.specs.Sees.{Desk, view_of, Fits, Sees}
use Rattle.td_steps.specs.Moves.{Move, offer, won, lost, note, step_of, moved, Chosen}
use Rattle.td_steps.specs.Parts.{withdrawing_one, withdrawing, offering_one, offering, committing}
use Rattle.td_steps.specs.Builds.{notice_moves}
use Rattle.td_steps.specs.Commands.{off_in}
use Rattle.td_steps.specs.Choices.{first_at}
use Rattle.td_steps.specs.Turns.{RunsWith, AreTurns, TurnsRun, CommandsGoOn, StartsGoOn}
use Rattle.td_steps.proofs.Sees.{phase_seen}
use Rattle.td_steps.proofs.Moves.{many, moves_are_steps}
use Rattle.td_steps.proofs.Parts.{queued-row, view-out, off-rise, desk_off, won-leads, lost-leads}
use Rattle.td_steps.proofs.Parts.{idle-leads, Apart, apart-first, apart-rest, apart-none, up-seen}
use Rattle.td_steps.proofs.Commands.{named-rise}

-- ---- 1. moves that nothing decides

pub FreeMoves : List Move → Type 0
FreeMoves [] = Unit {0}
FreeMoves (m ∷ ms) = ((w : WorldView) → Chosen w m) × FreeMoves ms

-- a run to somewhere
abbrev pub Going : (ℕ → List Step) → WorldView → List Move → Type 0
Going turn w ms = (v : WorldView) × RunsWith turn w ms v

pub free-run : (turn : ℕ → List Step) (w : WorldView) (ms : List Move) → FreeMoves ms
    → Going turn w ms
unfolding FreeMoves
free-run turn w [] free = (after_all w (turn 0), refl)
free-run turn w (m ∷ ms) free =
    let rest = free-run (λ i. turn (suc i)) (after (after_all w (turn 0)) (step_of m)) ms free.1 in
    (rest.0, (free.0 (after_all w (turn 0)), rest.1))

pub free-none : FreeMoves []
unfolding FreeMoves
free-none = tt

pub free-one : (m : Move) (ms : List Move) → ((w : WorldView) → Chosen w m) → FreeMoves ms
    → FreeMoves (m ∷ ms)
unfolding FreeMoves
free-one m ms one more = (one, more)

pub free-append : (a b : List Move) → FreeMoves a → FreeMoves b → FreeMoves (a ++ b)
unfolding FreeMoves
free-append [] b one two = two
free-append (m ∷ a) b one two = (one.0, free-append a b one.1 two)

pub free-offering : (t : Table) (ks : List Key) → FreeMoves (offering t ks)
unfolding FreeMoves
free-offering t [] = tt
free-offering t (k ∷ ks) =
    free-append (offering_one t k) (offering t ks)
    (elim (is_queued_at t k) as (λ b. FreeMoves (if b then offer k ∷ [] else [])) [
      | true ↦
          ((λ w. tt), tt)
      | false ↦ tt
    ]) (free-offering t ks)

free-committing : (kind : Kind) (ks : List Key) → FreeMoves (committing kind ks)
unfolding FreeMoves
free-committing kind [] = tt
free-committing kind (k ∷ ks) = ((λ w. tt), tt)

-- ---- 2. who is first

pub record First (w : WorldView) (n : ℕ) (k : Key) : Type 0 where
  pub by : ℕ
  pub bound : by ≤ n
  pub is : phase_of w k ≡ Some (first_at by)

pub first-out : (w : WorldView) (s : Desk) (k : Key) → Sees w s → view_of s k ≡ Some views.Out
    → First w s.builders k
first-out w s k i out = let seen = phase_seen w s k views.Out i out in by_phase seen.0 seen.1 seen.2
  where
    by_phase : (p : Phase) → phase_of w k ≡ Some p → Fits views.Out p → First w s.builders k
    by_phase phases.Closed phase fit = elim fit [ ]
    by_phase phases.Open phase fit = record { by = 0; bound = omega arith; is = phase }
    by_phase (phases.Held zero) phase fit =
        absurd (let r = builders_are_there w k (phases.Held 0) 0 i.sound phase refl in
        omega (arith, r.0))
    by_phase (phases.Held (suc b)) phase fit =
        record {
          by = suc b;
          bound = let r = builders_are_there w k (phases.Held (suc b)) (suc b) i.sound phase refl in
              subst (λ (n : ℕ). suc b ≤ n) i.builders r.1;
          is = phase;
        }
    by_phase (phases.Noted b) phase fit = elim fit [ ]
    by_phase (phases.Done b o) phase fit = elim fit [ ]

-- ---- 3. withdrawals, and what comes after them

record Chosen_all (turn : ℕ → List Step) (w : WorldView) (h : History) (n : ℕ) (ks : List Key)
    (more : List ℕ → List Move) : Type 0 where
  choices : List ℕ
  one_each : length choices ≡ length ks
  bound : (i b : ℕ) → slice_get choices i ≡ Some b → b ≤ n
  going : Going turn w (withdrawing h ks choices ++ more choices)

bound-more : (n b : ℕ) (bs : List ℕ) → b ≤ n → ((j c : ℕ) → slice_get bs j ≡ Some c → c ≤ n)
    → (j c : ℕ) → slice_get (b ∷ bs) j ≡ Some c → c ≤ n
bound-more n b bs le all zero c at = let same : b ≡ c = cc in omega (arith, le, same)
bound-more n b bs le all (suc j) c at = all j c at

-- one key is decided, and the others follow
module _ (st : Stock) (n : ℕ) (k : Key) (ks done : List Key) (more : List ℕ → List Move) where
  one_key : (turn : ℕ → List Step) (w : WorldView) (h : History) → AreTurns turn
      → Sees w (desk_off h st n done) → ascending (keys_of h.opening) ≡ true → names done k ≡ false
      → ((turn' : ℕ → List Step) (w' : WorldView) (h' : History) (b : ℕ) → AreTurns turn'
      → h'.opening ≡ h.opening → Sees w' (desk_off h' st n (done ++ k ∷ []))
      → Chosen_all turn' w' h' n ks (λ bs. more (b ∷ bs)))
      → Chosen_all turn w h n (k ∷ ks) more
  one_key turn w h theirs i up apart rest = at (is_queued_at (rows_of h) k) refl
    where
      pack : (b : ℕ) → b ≤ n → (c : Chosen_all turn w (noting_one h k b) n ks (λ bs. more (b ∷ bs)))
          → withdrawing_one h k b ≡ [] → Chosen_all turn w h n (k ∷ ks) more
      pack b le c e = record {
        choices = b ∷ c.choices;
        one_each = ap suc c.one_each;
        bound = bound-more n b c.choices le c.bound;
        going = subst (λ (ms : List Move).
            Going turn w ((ms ++ withdrawing (noting_one h k b) ks c.choices)
            ++ more (b ∷ c.choices))) (sym e) c.going;
      }

      by_choice : is_queued_at (rows_of h) k ≡ true → (u : WorldView) → u ≡ after_all w (turn 0)
          → Sees u (desk_off h st n done) → (b : ℕ) → b ≤ n → phase_of u k ≡ Some (first_at b)
          → (l : Bool) → is_lost b ≡ l → Chosen_all turn w h n (k ∷ ks) more
      by_choice queued u u_is seen b le phase false wins =
          let s = desk_off h st n done in
          let q = queued-row h k queued in
          let leads = won-leads h st n up done k q apart in
          let open_now : phase_of u k ≡ Some phases.Open =
          phase ∙ ap (λ v. Some (if v then phases.Held b else phases.Open)) wins in
          let step = moves_are_steps u s (won k) seen leads.may.0 open_now in
          let c = rest (λ j. turn (suc j)) (after u (step_of (won k))) h b
          (λ j. theirs (suc j)) refl
          (subst (Sees (after u (step_of (won k)))) leads.to step.sees) in
          let same : withdrawing_one h k b ≡ won k ∷ [] =
          λ j. if queued j then (if wins j then lost k b ∷ note k b ∷ [] else won k ∷ []) else [] in
          let hist : noting_one h k b ≡ h =
          λ j. if queued j && wins j then with_entry h (claim_of b k) else h in
          let rest_moves = withdrawing h ks c.choices ++ more (b ∷ c.choices) in
          let run : Going turn w (won k ∷ rest_moves) =
          subst (λ (x : WorldView).
          Chosen x (won k) × RunsWith (λ j. turn (suc j)) (after x (step_of (won k))) rest_moves
          c.going.0 → Going turn w (won k ∷ rest_moves)) (sym u_is) (λ r. (c.going.0, r))
          (open_now, c.going.1) in
          record {
            choices = b ∷ c.choices;
            one_each = ap suc c.one_each;
            bound = bound-more n b c.choices le c.bound;
            going = subst (λ (ms : List Move). Going turn w ms)
                (λ j. (sym same j ++ withdrawing (sym hist j) ks c.choices) ++ more (b ∷ c.choices))
                run;
          }
      by_choice queued u u_is seen b le phase true loses =
          let s = desk_off h st n done in
          let q = queued-row h k queued in
          let new = with_entry h (claim_of b k) in
          let leads = lost-leads h st n up done k b q apart in
          let held : phase_of u k ≡ Some (phases.Held b) =
          phase ∙ ap (λ v. Some (if v then phases.Held b else phases.Open)) loses in
          let step = moves_are_steps u s (lost k b) seen leads.may.0 held in
          let x = after u (step_of (lost k b)) in
          let y = after_all x (turn 1) in
          let between = many x (moved s (lost k b)) (turn 1) (theirs 1) step.sees in
          let step' = moves_are_steps y (moved s (lost k b)) (note k b) between leads.may.1.0 tt in
          let c = rest (λ j. turn (suc (suc j))) (after y (step_of (note k b))) new b
          (λ j. theirs (suc (suc j))) refl
          (subst (Sees (after y (step_of (note k b)))) leads.to step'.sees) in
          let same : withdrawing_one h k b ≡ lost k b ∷ note k b ∷ [] =
          λ j.
          if queued j then (if loses j then lost k b ∷ note k b ∷ [] else won k ∷ []) else [] in
          let hist : noting_one h k b ≡ new =
          λ j. if queued j && loses j then with_entry h (claim_of b k) else h in
          let rest_moves = withdrawing new ks c.choices ++ more (b ∷ c.choices) in
          let run : Going turn w (lost k b ∷ note k b ∷ rest_moves) =
          subst (λ (z : WorldView).
          Chosen z (lost k b) × RunsWith (λ j. turn (suc j)) (after z (step_of (lost k b)))
          (note k b ∷ rest_moves) c.going.0 → Going turn w (lost k b ∷ note k b ∷ rest_moves))
          (sym u_is) (λ r. (c.going.0, r)) (held, (tt, c.going.1)) in
          record {
            choices = b ∷ c.choices;
            one_each = ap suc c.one_each;
            bound = bound-more n b c.choices le c.bound;
            going = subst (λ (ms : List Move). Going turn w ms)
                (λ j. (sym same j ++ withdrawing (sym hist j) ks c.choices) ++ more (b ∷ c.choices))
                run;
          }

      at : (v : Bool) → is_queued_at (rows_of h) k ≡ v → Chosen_all turn w h n (k ∷ ks) more
      at false idle =
          let c = rest turn w h 0 theirs refl
          (subst (Sees w) (idle-leads h st n up done k idle).to i) in
          let hist : h ≡ noting_one h k 0 =
          λ j. if sym idle j && false then with_entry h (claim_of 0 k) else h in
          pack 0 (omega arith) (subst
          (λ (x : History). Chosen_all turn w x n ks (λ bs. more (0 ∷ bs))) hist c)
          (ap (λ v. if v then won k ∷ [] else []) idle)
      at true queued =
          let u = after_all w (turn 0) in
          let seen = many w (desk_off h st n done) (turn 0) (theirs 0) i in
          let f = first-out u (desk_off h st n done) k seen
          (view-out h st n done k (queued-row h k queued) apart) in
          by_choice queued u refl seen f.by f.bound f.is (is_lost f.by) refl

choose-all : (turn : ℕ → List Step) (w : WorldView) (h : History) (st : Stock) (n : ℕ)
    (done ks : List Key) (more : List ℕ → List Move) → AreTurns turn → Sees w (desk_off h st n done)
    → ascending (keys_of h.opening) ≡ true → ascending ks ≡ true → Apart done ks
    → ((bs : List ℕ) → FreeMoves (more bs)) → Chosen_all turn w h n ks more
choose-all turn w h st n done [] more theirs i up rise apart free =
    record {
      choices = [];
      one_each = refl;
      bound = λ j b at. cc;
      going = free-run turn w (more []) (free []);
    }
choose-all turn w h st n done (k ∷ ks) more theirs i up rise apart free =
    let both = and_parts (below_all k ks) (ascending ks) rise in
    one_key st n k ks done more turn w h theirs i up (apart-first done k ks apart)
    (λ turn' w' h' b theirs' same i'.
    choose-all turn' w' h' st n (done ++ k ∷ []) ks (λ bs. more (b ∷ bs)) theirs' i'
    (ap (λ (t : Table). ascending (keys_of t)) same ∙ up) both.1 (apart-rest done k ks both.0 apart)
    (λ bs. free (b ∷ bs)))

pub commands_go_on : CommandsGoOn
commands_go_on w turn c old theirs sees =
    let kind = kind_of c in
    let matched = filter (is_matched_in c old) (named_by c old) in
    let off = off_in c old in
    let h = old.history in
    let up = up-seen w old sees in
    let chosen = choose-all turn w h old.fixed.stock old.fixed.builders [] off
    (λ bs. committing kind (takes (rows_of (noting h off bs)) kind matched)
    ++ offering (rows_of
    (entered (noting h off bs) kind (takes (rows_of (noting h off bs)) kind matched))) off)
    theirs sees up (off-rise kind (named_by c old) (named-rise c old up)) (apart-none off)
    (λ bs. free-append (committing kind (takes (rows_of (noting h off bs)) kind matched))
    (offering (rows_of
    (entered (noting h off bs) kind (takes (rows_of (noting h off bs)) kind matched))) off)
    (free-committing kind (takes (rows_of (noting h off bs)) kind matched))
    (free-offering (rows_of
    (entered (noting h off bs) kind (takes (rows_of (noting h off bs)) kind matched))) off)) in (
      chosen.choices,
      record { one_each = chosen.one_each; bound = chosen.bound },
      chosen.going.0,
      chosen.going.1,
    )

-- of one key there is one choice
record OneChoice (turn : ℕ → List Step) (w : WorldView) (k : Key) (h : History)
    (n : ℕ) : Type 0 where
  by : ℕ
  bound : by ≤ n
  going : Going turn w (notice_moves k by h)

one-choice : (turn : ℕ → List Step) (w : WorldView) (k : Key) (h : History) (n : ℕ) (bs : List ℕ)
    → length bs ≡ 1 → ((i b : ℕ) → slice_get bs i ≡ Some b → b ≤ n)
    → Going turn w (withdrawing h (k ∷ []) bs ++ offering (rows_of (noting h (k ∷ []) bs)) (k ∷ []))
    → OneChoice turn w k h n
one-choice turn w k h n [] one bound going = absurd (cc)
one-choice turn w k h n (b ∷ []) one bound going =
    record { by = b; bound = bound 0 b refl; going = going }
one-choice turn w k h n (b ∷ b2 ∷ bs) one bound going = absurd (omega (arith, one))

pub starts_go_on : StartsGoOn
starts_go_on w turn k old theirs sees =
    let h = old.history in
    let c = choose-all turn w h old.fixed.stock old.fixed.builders [] (k ∷ [])
    (λ bs. offering (rows_of (noting h (k ∷ []) bs)) (k ∷ [])) theirs sees (up-seen w old sees) refl
    (apart-none (k ∷ [])) (λ bs. free-offering (rows_of (noting h (k ∷ []) bs)) (k ∷ [])) in
    let one = one-choice turn w k h old.fixed.builders c.choices c.one_each c.bound c.going in
    (one.by, one.bound, one.going.0, one.going.1)

pub turns_run : TurnsRun
turns_run w v turn [] theirs runs = record { theirs = turn 0; all = theirs 0; to = runs }
turns_run w v turn (m ∷ ms) theirs runs = (
  after_all w (turn 0),
  record { theirs = turn 0; all = theirs 0; to = refl },
  runs.0,
  turns_run (after (after_all w (turn 0)) (step_of m)) v (λ i. turn (suc i)) ms
      (λ i. theirs (suc i)) runs.1,
)
