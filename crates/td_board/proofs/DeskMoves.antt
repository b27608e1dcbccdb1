-- The table's rule allows each of the desk's kinds of step, and the step tells what it should.
use Rattle.std.proofs.Common.{◌≡◌, ◌≢◌, ℕ, suc, ◌+◌, ◌<◌, ◌≤◌, List, [], ◌∷◌, ◌++◌, length}
use Rattle.std.proofs.Common.{replicate, get_or, set, sym, refl, ap, ◌∙◌, subst, arith, add-one}
use Rattle.std.proofs.Common.{eqb}
use mathlib.Core.Logic.{dite}
use mathlib.Core.Option.{none, some}
use native.Mathlib.Decide.{ℕ_discrete}
use lib.ListN.{get_elem?}
use prog.Atomic.{either}
use Rattle.atomic_table.specs.Table.{Act, keeps, Valid, step, carried_after, stepped, Allows}
use Rattle.atomic_table.specs.Table.{Splits, opening}
use Rattle.td_board.specs.declared.outcome.OutcomeCode.{OutcomeCode}
use Rattle.td_board.specs.declared.views.RowView.{RowView}
use Rattle.td_board.specs.declared.views.RowView.TheVariants.{In, Out, Seen, Known}
use Rattle.td_board.specs.declared.views.Deed.TheVariants.{Claim, Finish}
use Rattle.td_board.specs.declared.views.DeskTry.TheVariants.{WithdrawalWon, WithdrawalLost}
use Rattle.td_board.specs.declared.views.DeskTry.TheVariants.{SettleDone, SettleEarly}
use Rattle.td_board.specs.declared.views.DeskTry.TheVariants.{Offered, ClaimNoted}
use Rattle.td_board.specs.declared.views.DeskView.{DeskView}
use Rattle.td_board.specs.declared.views.View.{View}
use Rattle.td_board.specs.declared.views.View.TheVariants.{Desk, Builder}
use Rattle.td_board.specs.Phase.{Phase, closed, opened, held, noted, done, word_of}
use Rattle.td_board.specs.Knowledge.{with_builder, with_row, with_deed, new_builder, desk_tried}
use Rattle.td_board.specs.Steps as steps
use Rattle.td_board.specs.Steps.{Moment, moment_of, Reached}
use Rattle.td_board.specs.Rule.{RowFits, Fits}
use Rattle.td_board.specs.Ruled.{Ruled, first_view}
use Rattle.td_board.specs.Tells.{SeatState, at_desk, desk_half, builder_half, OfferTells}
use Rattle.td_board.specs.Tells.{WithdrawTells, NoteTells, SettleTells}
use Rattle.td_board.proofs.Lists.{at_less}
use Rattle.td_board.proofs.RowLaws.{phase_at, in_closed, seen_held, OutPhase, is_open, is_held}
use Rattle.td_board.proofs.RowLaws.{out_phase, desk_seat, builder_seat}
use Rattle.td_board.proofs.Schedules.{rule_stands}
use Rattle.td_board.proofs.RuledSteps.{TableState, ruled_row, ruled_view, ruled_missed}
use Rattle.td_board.proofs.WordLaws.{words_apart, word_at, words_of_closed, same_finish}
use Rattle.td_board.proofs.WordLaws.{either_hit}

-- the desk's seat is the first, and what it knows fits
desk_fits : (rows : ℕ) (s : TableState) (rule : Ruled rows s) (id : ℕ) (d : DeskView)
    → get_elem? s.views id ≡ some (Desk d) → (id ≡ 0) × Fits rows rule.phases d s.views
desk_fits rows s rule id d at =
    let m : Moment = moment_of rule.phases s.views in
    let stands = rule_stands rows m rule.reached in
    let place = desk_seat rows rule.phases stands.0 s.views id d stands.1 at in
    (place.0, subst (λ x. Fits rows rule.phases x s.views) place.1 stands.1)

-- what the rule says of the desk's seat, and of a row of which it knows x
record DeskSees (rows : ℕ) (s : TableState) (phases : List Phase) (id : ℕ) (d : DeskView) (r : ℕ)
    (x : RowView) : Type 0 where
  first : id ≡ 0
  fits : Fits rows phases d s.views
  phase : Phase
  here : get_elem? phases r ≡ some phase
  suits : RowFits x phase
  word : get_or s.words (r + 1) 0 ≡ word_of phase

desk_sees : (rows : ℕ) (s : TableState) (rule : Ruled rows s) (id : ℕ) (d : DeskView) (r : ℕ)
    (x : RowView) → get_elem? s.views id ≡ some (Desk d) → get_elem? d.rows r ≡ some x
    → DeskSees rows s rule.phases id d r x
desk_sees rows s rule id d r x at shown =
    let desk = desk_fits rows s rule id d at in
    let t = phase_at rows rule.phases d s.views r x desk.1 shown in
    record {
      first = desk.0;
      fits = desk.1;
      phase = t.0;
      here = t.1;
      suits = t.2;
      word = word_at s.words rule.phases r t.0 rule.words_are t.1;
    }

-- the builder that a held row names is one of the board's
holder_in : (rows : ℕ) (phases : List Phase) (d : DeskView) (views : List View) (r b : ℕ)
    → Fits rows phases d views → get_elem? phases r ≡ some (held b)
    → (0 < b) × (b ≤ length d.noted)
holder_in rows phases d views r b f at =
    let has = f.each_hand r (held b) at in
    let known = builder_seat rows phases d views b has.0 f has.1 in
    let room = at_less views b (Builder has.0) has.1 in
    let many = f.many in
    let k : ℕ = known.0 in
    let named : b ≡ suc k = known.1 in
    (omega arith, omega arith)

-- a new board
pub make_ruled : (rows : ℕ) (words : List ℕ) → words ≡ replicate (rows + 1) 0
    → Ruled rows (opening words [] (first_view rows))
make_ruled rows words is = record {
  phases = replicate rows closed;
  words_are =
      is ∙ (ap (λ n. replicate n 0) (add-one rows) ∙ ap (λ l. 0 ∷ l) (sym (words_of_closed rows)));
  reached = steps.made;
}

-- a builder's seat is split off
pub seat_allowed : (rows id : ℕ) (v : View) (d : DeskView) → v ≡ Desk d
    → Splits (Ruled rows) id v (desk_half v) (builder_half v)
seat_allowed rows id v d is =
    subst (λ (x : View). Splits (Ruled rows) id x (desk_half x) (builder_half x)) (sym is)
    (λ s rule at.
    let desk = desk_fits rows s rule id d at in
    let n : ℕ = length d.noted in
    record {
      phases = rule.phases;
      words_are = rule.words_are;
      reached =
          subst (λ (z : ℕ × ℕ). Reached rows
          (moment_of rule.phases
          (set s.views z.0 (Desk (with_builder d)) ++ Builder (new_builder z.1) ∷ [])))
          (λ i. (sym desk.0 i, sym (add-one n) i))
          (steps.after rule.reached (steps.seat d desk.1.first refl));
    })

-- an offer
pub offer_allowed : (rows slots id r : ℕ) (me : SeatState) (d : DeskView) → me ≡ at_desk d
    → get_elem? d.rows r ≡ some In
    → Allows (Ruled rows) slots id me (r + 1) (λ _. 1)
    (λ _. OfferTells (step slots (r + 1) 1 0 none) me 1)
offer_allowed rows slots id r me d is in_here =
    subst (λ (m : SeatState).
    Allows (Ruled rows) slots id m (r + 1) (λ _. 1)
    (λ _. OfferTells (step slots (r + 1) 1 0 none) m 1)) (sym is)
    (λ s rule _ at _.
    let t = desk_sees rows s rule id d r In at in_here in
    let here : get_elem? rule.phases r ≡ some closed =
    t.here ∙ ap some (in_closed t.phase t.suits) in
    let d' : DeskView = desk_tried (Offered r) (with_row r Out d) in (
      Desk d',
      keeps,
      tt,
      ruled_row rows s rule r 1 id 0 opened (Desk d') t.first refl
          (steps.offer r d t.fits.first in_here here refl),
      (λ q e. let same : r ≡ q = omega arith in
          ap (λ i. at_desk (desk_tried (Offered i) (with_row i Out d))) same),
    ))

-- a withdrawal
pub withdrawal_allowed : (rows slots id r : ℕ) (me : SeatState) (d : DeskView) → me ≡ at_desk d
    → get_elem? d.rows r ≡ some Out
    → Allows (Ruled rows) slots id me (r + 1) (λ n. either (eqb n 1) 0 n)
    (WithdrawTells (step slots (r + 1) 1 0 none) me)
withdrawal_allowed rows slots id r me d is out_here =
    subst (λ (m : SeatState).
    Allows (Ruled rows) slots id m (r + 1) (λ n. either (eqb n 1) 0 n)
    (WithdrawTells (step slots (r + 1) 1 0 none) m)) (sym is)
    (λ s rule _ at _.
    let t = desk_sees rows s rule id d r Out at out_here in
    let n : ℕ = get_or s.words (r + 1) 0 in
    dite (ℕ_discrete n 1)
    (λ (won : n ≡ 1).
    let here : get_elem? rule.phases r ≡ some opened =
    t.here ∙ ap some (words_apart t.phase opened (sym t.word ∙ won)) in
    let d' : DeskView = desk_tried (WithdrawalWon r) (with_row r In d) in (
      Desk d',
      keeps,
      tt,
      ruled_row rows s rule r (either (eqb n 1) 0 n) id 0 closed (Desk d') t.first
          (either_hit n 1 0 won) (steps.withdrawal_won r d t.fits.first out_here here refl),
      (λ q e. let same : r ≡ q = omega arith in (
        (λ _. ap (λ i. at_desk (desk_tried (WithdrawalWon i) (with_row i In d))) same),
        (λ lost. absurd (lost won)),
      )),
    ))
    (λ (lost : n ≢ 1). held_case rows slots id r d s rule out_here t lost
    (out_phase t.phase t.suits)))
  where
    held_case : (rows slots id r : ℕ) (d : DeskView) (s : TableState) (rule : Ruled rows s)
        → get_elem? d.rows r ≡ some Out → (t : DeskSees rows s rule.phases id d r Out)
        → get_or s.words (r + 1) 0 ≢ 1 → OutPhase t.phase
        → let n : ℕ = get_or s.words (r + 1) 0 in
        (w : View) × (a : Act (Unit {0})) × Valid s.homes [] a
        × Ruled rows (stepped s (r + 1) (either (eqb n 1) 0 n) id [] w a)
        × WithdrawTells (step slots (r + 1) 1 0 none) (at_desk d) n (w, carried_after [] a)
    held_case rows slots id r d s rule out_here t lost (is_open e) =
        absurd (lost (t.word ∙ ap word_of e))
    held_case rows slots id r d s rule out_here t lost (is_held b e) =
        let holds : get_elem? rule.phases r ≡ some (held b) = t.here ∙ ap some e in
        let known = holder_in rows rule.phases d s.views r b t.fits holds in
        let n : ℕ = get_or s.words (r + 1) 0 in
        let d' : DeskView = desk_tried (WithdrawalLost r b) (with_row r (Seen b) d) in (
          Desk d',
          keeps,
          tt,
          ruled_missed rows s (r + 1) n 1 0 id (Desk d') lost
              (ruled_view rows s rule (r + 1) id 0 (Desk d') t.first
              (steps.withdrawal_lost r b d t.fits.first out_here holds refl)),
          (λ q e'. let same : r ≡ q = omega arith in (
            (λ won. absurd (lost won)),
            (λ _. (
              b,
              t.word ∙ ap word_of e,
              known.0,
              known.1,
              ap (λ i. at_desk (desk_tried (WithdrawalLost i b) (with_row i (Seen b) d))) same,
            )),
          )),
        )

-- a note
pub note_allowed : (rows slots id r b new : ℕ) (me : SeatState) (d : DeskView)
    → new ≡ word_of (noted b) → me ≡ at_desk d → get_elem? d.rows r ≡ some (Seen b)
    → Allows (Ruled rows) slots id me (r + 1) (λ _. new)
    (λ _. NoteTells (step slots (r + 1) new 0 none) me new)
note_allowed rows slots id r b new me d word is seen =
    subst (λ (k : ℕ). Allows (Ruled rows) slots id me (r + 1) (λ _. k)
    (λ _. NoteTells (step slots (r + 1) k 0 none) me k)) (sym word)
    (at_word rows slots id r b me d is seen)
  where
    at_word : (rows slots id r b : ℕ) (me : SeatState) (d : DeskView) → me ≡ at_desk d
        → get_elem? d.rows r ≡ some (Seen b)
        → Allows (Ruled rows) slots id me (r + 1) (λ _. word_of (noted b))
        (λ _. NoteTells (step slots (r + 1) (word_of (noted b)) 0 none) me (word_of (noted b)))
    at_word rows slots id r b me d is seen =
        subst (λ (m : SeatState).
        Allows (Ruled rows) slots id m (r + 1) (λ _. word_of (noted b))
        (λ _. NoteTells (step slots (r + 1) (word_of (noted b)) 0 none) m (word_of (noted b))))
        (sym is)
        (λ s rule _ at _.
        let t = desk_sees rows s rule id d r (Seen b) at seen in
        let here : get_elem? rule.phases r ≡ some (held b) =
        t.here ∙ ap some (seen_held b t.phase t.suits) in
        let known = holder_in rows rule.phases d s.views r b t.fits here in
        let d' : DeskView =
        desk_tried (ClaimNoted r b) (with_deed b (Claim r) (with_row r (Known b) d)) in (
          Desk d',
          keeps,
          tt,
          ruled_row rows s rule r (word_of (noted b)) id 0 (noted b) (Desk d') t.first refl
              (steps.note r b d t.fits.first seen here refl),
          (λ q a e e'. let one : r ≡ q = omega arith in let two : b ≡ a = omega arith in (
            subst (λ i. 0 < i) two known.0,
            subst (λ i. i ≤ length d.noted) two known.1,
            λ i. at_desk (desk_tried (ClaimNoted (one i) (two i))
                (with_deed (two i) (Claim (one i)) (with_row (one i) (Known (two i)) d))),
          )),
        ))

-- a settling
pub settling_allowed : (rows slots id r b : ℕ) (c : OutcomeCode) (old : ℕ) (me : SeatState)
    (d : DeskView) → old ≡ word_of (done b c) → me ≡ at_desk d → get_elem? d.rows r ≡ some (Known b)
    → Allows (Ruled rows) slots id me (r + 1) (λ n. either (eqb n old) 0 n)
    (SettleTells (step slots (r + 1) old 0 none) me)
settling_allowed rows slots id r b c old me d word is knows =
    subst (λ (k : ℕ). Allows (Ruled rows) slots id me (r + 1) (λ n. either (eqb n k) 0 n)
    (SettleTells (step slots (r + 1) k 0 none) me)) (sym word)
    (at_word rows slots id r b c me d is knows)
  where
    at_word : (rows slots id r b : ℕ) (c : OutcomeCode) (me : SeatState) (d : DeskView)
        → me ≡ at_desk d → get_elem? d.rows r ≡ some (Known b)
        → let old = word_of (done b c) in
        Allows (Ruled rows) slots id me (r + 1) (λ n. either (eqb n old) 0 n)
        (SettleTells (step slots (r + 1) old 0 none) me)
    at_word rows slots id r b c me d is knows = let old : ℕ = word_of (done b c) in
        subst (λ (m : SeatState).
        Allows (Ruled rows) slots id m (r + 1) (λ n. either (eqb n old) 0 n)
        (SettleTells (step slots (r + 1) old 0 none) m)) (sym is)
        (λ s rule _ at _.
        let t = desk_sees rows s rule id d r (Known b) at knows in
        let n : ℕ = get_or s.words (r + 1) 0 in
        dite (ℕ_discrete n old)
        (λ (won : n ≡ old).
        let here : get_elem? rule.phases r ≡ some (done b c) =
        t.here ∙ ap some (words_apart t.phase (done b c) (sym t.word ∙ won)) in
        let d' : DeskView =
        desk_tried (SettleDone r c) (with_deed b (Finish r c) (with_row r In d)) in (
          Desk d',
          keeps,
          tt,
          ruled_row rows s rule r (either (eqb n old) 0 n) id 0 closed (Desk d') t.first
              (either_hit n old 0 won) (steps.settle_done r b c d t.fits.first knows here refl),
          (λ q a k e e'. let one : r ≡ q = omega arith in let same = same_finish b a c k e' in (
            (λ _ i. at_desk (desk_tried (SettleDone (one i) (same.1 i))
                (with_deed (same.0 i) (Finish (one i) (same.1 i)) (with_row (one i) In d)))),
            (λ lost. absurd (lost won)),
          )),
        ))
        (λ (lost : n ≢ old).
        let d' : DeskView = desk_tried (SettleEarly r c) d in (
          Desk d',
          keeps,
          tt,
          ruled_missed rows s (r + 1) n old 0 id (Desk d') lost
              (ruled_view rows s rule (r + 1) id 0 (Desk d') t.first
              (steps.settle_early r b c t.phase d t.fits.first knows t.here
              (λ (e : t.phase ≡ done b c). lost (t.word ∙ ap word_of e)) refl)),
          (λ q a k e e'. let one : r ≡ q = omega arith in let same = same_finish b a c k e' in (
            (λ won. absurd (lost won)),
            (λ _ i. at_desk (desk_tried (SettleEarly (one i) (same.1 i)) d)),
          )),
        )))
