-- The table's rule allows each of a builder's kinds of step, and the step tells what it should.
use Rattle.std.proofs.Common.{◌≡◌, ◌≢◌, ℕ, ◌+◌, ◌<◌, List, get_or, sym, refl, ap, ◌∙◌, subst}
use Rattle.std.proofs.Common.{arith, eqb}
use mathlib.Core.Logic.{dite}
use mathlib.Core.Option.{none, some}
use native.Mathlib.Decide.{ℕ_discrete}
use lib.ListN.{get_elem?}
use prog.Atomic.{either}
use Rattle.atomic_table.specs.Table.{keeps, step, Allows}
use Rattle.td_board.specs.declared.outcome.OutcomeCode.{OutcomeCode}
use Rattle.td_board.specs.declared.views.Hand.{Hand}
use Rattle.td_board.specs.declared.views.Hand.TheVariants.{Free, Holding, Finished}
use Rattle.td_board.specs.declared.views.BuilderTry.TheVariants.{ClaimLost, FinishEarly}
use Rattle.td_board.specs.declared.views.BuilderTry.TheVariants.{ReleaseEarly}
use Rattle.td_board.specs.declared.views.BuilderView.{BuilderView}
use Rattle.td_board.specs.declared.views.View.TheVariants.{Builder}
use Rattle.td_board.specs.Phase.{Phase, opened, held, noted, done, word_of}
use Rattle.td_board.specs.Knowledge.{with_claim, with_finish, with_free_hand, builder_tried}
use Rattle.td_board.specs.Steps as steps
use Rattle.td_board.specs.Steps.{Moment, moment_of}
use Rattle.td_board.specs.Ruled.{Ruled}
use Rattle.td_board.specs.Tells.{SeatState, at_builder, ClaimTells, FinishTells, ReleaseTells}
use Rattle.td_board.proofs.Lists.{there_is}
use Rattle.td_board.proofs.RowLaws.{builder_seat}
use Rattle.td_board.proofs.BuilderLaws.{outcome_of}
use Rattle.td_board.proofs.Schedules.{rule_stands}
use Rattle.td_board.proofs.RuledSteps.{TableState, ruled_row, ruled_view, ruled_missed}
use Rattle.td_board.proofs.WordLaws.{words_apart, word_at, same_finish, either_hit}

-- what the rule says of a builder's seat, and of a row
record BuilderSees (s : TableState) (phases : List Phase) (id : ℕ) (v : BuilderView)
    (r : ℕ) : Type 0 where
  number : v.number ≡ id
  phase : Phase
  here : get_elem? phases r ≡ some phase
  word : get_or s.words (r + 1) 0 ≡ word_of phase

builder_sees : (rows : ℕ) (s : TableState) (rule : Ruled rows s) (id : ℕ) (v : BuilderView) (r : ℕ)
    → get_elem? s.views id ≡ some (Builder v) → r < rows → BuilderSees s rule.phases id v r
builder_sees rows s rule id v r at inside =
    let m : Moment = moment_of rule.phases s.views in
    let stands = rule_stands rows m rule.reached in
    let place = builder_seat rows rule.phases stands.0 s.views id v stands.1 at in
    let long = stands.1.long in
    let t = there_is rule.phases r (omega arith) in
    record {
      number = place.2 ∙ sym place.1;
      phase = t.0;
      here = t.1;
      word = word_at s.words rule.phases r t.0 rule.words_are t.1;
    }

-- a claim
pub claim_allowed : (rows slots id r new : ℕ) (me : SeatState) (v : BuilderView)
    → new ≡ word_of (held v.number) → me ≡ at_builder v → v.hand ≡ Free → r < rows
    → Allows (Ruled rows) slots id me (r + 1) (λ n. either (eqb n 1) new n)
    (ClaimTells (step slots (r + 1) 1 new none) me)
claim_allowed rows slots id r new me v word is free inside =
    subst (λ (k : ℕ). Allows (Ruled rows) slots id me (r + 1) (λ n. either (eqb n 1) k n)
    (ClaimTells (step slots (r + 1) 1 k none) me)) (sym word)
    (at_word rows slots id r me v is free inside)
  where
    at_word : (rows slots id r : ℕ) (me : SeatState) (v : BuilderView) → me ≡ at_builder v
        → v.hand ≡ Free → r < rows
        → let new = word_of (held v.number) in
        Allows (Ruled rows) slots id me (r + 1) (λ n. either (eqb n 1) new n)
        (ClaimTells (step slots (r + 1) 1 new none) me)
    at_word rows slots id r me v is free inside = let new : ℕ = word_of (held v.number) in
        subst (λ (m : SeatState).
        Allows (Ruled rows) slots id m (r + 1) (λ n. either (eqb n 1) new n)
        (ClaimTells (step slots (r + 1) 1 new none) m)) (sym is)
        (λ s rule _ at _.
        let t = builder_sees rows s rule id v r at inside in
        let n : ℕ = get_or s.words (r + 1) 0 in
        dite (ℕ_discrete n 1)
        (λ (won : n ≡ 1).
        let here : get_elem? rule.phases r ≡ some opened =
        t.here ∙ ap some (words_apart t.phase opened (sym t.word ∙ won)) in
        let v' : BuilderView = with_claim r v in (
          Builder v',
          keeps,
          tt,
          ruled_row rows s rule r (either (eqb n 1) new n) id id (held id) (Builder v') refl
              (either_hit n 1 new won ∙ ap (λ i. word_of (held i)) t.number)
              (steps.claim_won r id v at free here refl),
          (λ q e. let same : r ≡ q = omega arith in
              ((λ _. ap (λ i. at_builder (with_claim i v)) same), (λ lost. absurd (lost won)))),
        ))
        (λ (lost : n ≢ 1).
        let v' : BuilderView = builder_tried (ClaimLost r) v in (
          Builder v',
          keeps,
          tt,
          ruled_missed rows s (r + 1) n 1 new id (Builder v') lost
              (ruled_view rows s rule (r + 1) id id (Builder v') refl
              (steps.claim_lost r id t.phase v at free t.here
              (λ (e : t.phase ≡ opened). lost (t.word ∙ ap word_of e)) refl)),
          (λ q e. let same : r ≡ q = omega arith in (
            (λ won. absurd (lost won)),
            (λ _. ap (λ i. at_builder (builder_tried (ClaimLost i) v)) same),
          )),
        )))

-- a finish
pub finish_allowed : (rows slots id r : ℕ) (c : OutcomeCode) (old new : ℕ) (me : SeatState)
    (v : BuilderView) → old ≡ word_of (noted v.number) → new ≡ word_of (done v.number c)
    → me ≡ at_builder v → v.hand ≡ Holding r → r < rows
    → Allows (Ruled rows) slots id me (r + 1) (λ n. either (eqb n old) new n)
    (FinishTells (step slots (r + 1) old new none) me)
finish_allowed rows slots id r c old new me v word word' is holds inside =
    subst (λ (k : ℕ × ℕ). Allows (Ruled rows) slots id me (r + 1) (λ n. either (eqb n k.0) k.1 n)
    (FinishTells (step slots (r + 1) k.0 k.1 none) me)) (λ i. (sym word i, sym word' i))
    (at_words rows slots id r c me v is holds inside)
  where
    at_words : (rows slots id r : ℕ) (c : OutcomeCode) (me : SeatState) (v : BuilderView)
        → me ≡ at_builder v → v.hand ≡ Holding r → r < rows
        → let old = word_of (noted v.number) in let new = word_of (done v.number c) in
        Allows (Ruled rows) slots id me (r + 1) (λ n. either (eqb n old) new n)
        (FinishTells (step slots (r + 1) old new none) me)
    at_words rows slots id r c me v is holds inside =
        let old : ℕ = word_of (noted v.number) in let new : ℕ = word_of (done v.number c) in
        subst (λ (m : SeatState).
        Allows (Ruled rows) slots id m (r + 1) (λ n. either (eqb n old) new n)
        (FinishTells (step slots (r + 1) old new none) m)) (sym is)
        (λ s rule _ at _.
        let t = builder_sees rows s rule id v r at inside in
        let n : ℕ = get_or s.words (r + 1) 0 in
        dite (ℕ_discrete n old)
        (λ (won : n ≡ old).
        let here : get_elem? rule.phases r ≡ some (noted id) =
        t.here ∙ ap some (words_apart t.phase (noted id)
        (sym t.word ∙ (won ∙ ap (λ i. word_of (noted i)) t.number))) in
        let v' : BuilderView = with_finish r c v in (
          Builder v',
          keeps,
          tt,
          ruled_row rows s rule r (either (eqb n old) new n) id id (done id c) (Builder v') refl
              (either_hit n old new won ∙ ap (λ i. word_of (done i c)) t.number)
              (steps.finish_done r id c v at holds here refl),
          (λ q k e e'. let one : r ≡ q = omega arith in
              let two = (same_finish v.number v.number c k e').1 in
              ((λ _ i. at_builder (with_finish (one i) (two i) v)), (λ lost. absurd (lost won)))),
        ))
        (λ (lost : n ≢ old).
        let v' : BuilderView = builder_tried (FinishEarly r c) v in (
          Builder v',
          keeps,
          tt,
          ruled_missed rows s (r + 1) n old new id (Builder v') lost
              (ruled_view rows s rule (r + 1) id id (Builder v') refl
              (steps.finish_early r id c t.phase v at holds t.here
              (λ (e : t.phase ≡ noted id). lost
              (t.word ∙ (ap word_of e ∙ ap (λ i. word_of (noted i)) (sym t.number)))) refl)),
          (λ q k e e'. let one : r ≡ q = omega arith in
              let two = (same_finish v.number v.number c k e').1 in (
                (λ won. absurd (lost won)),
                (λ _ i. at_builder (builder_tried (FinishEarly (one i) (two i)) v)),
              )),
        )))

-- one hand has one outcome
one_outcome : (h : Hand) (r q : ℕ) (c k : OutcomeCode) → h ≡ Finished r c → h ≡ Finished q k → c ≡ k
one_outcome h r q c k e e' = ap outcome_of (sym e ∙ e')

-- a release
pub release_allowed : (rows slots id r : ℕ) (c : OutcomeCode) (me : SeatState) (v : BuilderView)
    → me ≡ at_builder v → v.hand ≡ Finished r c → r < rows
    → Allows (Ruled rows) slots id me (r + 1) (λ n. n)
    (ReleaseTells (step slots (r + 1) 0 0 none) me)
release_allowed rows slots id r c me v is ended inside =
    subst (λ (m : SeatState).
    Allows (Ruled rows) slots id m (r + 1) (λ n. n) (ReleaseTells (step slots (r + 1) 0 0 none) m))
    (sym is)
    (λ s rule _ at _.
    let t = builder_sees rows s rule id v r at inside in
    let n : ℕ = get_or s.words (r + 1) 0 in
    let old : ℕ = word_of (done v.number c) in
    let same_word : word_of (done id c) ≡ old = ap (λ i. word_of (done i c)) (sym t.number) in
    dite (ℕ_discrete n old)
    (λ (early : n ≡ old).
    let here : get_elem? rule.phases r ≡ some (done id c) =
    t.here ∙ ap some
    (words_apart t.phase (done id c) (sym t.word ∙ (early ∙ sym same_word))) in
    let v' : BuilderView = builder_tried (ReleaseEarly r) v in (
      Builder v',
      keeps,
      tt,
      ruled_view rows s rule (r + 1) id id (Builder v') refl
          (steps.release_early r id c v at ended here refl),
      (λ q k e e'. let one : r ≡ q = omega arith in (
        (λ _. ap (λ i. at_builder (builder_tried (ReleaseEarly i) v)) one),
        (λ late. absurd (late
            (early ∙ ap (λ i. word_of (done v.number i)) (one_outcome v.hand r q c k ended e')))),
      )),
    ))
    (λ (late : n ≢ old).
    let v' : BuilderView = with_free_hand v in (
      Builder v',
      keeps,
      tt,
      ruled_view rows s rule (r + 1) id id (Builder v') refl
          (steps.release_done r id c t.phase v at ended t.here
          (λ (e : t.phase ≡ done id c). late (t.word ∙ (ap word_of e ∙ same_word))) refl),
      (λ q k e e'. (
        (λ early.
            absurd (late (early ∙ ap (λ i. word_of (done v.number i))
            (sym (one_outcome v.hand r q c k ended e'))))),
        (λ _. refl),
      )),
    )))
