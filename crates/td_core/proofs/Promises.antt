-- What holds over every list of steps.
use Rattle.std.proofs.Common.{◌≡◌, ◌↔◌, ℕ, ◌+◌, ◌-◌, ◌≤◌, subst, true, false}
use Rattle.std.proofs.Common.{List, [], ◌∷◌, length, Option, Some, None}
use Rattle.std.proofs.Common.{ap, refl, sym, ◌∙◌, arith}
use Rattle.std.proofs.lemmas.Bool.{eq-eqb, eqb-true}
use Rattle.td_text.proofs.Chain.{some_is}
use Rattle.td_rows.specs.declared.key.Key.{Key}
use Rattle.td_rows.specs.declared.state.State.{State}
use Rattle.td_rows.specs.declared.state.State.TheVariants.{NeedsBuild, Building}
use Rattle.td_journal.specs.declared.entry.Entry.{Entry}
use Rattle.td_journal.specs.declared.entry.Mark.TheVariants.{Standing}
use Rattle.td_journal.specs.Entries.{standing_entry}
use Rattle.td_journal.specs.Replay.{replay}
use Rattle.td_journal.specs.Touching.{blocker}
use Rattle.td_journal.proofs.Agreeing.{EachHasKeys-at}
use Rattle.td_journal.proofs.LastEntry.{entry_at-last, blocker-last, standing-last}
use Rattle.td_journal.proofs.Undoing.{entry_at-place}
use Rattle.td_core.specs.declared.step.Phase.{Phase}
use Rattle.td_core.specs.declared.step.Phase.TheVariants.{Closed, Open, Held, Noted, Done}
use Rattle.td_core.specs.declared.step.Hand.{Hand}
use Rattle.td_core.specs.declared.step.Hand.TheVariants.{Holding, Finished}
use Rattle.td_core.specs.declared.step.Step.{Step}
use Rattle.td_core.specs.declared.step.Step.TheVariants.{Commit, Undo}
use Rattle.td_core.specs.declared.step.Refusal.{Refusal}
use Rattle.td_core.specs.declared.step.Refusal.TheVariants.{Blocked, NotPinned}
use Rattle.td_core.specs.declared.step.Answer.{Answer}
use Rattle.td_core.specs.declared.step.Answer.TheVariants.{Undone, Refused}
use Rattle.td_core.specs.History.{rows_of}
use Rattle.td_core.specs.Phases.{is_pinned, Suits}
use Rattle.td_rows.specs.States.{is_building}
use Rattle.td_core.specs.Worlds.{WorldView, hand_of, journaled, world_of, InHand, IsWorld}
use Rattle.td_core.specs.Refusals.{first_refused, first_unpinned, mark_refusal, undo_refusal}
use Rattle.td_core.specs.Steps.{answer_to, after, after_all}
use Rattle.td_core.specs.Promises.{EveryWorld, OfferedRowsWait, is_known_by, BuiltExactly}
use Rattle.td_core.specs.Promises.{HandsFollow, builder_in, BuildersAreThere, EntriesRise}
use Rattle.td_core.specs.Promises.{UndoneAtOnce, BlockedExactly, UndoneElse}
use Rattle.td_core.proofs.Phases.{hand_of-within}
use Rattle.td_core.proofs.Refusing.{undo_refusal-standing, undo_refusal-none, commits}
use Rattle.td_core.proofs.WorldSteps.{IsWorld-open, IsWorld-after, answer_to-refused}
use Rattle.td_core.proofs.WorldSteps.{answer_to-accepted, after-accepted}

IsWorld-after_all : (w : WorldView) (steps : List Step) → IsWorld w → IsWorld (after_all w steps)
IsWorld-after_all w [] i = i
IsWorld-after_all w (s ∷ steps) i = IsWorld-after_all (after w s) steps (IsWorld-after w s i)

pub every_world : EveryWorld
every_world t s builders steps rising idle =
    IsWorld-after_all (world_of t s builders) steps (IsWorld-open t s builders rising idle)

waits : (p : Phase) (s : State) → Suits p s → is_pinned p ≡ false → s ≡ NeedsBuild
waits Closed s suits loose = cc
waits Open s suits loose = suits
waits (Held b) s suits loose = suits
waits (Noted b) s suits loose = cc
waits (Done b o) s suits loose = cc

pub offered_rows_wait : OfferedRowsWait
offered_rows_wait w k p row i phase found loose =
    waits p row.state (i.suits k p row phase found) loose

built : (p : Phase) (s : State) (b : ℕ) → Suits p s → (s ≡ Building b) ↔ (is_known_by b p ≡ true)
built Closed s b suits =
    ((λ is. absurd (let bad : true ≡ false = ap is_building (sym is) ∙ suits in cc)), (λ h. cc))
built Open s b suits = ((λ is. absurd (let bad = sym suits ∙ is in cc)), (λ h. cc))
built (Held c) s b suits = ((λ is. absurd (let bad = sym suits ∙ is in cc)), (λ h. cc))
built (Noted c) s b suits = (
  (λ is. eq-eqb b c (let e = sym suits ∙ is in cc)),
  (λ h. suits ∙ ap (λ (x : ℕ). Building x) (sym (eqb-true b c h))),
)
built (Done c o) s b suits = (
  (λ is. eq-eqb b c (let e = sym suits ∙ is in cc)),
  (λ h. suits ∙ ap (λ (x : ℕ). Building x) (sym (eqb-true b c h))),
)

pub built_exactly : BuiltExactly
built_exactly w k p row b i phase found = built p row.state b (i.suits k p row phase found)

pub hands_follow : HandsFollow
hands_follow w k p i phase = i.held k p phase

there : (w : WorldView) (b : ℕ) (h : Hand) → hand_of w b ≡ Some h → (1 ≤ b) × (b ≤ length w.hands)
there w b h is =
    let within = hand_of-within w b h is in
    (omega (arith, within.0), omega (arith, within.0, within.1))

pub builders_are_there : BuildersAreThere
builders_are_there w k p b i phase is = at p is (i.held k p phase)
  where
    at : (x : Phase) → builder_in x ≡ Some b → InHand w.hands k x → (1 ≤ b) × (b ≤ length w.hands)
    at Closed e h = cc
    at Open e h = cc
    at (Held c) e h =
        subst (λ (n : ℕ). (1 ≤ n) × (n ≤ length w.hands)) (some_is c b e) (there w c (Holding k) h)
    at (Noted c) e h =
        subst (λ (n : ℕ). (1 ≤ n) × (n ≤ length w.hands)) (some_is c b e) (there w c (Holding k) h)
    at (Done c o) e h =
        subst (λ (n : ℕ). (1 ≤ n) × (n ≤ length w.hands)) (some_is c b e)
        (there w c (Finished k o) h)

pub entries_rise : EntriesRise
entries_rise w n m i at =
    EachHasKeys-at w.history.journal (n - 1) m i.keys (entry_at-place w.history.journal n m at).1

pub undone_else : UndoneElse
undone_else w n m s free pinned =
    answer_to-accepted w (Undo n)
    (undo_refusal-none w n m s.there s.command s.stands free pinned)

pub blocked_exactly : BlockedExactly
blocked_exactly w n m b s = (
  (λ told. back (blocker w.history.journal n) refl told),
  (λ is. answer_to-refused w (Undo n) (Blocked b) (refused (Some b) is)),
)
  where
    refused : (o : Option ℕ) → blocker w.history.journal n ≡ o
        → undo_refusal w n ≡ mark_refusal w m Standing o
    refused o is = undo_refusal-standing w n m o s.there s.command s.stands is

    loose : (o : Option Key) (a : Answer) → (elim (first_refused o (λ k. NotPinned None) None) as
        (λ _. Answer) [ Some r ↦ Refused r | None ↦ Undone n ]) ≡ Refused (Blocked b) → ⊥
    loose None a h = cc
    loose (Some k) a h = cc

    back : (o : Option ℕ) → blocker w.history.journal n ≡ o
        → answer_to w (Undo n) ≡ Refused (Blocked b) → blocker w.history.journal n ≡ Some b
    back (Some c) is told =
        let named = sym (answer_to-refused w (Undo n) (Blocked c) (refused (Some c) is)) ∙ told in
        let same : c ≡ b = cc in
        is ∙ ap (λ (x : ℕ). Some x) same
    back None is told =
        absurd (loose (first_unpinned w m.entry.kind m.entry.keys) (Undone n)
        (sym (ap (λ (r : Option Refusal).
        elim r as (λ _. Answer) [ Some x ↦ Refused x | None ↦ Undone n ])
        (refused None is)) ∙ told))

pub undone_at_once : UndoneAtOnce
undone_at_once w kind keys none =
    let n = length w.history.journal + 1 in
    let e : Entry = record { kind = kind; keys = keys } in
    let c = commits w kind keys none in
    let ms = w.history.journal in
    let next : after w (Commit kind keys) ≡ journaled w kind keys =
    after-accepted w (Commit kind keys) none in
    let fine : undo_refusal (journaled w kind keys) n ≡ None =
    undo_refusal-none (journaled w kind keys) n (standing_entry e)
    (entry_at-last ms (standing_entry e)) c.command refl (blocker-last ms (standing_entry e))
    c.none_unpinned in (
      ap (λ (v : WorldView). answer_to v (Undo n)) next
          ∙ answer_to-accepted (journaled w kind keys) (Undo n) fine,
      ap (λ (v : WorldView). rows_of (after v (Undo n)).history) next
          ∙ ap (λ (v : WorldView). rows_of v.history)
          (after-accepted (journaled w kind keys) (Undo n) fine)
          ∙ ap (replay w.history.opening) (standing-last ms (standing_entry e)),
    )
