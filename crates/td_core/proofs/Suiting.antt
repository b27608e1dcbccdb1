-- How the state that a command leaves, or its undo, goes with the row's phase.
use Rattle.std.proofs.Common.{◌≡◌, ℕ, Bool, true, false, ◌&&◌, List, [], ◌∷◌, if◌then◌else◌, ap}
use Rattle.std.proofs.Common.{refl, sym, subst, ◌∙◌}
use Rattle.td_rows.specs.declared.key.Key.{Key}
use Rattle.td_rows.specs.declared.row.Row.{Row}
use Rattle.td_rows.specs.declared.state.State.{State}
use Rattle.td_rows.specs.declared.state.State.TheVariants.{NeedsBuild, Building, Built, Uploaded}
use Rattle.td_rows.specs.declared.state.State.TheVariants.{Installed, DepWait, BdUninstallable}
use Rattle.td_rows.specs.declared.state.State.TheVariants.{BuildAttempted, Failed, NotForUs}
use Rattle.td_rows.specs.declared.kind.Kind.{Kind}
use Rattle.td_rows.specs.declared.kind.Kind.TheVariants.{Gb, Nmu, Bp, Dw, Claim, Outcome as Ended}
use Rattle.td_rows.specs.declared.kind.Kind.TheVariants.{Arrive, Sweep}
use Rattle.td_rows.specs.declared.outcome.Outcome.TheVariants.{Built as WasBuilt, Attempted}
use Rattle.td_rows.specs.declared.outcome.Outcome.TheVariants.{GivenBack, Waits}
use Rattle.td_rows.specs.Cells.{restore}
use Rattle.td_rows.specs.Keys.{names}
use Rattle.td_rows.specs.Kinds.{cells, written}
use Rattle.td_rows.specs.Meaning.{applies, means}
use Rattle.td_rows.specs.Table.{meant}
use Rattle.td_journal.specs.declared.entry.Entry.{Entry}
use Rattle.td_journal.specs.Commands.{is_command}
use Rattle.td_journal.specs.Replay.{row_after}
use Rattle.td_journal.proofs.Commuting.{Apart}
use Rattle.td_core.specs.declared.step.Phase.{Phase}
use Rattle.td_core.specs.declared.step.Phase.TheVariants.{Closed, Open, Held, Noted, Done}
use Rattle.td_core.specs.Phases.{is_pinned, Suits}
use Rattle.td_rows.specs.States.{is_building}

-- a command with the state cell applies to no row that is built
pub idle-applies : (kind : Kind) (row : Row) → is_command kind ≡ true → (cells kind).state ≡ true
    → applies kind row ≡ true → is_building row.state ≡ false
idle-applies kind row command state h =
    elim row.state as (λ s. row.state ≡ s → is_building s ≡ false) [
      | Building b ↦
          λ is. absurd (unfit kind b command state
          (ap (λ (s : State). applies kind (record row { state = s })) (sym is) ∙ h))
      | NeedsBuild ↦ λ _. refl
      | Built ↦ λ _. refl
      | Uploaded ↦ λ _. refl
      | Installed ↦ λ _. refl
      | DepWait ↦ λ _. refl
      | BdUninstallable ↦ λ _. refl
      | BuildAttempted ↦ λ _. refl
      | Failed ↦ λ _. refl
      | NotForUs ↦ λ _. refl
    ] refl
  where
    unfit : (kind : Kind) (b : ℕ) → is_command kind ≡ true → (cells kind).state ≡ true
        → applies kind (record row { state = Building b }) ≡ true → ⊥
    unfit Gb b c s g = cc
    unfit (Nmu n e m) b c s g = cc
    unfit (Bp p) b c s g = cc
    unfit (Dw t) b c s g = cc
    unfit (Claim a) b c s g = cc
    unfit (Ended a o) b c s g = cc
    unfit Arrive b c s g = cc
    unfit Sweep b c s g = cc

-- nor does it leave one that is
pub idle-means : (kind : Kind) (row : Row) → is_command kind ≡ true → (cells kind).state ≡ true
    → is_building (means kind row).state ≡ false
idle-means Gb row c s = refl
idle-means (Nmu n e m) row c s = refl
idle-means (Bp p) row c s = cc
idle-means (Dw t) row c s = refl
idle-means (Claim a) row c s = cc
idle-means (Ended a o) row c s = cc
idle-means Arrive row c s = cc
idle-means Sweep row c s = cc

-- a pinned phase that suits a row which isn't built suits each such row
pub suits-idle : (p : Phase) (s s' : State) → is_pinned p ≡ true → Suits p s → is_building s ≡ false
    → is_building s' ≡ false → Suits p s'
suits-idle Closed s s' pinned suits was idle = idle
suits-idle Open s s' pinned suits was idle = cc
suits-idle (Held b) s s' pinned suits was idle = cc
suits-idle (Noted b) s s' pinned suits was idle =
    absurd (let bad : true ≡ false = ap is_building (sym suits) ∙ was in cc)
suits-idle (Done b o) s s' pinned suits was idle =
    absurd (let bad : true ≡ false = ap is_building (sym suits) ∙ was in cc)

-- a kind without the state cell leaves the state
pub state-means : (kind : Kind) (row : Row) → (cells kind).state ≡ false
    → (means kind row).state ≡ row.state
state-means Gb row h = cc
state-means (Nmu n e m) row h = cc
state-means (Bp p) row h = refl
state-means (Dw t) row h = cc
state-means (Claim a) row h = cc
state-means (Ended a WasBuilt) row h = cc
state-means (Ended a Attempted) row h = cc
state-means (Ended a GivenBack) row h = cc
state-means (Ended a (Waits t)) row h = cc
state-means Arrive row h = cc
state-means Sweep row h = cc

-- a command on a row whose phase suits it, and is pinned if the kind has the state cell
pub suits-command : (kind : Kind) (p : Phase) (row : Row) → is_command kind ≡ true
    → applies kind row ≡ true → ((cells kind).state ≡ true → is_pinned p ≡ true) → Suits p row.state
    → Suits p (means kind row).state
suits-command kind p row command fits pinned suits =
    elim (cells kind).state as (λ b. (cells kind).state ≡ b → Suits p (means kind row).state) [
      | true ↦
          λ is. suits-idle p row.state (means kind row).state (pinned is) suits
          (idle-applies kind row command is fits) (idle-means kind row command is)
      | false ↦ λ is. subst (λ (s : State). Suits p s) (sym (state-means kind row is)) suits
    ] refl

-- entries that are apart from a kind with the state cell leave the state of the rows that it names
pub state-row_after : (kind : Kind) (keys : List Key) (es : List Entry) (k : Key) (row : Row)
    → Apart kind keys es → names keys k ≡ true → (cells kind).state ≡ true
    → (row_after es k row).state ≡ row.state
state-row_after kind keys [] k row apart named state = refl
state-row_after kind keys (e ∷ es) k row apart named state =
    state-row_after kind keys es k (meant e.kind e.keys k row) apart.1 named state
    ∙ elim (names e.keys k) as (λ b.
    names e.keys k ≡ b → (if b then means e.kind row else row).state ≡ row.state) [
      | true ↦
          λ here. state-means e.kind row
          (left (cells e.kind).state (cells kind).state (apart.0 k named here).state state)
      | false ↦ λ _. refl
    ] refl
  where
    left : (a b : Bool) → (a && b) ≡ false → b ≡ true → a ≡ false
    left true true h is = h
    left true false h is = cc
    left false b h is = refl

-- a command writes the state if it has the cell
pub written-state : (kind : Kind) → is_command kind ≡ true
    → (written kind).state ≡ (cells kind).state
written-state Gb h = refl
written-state (Nmu n e m) h = refl
written-state (Bp p) h = refl
written-state (Dw t) h = refl
written-state (Claim a) h = cc
written-state (Ended a o) h = cc
written-state Arrive h = cc
written-state Sweep h = cc

-- an undone command's row: as it was before the entry, where nothing changed its state since
pub suits-undone : (kind : Kind) (p : Phase) (was now : Row) → is_command kind ≡ true
    → applies kind was ≡ true → ((cells kind).state ≡ true → now.state ≡ (means kind was).state)
    → ((cells kind).state ≡ true → is_pinned p ≡ true) → Suits p now.state
    → Suits p (restore (written kind) was now).state
suits-undone kind p was now command fits left pinned suits =
    elim (cells kind).state as (λ b.
    (cells kind).state ≡ b → Suits p (restore (written kind) was now).state) [
      | true ↦ λ is.
          let back : (restore (written kind) was now).state ≡ was.state =
          ap (λ b. if b then was.state else now.state) (written-state kind command ∙ is) in
          subst (λ (s : State). Suits p s) (sym back)
          (suits-idle p now.state was.state (pinned is) suits
          (ap is_building (left is) ∙ idle-means kind was command is)
          (idle-applies kind was command is fits))
      | false ↦ λ is.
          let same : (restore (written kind) was now).state ≡ now.state =
          ap (λ b. if b then was.state else now.state) (written-state kind command ∙ is) in
          subst (λ (s : State). Suits p s) (sym same) suits
    ] refl
