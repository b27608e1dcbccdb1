-- Who has a row has it in hand, and so it stays.
use Rattle.std.proofs.Common.{◌≡◌, ℕ, zero, suc, ◌-◌, true, false, List, [], Option, Some}
use Rattle.std.proofs.Common.{None, if◌then◌else◌, length, set, slice_get, ◌==◌, ap, refl, sym}
use Rattle.std.proofs.Common.{subst, ◌∙◌, arith}
use Rattle.std.proofs.lemmas.List.{length-set}
use Rattle.td_rows.specs.declared.key.Key.{Key}
use Rattle.td_rows.specs.declared.row.Row.{Row}
use Rattle.td_rows.specs.declared.outcome.Outcome.{Outcome}
use Rattle.td_rows.specs.Keys.{same_key}
use Rattle.td_rows.specs.Table.{row_of}
use Rattle.td_rows.proofs.Keys.{same_key-true, same_key-refl}
use Rattle.td_core.specs.declared.step.Phase.{Phase}
use Rattle.td_core.specs.declared.step.Phase.TheVariants.{Closed, Open, Held, Noted, Done}
use Rattle.td_core.specs.declared.step.Hand.{Hand}
use Rattle.td_core.specs.declared.step.Hand.TheVariants.{Free, Holding, Finished}
use Rattle.td_core.specs.History.{rows_of}
use Rattle.td_core.specs.Worlds.{WorldView, phase_of, with_phase, hand_in, InHand}
use Rattle.td_core.proofs.Phases.{phase_of-with_phase, phase_of-other, phase_of-past}
use Rattle.td_core.proofs.Phases.{slice_get-set-here, slice_get-set-other}

-- ---- one hand changes

no_hand : (hands : List Hand) (x : Hand) → hand_in hands 0 ≡ Some x → ⊥
no_hand hands x h = cc

-- the hand that is put
pub hand_in-put : (hands : List Hand) (b : ℕ) (x y : Hand) → hand_in hands b ≡ Some x
    → hand_in (set hands (b - 1) y) b ≡ Some y
hand_in-put hands b x y h =
    elim (b == 0) as (λ z.
    (if z then None else slice_get hands (b - 1)) ≡ Some x
    → (if z then None else slice_get (set hands (b - 1) y) (b - 1)) ≡ Some y) [
      | true ↦ λ g. cc
      | false ↦ λ g. slice_get-set-here hands (b - 1) x y g
    ] h

-- another builder's
hand_in-other : (hands : List Hand) (b c : ℕ) (x y z : Hand) → hand_in hands b ≡ Some x
    → hand_in hands c ≡ Some z → (b ≡ c → ⊥) → hand_in (set hands (b - 1) y) c ≡ Some z
hand_in-other hands zero c x y z hb hc apart = absurd (no_hand hands x hb)
hand_in-other hands (suc b) zero x y z hb hc apart = absurd (no_hand hands z hc)
hand_in-other hands (suc b) (suc c) x y z hb hc apart =
    let far : (suc b - 1 ≡ suc c - 1) → ⊥ = λ e. apart (omega (arith, e)) in
    elim (suc c == 0) as (λ v.
    (if v then None else slice_get hands (suc c - 1)) ≡ Some z
    → (if v then None else slice_get (set hands (suc b - 1) y) (suc c - 1)) ≡ Some z) [
      | true ↦ λ g. cc
      | false ↦ λ g. slice_get-set-other hands (suc b - 1) (suc c - 1) y far ∙ g
    ] hc

-- the builder has another thing in hand than what it keeps
keeps : (hands : List Hand) (b c : ℕ) (x y z : Hand) → hand_in hands b ≡ Some x
    → hand_in hands c ≡ Some z → (b ≡ c → x ≡ z → ⊥) → hand_in (set hands (b - 1) y) c ≡ Some z
keeps hands b c x y z hb hc apart = hand_in-other hands b c x y z hb hc (λ e.
    let both : Some x ≡ Some z = sym hb ∙ ap (hand_in hands) e ∙ hc in
    let same : x ≡ z = cc in
    apart e same)

-- what a builder has in hand isn't the row of the key: not held, and not its ended build
pub record NotHis (b : ℕ) (x : Hand) (k : Key) (p : Phase) : Type 0 where
  pub held : x ≡ Holding k → ⊥
  pub ended : (o : Outcome) → p ≡ Done b o → x ≡ Finished k o → ⊥

-- then the row stays in hand as it was
pub InHand-put : (hands : List Hand) (b : ℕ) (x y : Hand) (k : Key) (p : Phase) → hand_in hands b
    ≡ Some x → NotHis b x k p → InHand hands k p → InHand (set hands (b - 1) y) k p
InHand-put hands b x y k Closed hand other h = tt
InHand-put hands b x y k Open hand other h = tt
InHand-put hands b x y k (Held c) hand other h =
    keeps hands b c x y (Holding k) hand h (λ _ e. other.held e)
InHand-put hands b x y k (Noted c) hand other h =
    keeps hands b c x y (Holding k) hand h (λ _ e. other.held e)
InHand-put hands b x y k (Done c o) hand other h =
    keeps hands b c x y (Finished k o) hand h (λ same e.
    other.ended o (ap (λ (n : ℕ). Done n o) (sym same)) e)

-- ---- one phase changes

abbrev pub AllInHand : WorldView → List Hand → Type 0
AllInHand w hands = (k : Key) (p : Phase) → phase_of w k ≡ Some p → InHand hands k p

-- a row with a phase is there
pub row-in : (w : WorldView) (k : Key) (p : Phase) → length w.phases ≡ length w.history.opening
    → phase_of w k ≡ Some p → (row : Row) × (row_of (rows_of w.history) k ≡ Some row)
row-in w k p sized phase = at (row_of (rows_of w.history) k) refl
  where
    at : (o : Option Row) → row_of (rows_of w.history) k ≡ o
        → (row : Row) × (row_of (rows_of w.history) k ≡ Some row)
    at (Some row) is = (row, is)
    at None is = absurd (let none = sym phase ∙ phase_of-past w k sized is in cc)

-- another key's phase is as it was
pub InHand-moved : (w : WorldView) (k : Key) (p : Phase) (hands : List Hand)
    → length w.phases ≡ length w.history.opening → InHand hands k p
    → ((q : Key) (x : Phase) → same_key q k ≡ false → phase_of w q ≡ Some x → InHand hands q x)
    → AllInHand (with_phase w k p) hands
InHand-moved w k p hands sized here others q x phase =
    let row = row-in (with_phase w k p) q x (length-set w.phases _ p ∙ sized) phase in
    elim (same_key q k) as (λ b. same_key q k ≡ b → InHand hands q x) [
      | true ↦ λ is.
          let same : q ≡ k = same_key-true q k is in
          let given : p ≡ x = phase_of-with_phase w k p x
          (subst (λ (y : Key). phase_of (with_phase w k p) y ≡ Some x) same phase) in
          subst (λ (y : Key). InHand hands y x) (sym same)
          (subst (λ (y : Phase). InHand hands k y) given here)
      | false ↦ λ is. others q x is (sym (phase_of-other w k q p row.0 row.1 is) ∙ phase)
    ] refl

-- keys that differ aren't one
apart_keys : (q k : Key) → same_key q k ≡ false → k ≡ q → ⊥
apart_keys q k is same =
    (let yes : same_key q k ≡ true = ap (same_key q) same ∙ same_key-refl q in cc)

-- a free hand, and one that holds another row
pub free-not_his : (b : ℕ) (k : Key) (p : Phase) → NotHis b Free k p
free-not_his b k p = record { held = λ e. cc; ended = λ o _ e. cc }

pub holding-not_his : (b : ℕ) (k q : Key) (p : Phase) → same_key q k ≡ false
    → NotHis b (Holding k) q p
holding-not_his b k q p is =
    record { held = λ e. apart_keys q k is (let same : k ≡ q = cc in same); ended = λ o _ e. cc }
