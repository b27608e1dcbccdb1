-- What a step that isn't refused may rely on.
use Rattle.std.proofs.Common.{◌≡◌, ℕ, zero, suc, ◌<◌, Bool, true, false, not, List, [], ◌∷◌, Option}
use Rattle.std.proofs.Common.{Some, None, if◌then◌else◌, cond, find, is_some, length, slice_get, ap}
use Rattle.std.proofs.Common.{refl, sym, ◌∙◌, arith}
use Rattle.std.specs.Prelude.{nat_lt, position}
use Rattle.std.specs.List.{position_or_len}
use Rattle.std.proofs.lemmas.Bool.{not-false}
use Rattle.std.proofs.lemmas.Bool.Decides.{nat_tests}
use Rattle.std.proofs.lemmas.List.Folds.{find_at}
use Rattle.std.proofs.lemmas.Option.{slice_get_past}
use Rattle.td_rows.specs.declared.key.Key.{Key}
use Rattle.td_rows.specs.declared.kind.Kind.{Kind}
use Rattle.td_rows.specs.Keys.{same_key, names}
use Rattle.td_rows.specs.Kinds.{cells}
use Rattle.td_rows.specs.Table.{fits, AppliesOn}
use Rattle.td_rows.proofs.Keys.{same_key-true}
use Rattle.td_journal.specs.declared.entry.Mark.{Mark}
use Rattle.td_journal.specs.declared.entry.Mark.TheVariants.{Standing, Undone}
use Rattle.td_journal.specs.declared.entry.Marked.{Marked}
use Rattle.td_journal.specs.Entries.{is_command, is_standing, entry_at, CanBeUndone}
use Rattle.td_journal.specs.Touching.{blocker}
use Rattle.td_core.specs.declared.step.Phase.{Phase}
use Rattle.td_core.specs.declared.step.Refusal.{Refusal}
use Rattle.td_core.specs.declared.step.Refusal.TheVariants.{NoSuchEntry, NotPinned, DoesNotApply}
use Rattle.td_core.specs.declared.step.Refusal.TheVariants.{NoSuchRow, NoKeys, NotACommand}
use Rattle.td_core.specs.History.{rows_of}
use Rattle.td_core.specs.Phases.{is_pinned}
use Rattle.td_core.specs.Worlds.{WorldView, phase_of}
use Rattle.td_core.specs.Refusals.{refused_if, first_refused, first_unpinned, is_unpinned}
use Rattle.td_core.specs.Refusals.{is_missing, is_unfit, are_keys, commit_refusal, undo_refusal}
use Rattle.td_core.specs.Refusals.{mark_refusal}

pub not_refused : (b : Bool) (r : Refusal) (rest : Option Refusal) → refused_if b r rest ≡ None
    → (b ≡ false) × (rest ≡ None)
not_refused true r rest h = cc
not_refused false r rest h = (refl, h)

pub none_first : (o : Option Key) (r : Key → Refusal) (rest : Option Refusal)
    → first_refused o r rest ≡ None → (o ≡ None) × (rest ≡ None)
none_first (Some k) r rest h = cc
none_first None r rest h = (refl, h)

-- where no key passes, none that is named does
pub none_found : (p : Key → Bool) (ks : List Key) (k : Key) → find p ks ≡ None → names ks k ≡ true
    → p k ≡ false
none_found p [] k h named = cc
none_found p (q ∷ ks) k h named =
    let parts = not_first (p q) q (find p ks) h in
    elim (same_key k q) as (λ b.
    same_key k q ≡ b → (if b then true else names ks k) ≡ true → p k ≡ false) [
      | true ↦ λ e _. ap p (same_key-true k q e) ∙ parts.0
      | false ↦ λ _ n. none_found p ks k parts.1 n
    ] refl named
  where
    not_first : (b : Bool) (x : Key) (o : Option Key) → cond b (Some x) o ≡ None
        → (b ≡ false) × (o ≡ None)
    not_first true x o e = cc
    not_first false x o e = (refl, e)

-- the first that passes, by its place
pub find-position : {A : Type 0} (p : A → Bool) (xs : List A) (o : Option ℕ) → o ≡ position p xs
    → find p xs ≡ (elim o as (λ _. Option A) [ Some i ↦ slice_get xs i | None ↦ None ])
find-position {A} p xs o is =
    let n = position_or_len p xs in
    find_at p xs
    ∙ elim (nat_lt n (length xs)) as (λ b.
    nat_lt n (length xs) ≡ b
    → slice_get xs n ≡ (elim (if b then Some n else None) as (λ _. Option A) [
      | Some i ↦
          slice_get xs i
      | None ↦ None
    ])) [
      | true ↦ λ _. refl
      | false ↦ λ h. slice_get_past xs n (grind (arith, nat_tests, h))
    ] refl
    ∙ ap (λ (x : Option ℕ). elim x as (λ _. Option A) [ Some i ↦ slice_get xs i | None ↦ None ])
    (sym is)

-- whether a row must be pinned and isn't, by the place of its key
pub is_some-first_unpinned : (w : WorldView) (kind : Kind) (keys : List Key) (o : Option ℕ)
    → o ≡ (if (cells kind).state then position (is_unpinned w) keys else None)
    → is_some (first_unpinned w kind keys) ≡ is_some o
is_some-first_unpinned w kind keys o is =
    elim (cells kind).state as (λ b.
    o ≡ (if b then position (is_unpinned w) keys else None)
    → is_some (if b then find (is_unpinned w) keys else None) ≡ is_some o) [
      | true ↦ λ e. is_some-position (is_unpinned w) keys ∙ sym (ap is_some e)
      | false ↦ λ e. sym (ap is_some e)
    ] is
  where
    within : (xs : List Key) (i : ℕ) → i < length xs → is_some (slice_get xs i) ≡ true
    within [] i h = absurd (omega (arith, h))
    within (x ∷ xs) zero h = refl
    within (x ∷ xs) (suc i) h = within xs i (omega (arith, h))

    is_some-position : (p : Key → Bool) (xs : List Key)
        → is_some (find p xs) ≡ is_some (position p xs)
    is_some-position p xs =
        let n = position_or_len p xs in
        ap is_some (find_at p xs)
        ∙ elim (nat_lt n (length xs)) as (λ b.
        nat_lt n (length xs) ≡ b
        → is_some (slice_get xs n) ≡ is_some (if b then Some n else None)) [
          | true ↦ λ h. within xs n (grind (arith, nat_tests, h))
          | false ↦ λ h. ap is_some (slice_get_past xs n (grind (arith, nat_tests, h)))
        ] refl

-- the refusal of a standing command's undo, by its blocker
pub undo_refusal-standing : (w : WorldView) (n : ℕ) (m : Marked) (b : Option ℕ)
    → entry_at w.history.journal n ≡ Some m → is_command m.entry.kind ≡ true → m.mark ≡ Standing
    → blocker w.history.journal n ≡ b → undo_refusal w n ≡ mark_refusal w m Standing b
undo_refusal-standing w n m b there command stands is =
    ap (λ (x : Option Marked).
    elim x as (λ _. Option Refusal) [
      | Some y ↦
          refused_if (not (is_command y.entry.kind)) NotACommand
          (mark_refusal w y y.mark (blocker w.history.journal n))
      | None ↦ Some NoSuchEntry
    ]) there
    ∙ (λ j. refused_if (not (command j)) NotACommand (mark_refusal w m (stands j) (is j)))

-- none, without a blocker and with the rows pinned of which it has the state
pub undo_refusal-none : (w : WorldView) (n : ℕ) (m : Marked)
    → entry_at w.history.journal n ≡ Some m → is_command m.entry.kind ≡ true → m.mark ≡ Standing
    → blocker w.history.journal n ≡ None → first_unpinned w m.entry.kind m.entry.keys ≡ None
    → undo_refusal w n ≡ None
undo_refusal-none w n m there command stands free pinned =
    undo_refusal-standing w n m None there command stands free
    ∙ ap (λ (o : Option Key). first_refused o (λ k. NotPinned None) None) pinned

-- the refusal of an undo whose entry stands without a blocker
pub undo_refusal-free : (w : WorldView) (n : ℕ) (m : Marked) (o : Option ℕ)
    → entry_at w.history.journal n ≡ Some m → is_command m.entry.kind ≡ true
    → is_standing m.mark ≡ true → blocker w.history.journal n ≡ None
    → o ≡ (if (cells m.entry.kind).state then position (is_unpinned w) m.entry.keys else None)
    → undo_refusal w n ≡ (if is_some o then Some (NotPinned None) else None)
undo_refusal-free w n m o there command stands free is =
    undo_refusal-standing w n m None there command (mark_is m.mark stands) free
    ∙ loose (first_unpinned w m.entry.kind m.entry.keys)
    (is_some-first_unpinned w m.entry.kind m.entry.keys o is)
  where
    mark_is : (mark : Mark) → is_standing mark ≡ true → mark ≡ Standing
    mark_is Standing h = refl
    mark_is Undone h = cc

    loose : (f : Option Key) → is_some f ≡ is_some o → first_refused f (λ k. NotPinned None) None
        ≡ (if is_some o then Some (NotPinned None) else None)
    loose None h = ap (λ b. if b then Some (NotPinned None) else None) h
    loose (Some k) h = ap (λ b. if b then Some (NotPinned None) else None) h

-- the rows of the keys are pinned, where the kind has the state cell
abbrev pub Pinned : WorldView → Kind → List Key → Type 0
Pinned w kind keys =
    (k : Key) (p : Phase) → names keys k ≡ true → phase_of w k ≡ Some p → (cells kind).state ≡ true
    → is_pinned p ≡ true

pub pinned-first_unpinned : (w : WorldView) (kind : Kind) (keys : List Key)
    → first_unpinned w kind keys ≡ None → Pinned w kind keys
pinned-first_unpinned w kind keys none k p named phase state =
    let found : find (is_unpinned w) keys ≡ None =
    ap (λ b. if b then find (is_unpinned w) keys else None) (sym state) ∙ none in
    not-false (is_pinned p)
    (ap (λ (o : Option Phase). elim o as (λ _. Bool) [ Some x ↦ not (is_pinned x) | None ↦ false ])
    (sym phase) ∙ none_found (is_unpinned w) keys k found named)

-- a commit by its tests, each with the place of the first key that fails it
module _ (w : WorldView) (kind : Kind) (keys : List Key) (command : is_command kind ≡ true)
    (are : are_keys keys ≡ true) where
  told : commit_refusal w kind keys
      ≡ first_refused (find (is_missing (rows_of w.history)) keys) (λ k. NoSuchRow (Some k))
      (first_refused (find (is_unfit (rows_of w.history) kind) keys) (λ k. DoesNotApply k)
      (first_refused (first_unpinned w kind keys) (λ k. NotPinned (Some k)) None))
  told =
      λ j. refused_if (not (command j)) NotACommand
      (refused_if (not (are j)) NoKeys
      (first_refused (find (is_missing (rows_of w.history)) keys) (λ k. NoSuchRow (Some k))
      (first_refused (find (is_unfit (rows_of w.history) kind) keys) (λ k. DoesNotApply k)
      (first_refused (first_unpinned w kind keys) (λ k. NotPinned (Some k)) None))))

  pub commit_refusal-missing : (at : ℕ) (k : Key)
      → Some at ≡ position (is_missing (rows_of w.history)) keys → slice_get keys at ≡ Some k
      → commit_refusal w kind keys ≡ Some (NoSuchRow (Some k))
  commit_refusal-missing at k is key =
      told ∙ ap (λ (o : Option Key).
      first_refused o (λ q. NoSuchRow (Some q))
      (first_refused (find (is_unfit (rows_of w.history) kind) keys) (λ q. DoesNotApply q)
      (first_refused (first_unpinned w kind keys) (λ q. NotPinned (Some q)) None)))
      (find-position (is_missing (rows_of w.history)) keys (Some at) is ∙ key)

  module _ (there : None ≡ position (is_missing (rows_of w.history)) keys) where
    told-there : commit_refusal w kind keys
        ≡ first_refused (find (is_unfit (rows_of w.history) kind) keys) (λ k. DoesNotApply k)
        (first_refused (first_unpinned w kind keys) (λ k. NotPinned (Some k)) None)
    told-there =
        told ∙ ap (λ (o : Option Key).
        first_refused o (λ q. NoSuchRow (Some q))
        (first_refused (find (is_unfit (rows_of w.history) kind) keys) (λ q. DoesNotApply q)
        (first_refused (first_unpinned w kind keys) (λ q. NotPinned (Some q)) None)))
        (find-position (is_missing (rows_of w.history)) keys None there)

    pub commit_refusal-unfit : (at : ℕ) (k : Key)
        → Some at ≡ position (is_unfit (rows_of w.history) kind) keys → slice_get keys at ≡ Some k
        → commit_refusal w kind keys ≡ Some (DoesNotApply k)
    commit_refusal-unfit at k is key =
        told-there ∙ ap (λ (o : Option Key).
        first_refused o (λ q. DoesNotApply q)
        (first_refused (first_unpinned w kind keys) (λ q. NotPinned (Some q)) None))
        (find-position (is_unfit (rows_of w.history) kind) keys (Some at) is ∙ key)

    module _ (fit : None ≡ position (is_unfit (rows_of w.history) kind) keys) where
      pub commit_refusal-fit : commit_refusal w kind keys
          ≡ first_refused (first_unpinned w kind keys) (λ k. NotPinned (Some k)) None
      commit_refusal-fit =
          told-there ∙ ap (λ (o : Option Key).
          first_refused o (λ q. DoesNotApply q)
          (first_refused (first_unpinned w kind keys) (λ q. NotPinned (Some q)) None))
          (find-position (is_unfit (rows_of w.history) kind) keys None fit)

      pub commit_refusal-unpinned : (at : ℕ) (k : Key)
          → Some at ≡ (if (cells kind).state then position (is_unpinned w) keys else None)
          → slice_get keys at ≡ Some k → commit_refusal w kind keys ≡ Some (NotPinned (Some k))
      commit_refusal-unpinned at k is key =
          commit_refusal-fit ∙ elim (cells kind).state as (λ b.
          Some at ≡ (if b then position (is_unpinned w) keys else None)
          → first_refused (if b then find (is_unpinned w) keys else None) (λ q. NotPinned (Some q))
          None ≡ Some (NotPinned (Some k))) [
            | true ↦
                λ e. ap (λ (o : Option Key). first_refused o (λ q. NotPinned (Some q)) None)
                (find-position (is_unpinned w) keys (Some at) e ∙ key)
            | false ↦ λ e. cc
          ] is

      pub commit_refusal-none : None ≡ (if (cells kind).state then position (is_unpinned w) keys
          else None) → commit_refusal w kind keys ≡ None
      commit_refusal-none is =
          commit_refusal-fit ∙ elim (cells kind).state as (λ b.
          None ≡ (if b then position (is_unpinned w) keys else None)
          → first_refused (if b then find (is_unpinned w) keys else None) (λ q. NotPinned (Some q))
          None ≡ None) [
            | true ↦
                λ e. ap (λ (o : Option Key). first_refused o (λ q. NotPinned (Some q)) None)
                (find-position (is_unpinned w) keys None e)
            | false ↦ λ e. refl
          ] is

-- a commit that isn't refused
pub record Commits (w : WorldView) (kind : Kind) (keys : List Key) : Type 0 where
  pub command : is_command kind ≡ true
  pub are : are_keys keys ≡ true
  pub applies : AppliesOn (rows_of w.history) kind keys
  pub pinned : Pinned w kind keys
  pub none_unpinned : first_unpinned w kind keys ≡ None

pub commits : (w : WorldView) (kind : Kind) (keys : List Key) → commit_refusal w kind keys ≡ None
    → Commits w kind keys
commits w kind keys h =
    let t = rows_of w.history in
    let a = not_refused (not (is_command kind)) NotACommand _ h in
    let b = not_refused (not (are_keys keys)) NoKeys _ a.1 in
    let c = none_first (find (is_missing t) keys) (λ k. NoSuchRow (Some k)) _ b.1 in
    let d = none_first (find (is_unfit t kind) keys) (λ k. DoesNotApply k) _ c.1 in
    let e = none_first (first_unpinned w kind keys) (λ k. NotPinned (Some k)) None d.1 in
    record {
      command = not-false (is_command kind) a.0;
      are = not-false (are_keys keys) b.0;
      applies =
          λ k named. not-false (fits t kind k) (none_found (is_unfit t kind) keys k d.0 named);
      pinned = pinned-first_unpinned w kind keys e.0;
      none_unpinned = e.0;
    }

-- an undo that isn't refused
pub record Undoes (w : WorldView) (n : ℕ) : Type 0 where
  pub stands : CanBeUndone w.history.journal n
  pub free : blocker w.history.journal n ≡ None
  pub pinned : Pinned w stands.marked.entry.kind stands.marked.entry.keys

pub undoes : (w : WorldView) (n : ℕ) → undo_refusal w n ≡ None → Undoes w n
undoes w n h = at (entry_at w.history.journal n) refl h
  where
    marked : (m : Marked) (mark : Mark) (b : Option ℕ) → mark_refusal w m mark b ≡ None
        → (mark ≡ Standing) × ((b ≡ None) × (first_unpinned w m.entry.kind m.entry.keys ≡ None))
    marked m Undone b g = cc
    marked m Standing (Some b) g = cc
    marked m Standing None g = (
      refl,
      (
        refl,
        (none_first (first_unpinned w m.entry.kind m.entry.keys) (λ k. NotPinned None) None g).0,
      ),
    )

    at : (o : Option Marked) → entry_at w.history.journal n ≡ o
        → (elim o as
        (λ _. Option Refusal) [
          | Some m ↦ refused_if (not (is_command m.entry.kind)) NotACommand
              (mark_refusal w m m.mark (blocker w.history.journal n))
          | None ↦ Some NoSuchEntry
        ]) ≡ None
        → Undoes w n
    at None there g = cc
    at (Some m) there g =
        let a = not_refused (not (is_command m.entry.kind)) NotACommand _ g in
        let b = marked m m.mark (blocker w.history.journal n) a.1 in
        record {
          stands = record {
            marked = m;
            there = there;
            stands = b.0;
            command = not-false (is_command m.entry.kind) a.0;
          };
          free = b.1.0;
          pinned = pinned-first_unpinned w m.entry.kind m.entry.keys b.1.1;
        }
