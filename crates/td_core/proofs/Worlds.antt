-- What holds of a world holds after every step.
use Rattle.std.proofs.Common.{◌≡◌, ℕ, suc, ◌-◌, true, false, List, [], ◌∷◌, ◌++◌}
use Rattle.std.proofs.Common.{Option, Some, None, option_map, unwrap_or, if◌then◌else◌}
use Rattle.std.proofs.Common.{take, drop, ap, refl, sym, subst}
use Rattle.std.proofs.Common.{◌∙◌, arith}
use Rattle.std.proofs.lemmas.List.{length-set}
use Rattle.td_text.proofs.Chain.{some_is}
use Rattle.td_rows.specs.declared.key.Key.{Key}
use Rattle.td_rows.specs.declared.row.Row.{Row}
use Rattle.td_rows.specs.declared.kind.Kind.{Kind}
use Rattle.td_rows.specs.Blank.{blank}
use Rattle.td_rows.specs.Cells.{restore}
use Rattle.td_rows.specs.Keys.{same_key, names}
use Rattle.td_rows.specs.Kinds.{cells, written}
use Rattle.td_rows.specs.Meaning.{applies, means}
use Rattle.td_rows.specs.Table.{Table, row_of, each_row, meant, applied, AppliesOn}
use Rattle.td_rows.proofs.Keys.{same_key-true}
use Rattle.td_rows.proofs.Tables.{row_of-each_row, applies-fits}
use Rattle.td_journal.specs.declared.entry.Entry.{Entry}
use Rattle.td_journal.specs.declared.entry.Marked.{Marked}
use Rattle.td_journal.specs.Entries.{standing, standing_entry, is_standing}
use Rattle.td_journal.specs.Replay.{replay, row_after, Lawful}
use Rattle.td_rows.specs.GivenBack.{row_at}
use Rattle.td_journal.specs.Undo.{rows_before}
use Rattle.td_journal.specs.IsKeys.{IsKeys}
use Rattle.td_journal.proofs.Agreeing.{EachHasKeys-push, EachHasKeys-undone_at}
use Rattle.td_journal.proofs.Commuting.{row_after-append}
use Rattle.td_journal.proofs.Undoing.{standing-append, standing-at, entry_at-place}
use Rattle.td_journal.proofs.Undoing.{LawfulAfter-rest, Lawful-push, Apart-blocker, undo_is_lawful}
use Rattle.td_journal.proofs.Undoing.{undo_gives_back, replay-push}
use Rattle.td_core.specs.declared.step.Phase.{Phase}
use Rattle.td_core.specs.declared.step.Hand.{Hand}
use Rattle.td_core.specs.History.{History, rows_of, with_entry, without_entry}
use Rattle.td_core.specs.Phases.{Suits}
use Rattle.td_core.specs.Worlds.{WorldView, phase_of, with_phase, journaled, InHand, IsWorld}
use Rattle.td_core.specs.Refusals.{are_keys}
use Rattle.td_core.proofs.Phases.{phase_of-with_phase, phase_of-other}
use Rattle.td_core.proofs.Refusing.{Commits, Undoes}
use Rattle.td_core.proofs.Suiting.{suits-command, suits-undone, state-row_after}
use Rattle.td_core.proofs.Hands.{AllInHand, row-in, InHand-moved}

-- the rows after one more entry
pub rows_of-with_entry : (h : History) (e : Entry)
    → rows_of (with_entry h e) ≡ applied e.kind e.keys (rows_of h)
rows_of-with_entry h e =
    ap (replay h.opening) (standing-append h.journal (standing_entry e ∷ []))
    ∙ replay-push h.opening (standing h.journal) e

-- a changed row, as it was
pub found-before : (t : Table) (f : Key → Row → Row) (k : Key) (row : Row)
    → row_of (each_row f t) k ≡ Some row → (r : Row) × ((row_of t k ≡ Some r) × (f k r ≡ row))
found-before t f k row h = at (row_of t k) refl (sym (row_of-each_row f t k) ∙ h)
  where
    at : (o : Option Row) → row_of t k ≡ o → option_map (f k) o ≡ Some row
        → (r : Row) × ((row_of t k ≡ Some r) × (f k r ≡ row))
    at None is g = cc
    at (Some r) is g = (r, (is, some_is (f k r) row g))

-- the hands change, and have each row that a builder has
pub IsWorld-with_hands : (w : WorldView) (hands : List Hand) → IsWorld w → AllInHand w hands
    → IsWorld (record w { hands = hands })
IsWorld-with_hands w hands i held =
    record {
      rising = i.rising;
      lawful = i.lawful;
      sized = i.sized;
      suits = i.suits;
      keys = i.keys;
      held = held;
    }

-- with them one phase changes, and suits its row
pub IsWorld-with_phase_hands : (w : WorldView) (k : Key) (p : Phase) (hands : List Hand)
    → IsWorld w → ((row : Row) → row_of (rows_of w.history) k ≡ Some row → Suits p row.state)
    → AllInHand (with_phase w k p) hands → IsWorld (record (with_phase w k p) { hands = hands })
IsWorld-with_phase_hands w k p hands i suits held = record {
  rising = i.rising;
  lawful = i.lawful;
  keys = i.keys;
  sized = length-set w.phases _ p ∙ i.sized;
  suits =
      λ q x row phase found. elim (same_key q k) as (λ b. same_key q k ≡ b → Suits x row.state) [
        | true ↦ λ is.
            let same : q ≡ k = same_key-true q k is in
            let given : p ≡ x = phase_of-with_phase w k p x
            (subst (λ (y : Key). phase_of (with_phase w k p) y ≡ Some x) same phase) in
            subst (λ (y : Phase). Suits y row.state) given
            (suits row (subst (λ (y : Key). row_of (rows_of w.history) y ≡ Some row) same found))
        | false ↦ λ is. i.suits q x row (sym (phase_of-other w k q p row found is) ∙ phase) found
      ] refl;
  held = held;
}

-- a row whose phase says nothing of a hand
pub IsWorld-with_phase : (w : WorldView) (k : Key) (p : Phase) → IsWorld w → InHand w.hands k p
    → ((row : Row) → row_of (rows_of w.history) k ≡ Some row → Suits p row.state)
    → IsWorld (with_phase w k p)
IsWorld-with_phase w k p i here suits =
    IsWorld-with_phase_hands w k p w.hands i suits
    (InHand-moved w k p w.hands i.sized here (λ q x _ phase. i.held q x phase))

-- the keys of an entry
pub one_key : (k : Key) → IsKeys (k ∷ [])
one_key k = record { rising = refl; some = omega arith }

are_its_keys : (keys : List Key) → are_keys keys ≡ true → IsKeys keys
are_its_keys [] are = cc
are_its_keys (k ∷ keys) are = record { rising = are; some = omega arith }

pub lawful-journaled : (w : WorldView) (kind : Kind) (keys : List Key) → IsWorld w
    → AppliesOn (rows_of w.history) kind keys
    → Lawful w.history.opening (standing (journaled w kind keys).history.journal)
lawful-journaled w kind keys i applies =
    let e : Entry = record { kind = kind; keys = keys } in
    subst (Lawful w.history.opening)
    (sym (standing-append w.history.journal (standing_entry e ∷ [])))
    (Lawful-push w.history.opening (standing w.history.journal) e i.lawful applies)

-- one more entry, after which the phases of its keys suit their rows
pub IsWorld-journaled : (w : WorldView) (kind : Kind) (keys : List Key) → IsWorld w → IsKeys keys
    → AppliesOn (rows_of w.history) kind keys
    → ((k : Key) (p : Phase) (row : Row) → names keys k ≡ true → phase_of w k ≡ Some p
    → row_of (rows_of w.history) k ≡ Some row → Suits p (means kind row).state)
    → IsWorld (journaled w kind keys)
IsWorld-journaled w kind keys i are applies suits = record {
  rising = i.rising;
  keys = EachHasKeys-push w.history.journal (standing_entry (record { kind = kind; keys = keys }))
      i.keys are;
  held = i.held;
  lawful = lawful-journaled w kind keys i applies;
  sized = i.sized;
  suits = λ k p row phase found.
      let was = found-before (rows_of w.history) (meant kind keys) k row
      (sym (ap (λ (t : Table). row_of t k)
      (rows_of-with_entry w.history (record { kind = kind; keys = keys }))) ∙ found) in
      subst (λ (r : Row). Suits p r.state) was.1.1
      (elim (names keys k) as (λ b.
      names keys k ≡ b → Suits p (if b then means kind was.0 else was.0).state) [
        | true ↦ λ named. suits k p was.0 named phase was.1.0
        | false ↦ λ _. i.suits k p was.0 phase was.1.0
      ] refl);
}

-- one more entry on one key, whose row's phase changes with it
pub IsWorld-moved : (w : WorldView) (kind : Kind) (k : Key) (p : Phase) → IsWorld w
    → AppliesOn (rows_of w.history) kind (k ∷ []) → InHand w.hands k p
    → ((row : Row) → row_of (rows_of w.history) k ≡ Some row → Suits p (means kind row).state)
    → IsWorld (with_phase (journaled w kind (k ∷ [])) k p)
IsWorld-moved w kind k p i applies here suits = record {
  rising = i.rising;
  keys = EachHasKeys-push w.history.journal (standing_entry (record { kind = kind; keys = k ∷ [] }))
      i.keys (one_key k);
  held = InHand-moved w k p w.hands i.sized here (λ q x _ phase. i.held q x phase);
  lawful = lawful-journaled w kind (k ∷ []) i applies;
  sized = length-set w.phases _ p ∙ i.sized;
  suits = λ q x row phase found.
      let was = found-before (rows_of w.history) (meant kind (k ∷ [])) q row
      (sym (ap (λ (t : Table). row_of t q)
      (rows_of-with_entry w.history (record { kind = kind; keys = k ∷ [] }))) ∙ found) in
      subst (λ (r : Row). Suits x r.state) was.1.1
      (elim (same_key q k) as (λ b.
      same_key q k ≡ b
      → Suits x (if (if b then true else false) then means kind was.0 else was.0).state) [
        | true ↦ λ is.
            let same : q ≡ k = same_key-true q k is in
            let given : p ≡ x = phase_of-with_phase w k p x
            (subst (λ (y : Key). phase_of (with_phase w k p) y ≡ Some x) same phase) in
            subst (λ (y : Phase). Suits y (means kind was.0).state) given
            (suits was.0
            (subst (λ (y : Key). row_of (rows_of w.history) y ≡ Some was.0) same was.1.0))
        | false ↦
            λ is. i.suits q x was.0 (sym (phase_of-other w k q p was.0 was.1.0 is) ∙ phase) was.1.0
      ] refl);
}

-- a commit that isn't refused
pub IsWorld-commit : (w : WorldView) (kind : Kind) (keys : List Key) → IsWorld w
    → Commits w kind keys → IsWorld (journaled w kind keys)
IsWorld-commit w kind keys i c =
    IsWorld-journaled w kind keys i (are_its_keys keys c.are) c.applies
    (λ k p row named phase found.
    suits-command kind p row c.command
    (applies-fits (rows_of w.history) kind k row found (c.applies k named))
    (c.pinned k p named phase) (i.suits k p row phase found))

-- what is known of the entry that is undone, at one of its keys
pub record Undone (o : Table) (ms : List Marked) (n : ℕ) (m : Marked) (k : Key)
    (now : Row) : Type 0 where
  pub applies : applies m.entry.kind (row_at (rows_before o ms n) k) ≡ true
  pub state : (cells m.entry.kind).state ≡ true
      → now.state ≡ (means m.entry.kind (row_at (rows_before o ms n) k)).state

pub undone-at : (w : WorldView) (n : ℕ) (k : Key) (now : Row) → IsWorld w → (u : Undoes w n)
    → names u.stands.marked.entry.keys k ≡ true → row_of (rows_of w.history) k ≡ Some now
    → Undone w.history.opening w.history.journal n u.stands.marked k now
undone-at w n k now i u named found =
    let o = w.history.opening in
    let ms = w.history.journal in
    let m = u.stands.marked in
    let e = m.entry in
    let place = entry_at-place ms n m u.stands.there in
    let counts : is_standing m.mark ≡ true = ap is_standing u.stands.stands in
    let before = standing (take (n - 1) ms) in
    let after = standing (drop (suc (n - 1)) ms) in
    let all : standing ms ≡ before ++ e ∷ after = standing-at ms (n - 1) m place.1 counts in
    let law = (LawfulAfter-rest o [] before (e ∷ after) (subst (Lawful o) all i.lawful)).0 in
    let was = found-before o (row_after (standing ms)) k now found in
    let earlier : row_of (replay o before) k ≡ Some (row_after before k was.0) =
    row_of-each_row (row_after before) o k ∙ ap (option_map (row_after before k)) was.1.0 in
    let at : row_at (rows_before o ms n) k ≡ row_after before k was.0 =
    ap (λ (x : Option Row). unwrap_or x blank) earlier in
    let last : now ≡ row_after after k (meant e.kind e.keys k (row_after before k was.0)) =
    sym was.1.1 ∙ ap (λ (es : List Entry). row_after es k was.0) all
    ∙ row_after-append before (e ∷ after) k was.0 in
    let meaning : meant e.kind e.keys k (row_after before k was.0)
    ≡ means e.kind (row_after before k was.0) =
    ap (λ b. if b then means e.kind (row_after before k was.0) else row_after before k was.0)
    named in
    record {
      applies = ap (applies e.kind) at
          ∙ applies-fits (replay o before) e.kind k (row_after before k was.0) earlier
          (law k named);
      state = λ has. ap (λ (r : Row). r.state) last
          ∙ state-row_after e.kind e.keys after k (meant e.kind e.keys k (row_after before k was.0))
          (Apart-blocker ms n m u.stands.there u.free) named has
          ∙ ap (λ (r : Row). r.state) meaning ∙ ap (λ (r : Row). (means e.kind r).state) (sym at);
    }

-- an undo that isn't refused
pub IsWorld-undo : (w : WorldView) (n : ℕ) → IsWorld w → Undoes w n → IsWorld (record w {
  history =
      without_entry w.history n;
})
IsWorld-undo w n i u =
    let o = w.history.opening in
    let ms = w.history.journal in
    let m = u.stands.marked in
    let counts : is_standing m.mark ≡ true = ap is_standing u.stands.stands in
    let back = undo_gives_back o ms n m i.rising u.stands.there counts u.free in
    record {
      rising = i.rising;
      keys = EachHasKeys-undone_at ms (n - 1) i.keys;
      held = i.held;
      lawful = undo_is_lawful o ms n m u.stands.there counts u.free i.lawful;
      sized = i.sized;
      suits = λ k p row phase found.
          let was = found-before (rows_of w.history)
          (λ q r. if names m.entry.keys q
          then restore (written m.entry.kind) (row_at (rows_before o ms n) q) r else r) k row
          (sym (ap (λ (t : Table). row_of t k) back) ∙ found) in
          subst (λ (r : Row). Suits p r.state) was.1.1
          (elim (names m.entry.keys k) as (λ b.
          names m.entry.keys k ≡ b
          → Suits p (if b then restore (written m.entry.kind) (row_at (rows_before o ms n) k) was.0
          else was.0).state) [
            | true ↦ λ named.
                let known = undone-at w n k was.0 i u named was.1.0 in
                suits-undone m.entry.kind p (row_at (rows_before o ms n) k) was.0 u.stands.command
                known.applies known.state (u.pinned k p named phase)
                (i.suits k p was.0 phase was.1.0)
            | false ↦ λ _. i.suits k p was.0 phase was.1.0
          ] refl);
    }

-- a row of a world with a phase is there
pub row-there : (w : WorldView) (k : Key) (p : Phase) → IsWorld w → phase_of w k ≡ Some p
    → (row : Row) × (row_of (rows_of w.history) k ≡ Some row)
row-there w k p i phase = row-in w k p i.sized phase
