-- The end of a build over plain values.
use Rattle.std.proofs.Common.{◌≡◌, ℕ, ◌+◌, ◌<◌, ◌≤◌, Bool, Ok, Err, is_some, if◌then◌else◌, ◌∷◌}
use Rattle.std.proofs.Common.{◌++◌, List, [], Option, Some, None, true, false, IfSome, IfNone}
use Rattle.std.proofs.Common.{length, slice_get, ap, refl, sym, subst, ◌∙◌, inr, append-nil}
use Rattle.td_board.specs.Knowledge.{with_finish}
use Rattle.td_board.specs.declared.outcome.OutcomeCode.{OutcomeCode}
use Rattle.td_board.specs.declared.views.DeskTry.TheVariants.{SettleDone, SettleEarly}
use Rattle.td_board.specs.declared.views.BuilderView.{BuilderView}
use Rattle.td_rows.specs.declared.key.Key.{Key}
use Rattle.td_rows.specs.declared.kind.Kind.TheVariants.{Outcome as Ended}
use Rattle.td_rows.specs.declared.outcome.Outcome.{Outcome}
use Rattle.td_rows.specs.Table.{Table, keys_of, row_of}
use Rattle.td_core.specs.History.{History, rows_of, with_entry}
use Rattle.td_core.proofs.Phases.{keys_of-rows_of}
use Rattle.td_book.specs.Desk.{InnerModel, book_of, Stays}
use Rattle.td_book.specs.Deeds.{code_of}
use Rattle.td_book.specs.Calls.{noting_one}
use Rattle.td_book.specs.Tries.{look_at, offers_for}
use Rattle.td_book.specs.Building.{Knows, IsEndingAt, IsEnded, IsUnended, EndsShort, head_key}
use Rattle.td_book.specs.Building.{is_built_at, Noticed}
use Rattle.td_book.specs.declared.building.Ending.{Ending}
use Rattle.td_book.specs.Finishing.{Finishes, FinishHeld}
use Rattle.td_book.proofs.Steps.{stays_more, stays_fixed, up_now, some_at}
use Rattle.td_naming.proofs.Numbered.{key_of}
use Rattle.std.specs.Option.{ok_or}
use Rattle.td_book.proofs.Builds.{noticed, built_at, knows_head}
use Rattle.td_book.proofs.Tries.{tries_more}
use Rattle.td_book.specs.declared.finishing.FinishRefusal.TheVariants.{Mismatch}
use Rattle.td_rows.specs.declared.row.Row.{Row}
use Rattle.td_rows.specs.Keys.{ascending, names, same_key}
use Rattle.td_rows.specs.States.{is_building_by}
use Rattle.td_rows.proofs.Keys.{same_key-true}
use Rattle.td_rows.proofs.Tables.{row_of-at}
use Rattle.td_change.specs.Saved.{HaveRows}

-- the claim is known, the hand finished, and the build closed
pub ended_some : (i : ℕ) (o : Outcome) (v w : BuilderView) (a m z : InnerModel) (k : Key)
    (r : Option ℕ) → slice_get (keys_of (rows_of a.books.history)) i ≡ Some k
    → Knows v.number k true a m → w ≡ with_finish i (code_of o) v
    → IfSome r (λ n. n ≡ length m.books.history.journal + 1)
    → IfSome r (λ n. z.books.history
    ≡ with_entry m.books.history (record { kind = Ended v.number o; keys = k ∷ [] }))
    → IfSome r (λ n. z.tries ≡ m.tries
    ++ SettleDone i (code_of o) ∷ offers_for (rows_of z.books.history) (k ∷ []))
    → IfSome r (IsEnded i o v w a z)
ended_some i o v w a m z k None at knows hand number now tries = tt
ended_some i o v w a m z k (Some n) at knows hand number now tries = record {
  key = k;
  at = at;
  by = knows.by;
  some_builder = knows.some_builder;
  built = ap (λ (h : History). is_built_at (rows_of h) k v.number) (sym knows.history)
      ∙ sym knows.answers;
  now = now ∙ ap (λ (h : History). with_entry h (record { kind = Ended v.number o; keys = k ∷ [] }))
      knows.history;
  number = number ∙ ap (λ (h : History). length h.journal + 1) knows.history;
  tries = tries_more a.tries m.tries z.tries (look_at (rows_of a.books.history) k knows.by)
      (SettleDone i (code_of o) ∷ offers_for (rows_of z.books.history) (k ∷ [])) knows.tries tries;
  hand = hand;
}

-- nothing was tried behind
none_behind : (m : InnerModel) → m ≡ (record m { tries = m.tries ++ [] })
none_behind m = λ j. record m { tries = sym (append-nil m.tries) j }

-- a word of the board wasn't the one that the hand calls for, and nothing was settled
pub unended_kept : (i n b : ℕ) (o : Outcome) (v w : BuilderView) (a m : InnerModel) (e : Ending)
    (is : Bool) → IsEndingAt i n a.books.history e → b ≡ v.number
    → Knows b (head_key e.claim) is a m → EndsShort i (code_of o) is [] v w
    → IsUnended i o v w a m
unended_kept i n b o v w a m e is ending number knows short =
    let key = ending.closing.key in
    record {
      key = key;
      at = ending.closing.at;
      is = is;
      known = m;
      knows = knows_head e.claim key b v.number is is a m ending.claim number refl knows;
      behind = [];
      now = none_behind m;
      hand = short;
    }

-- it wasn't closed
pub ended_none : (i : ℕ) (o : Outcome) (v w : BuilderView) (a m z : InnerModel) (k : Key)
    (c : OutcomeCode) (r : Option ℕ) → slice_get (keys_of (rows_of a.books.history)) i ≡ Some k
    → Knows v.number k true a m → w ≡ with_finish i (code_of o) v
    → c ≡ code_of o → IfNone r (z ≡ (record m { tries = m.tries ++ SettleEarly i c ∷ [] }))
    → IfNone r (IsUnended i o v w a z)
ended_none i o v w a m z k c (Some n) at knows hand code same = tt
ended_none i o v w a m z k c None at knows hand code same = record {
  key = k;
  at = at;
  is = true;
  known = m;
  knows = knows;
  behind = SettleEarly i c ∷ [];
  now = same;
  hand = inr (inr (refl, ap (λ (x : OutcomeCode). SettleEarly i x ∷ []) code, hand));
}

-- what the inside did is what the book did
pub finishes : (i : ℕ) (o : Outcome) (v w : BuilderView) (a b z : InnerModel) (n : ℕ)
    → b.books.history ≡ a.books.history → b.tries ≡ a.tries → Stays a b → Stays b z
    → IsEnded i o v w b z n → Finishes i v.number o (book_of a) (book_of z) n
finishes i o v w a b z n same untried room kept e = record {
  key = e.key;
  at = ap (λ (h : History). slice_get (keys_of h.opening) i) (sym same)
      ∙ ap (λ (ks : List Key). slice_get ks i) (sym (keys_of-rows_of b.books.history)) ∙ e.at;
  by = e.by;
  some_builder = subst (λ (x : ℕ). e.by ≤ x) room.builders e.some_builder;
  built = ap (λ (h : History). is_built_at (rows_of (noting_one h e.key e.by)) e.key v.number)
      (sym same) ∙ e.built;
  history = e.now ∙ ap (λ (h : History).
      with_entry (noting_one h e.key e.by) (record { kind = Ended v.number o; keys = e.key ∷ [] }))
      same;
  number = e.number ∙ ap (λ (h : History). length (noting_one h e.key e.by).journal + 1) same;
  tries = e.tries
      ∙ (λ j. untried j
      ++ (look_at (rows_of (same j)) e.key e.by
      ++ SettleDone i (code_of o) ∷ offers_for (rows_of z.books.history) (e.key ∷ [])));
  fixed = stays_fixed a z (stays_more a b z room kept);
}

held_ok : (i : ℕ) (o : Outcome) (v w : BuilderView) (a b z : InnerModel) (n : ℕ)
    → b.books.history ≡ a.books.history → b.tries ≡ a.tries → Stays a b → Stays b z
    → IsEnded i o v w b z n → FinishHeld i o v w (book_of a) (book_of z) (Ok n)
held_ok i o v w a b z n same untried room kept e =
    (finishes i o v w a b z n same untried room kept e, e.hand)

held_mismatch : (i : ℕ) (o : Outcome) (v w : BuilderView) (a b z : InnerModel)
    → b.books.history ≡ a.books.history → b.tries ≡ a.tries → Stays a b → IsUnended i o v w b z
    → FinishHeld i o v w (book_of a) (book_of z) (Err Mismatch)
held_mismatch i o v w a b z same untried room e = (
  e.is,
  e.behind,
  subst (λ (m : InnerModel). Noticed i v.number e.is e.behind (book_of a) (book_of m)) (sym e.now)
      (noticed i v.number e.key e.is e.behind a b e.known (e.known.tries ++ e.behind) e.knows same
      untried room
      (ap (λ (h : History). slice_get (keys_of h.opening) i) (sym same)
      ∙ ap (λ (ks : List Key). slice_get ks i) (sym (keys_of-rows_of b.books.history)) ∙ e.at)
      refl),
  e.hand,
)

-- a key that has a row
pub have_one : (t : Table) (h : History) (k : Key) (row : Row) (i : ℕ) (ks : List Key)
    → t ≡ rows_of h → ascending (keys_of h.opening) ≡ true → Some (k, row) ≡ slice_get t i
    → ks ≡ k ∷ [] → HaveRows (rows_of h) ks
have_one t h k row i ks rows up at one q named =
    let found : slice_get (rows_of h) i ≡ Some (k, row) =
    ap (λ (x : Table). slice_get x i) (sym rows) ∙ sym at in
    let there : row_of (rows_of h) k ≡ Some row =
    row_of-at (rows_of h) k i row (up_now h up) found in
    elim (same_key q k) as (λ b.
    same_key q k ≡ b → (if b then true else false) ≡ true → is_some (row_of (rows_of h) q) ≡ true) [
      | true ↦
          λ e _. ap (λ (x : Key). is_some (row_of (rows_of h) x)) (same_key-true q k e)
          ∙ ap (λ o. is_some o) there
      | false ↦ λ _ bad. absurd (cc)
    ] refl (ap (λ (xs : List Key). names xs q) (sym one) ∙ named)

-- whether the row with a number is the builder's, by its key
pub row_of_builder : (h : History) (t : Table) (i b : ℕ) (r : Bool) → t ≡ rows_of h
    → ascending (keys_of h.opening) ≡ true → i < length (rows_of h)
    → ((k : Key) (row : Row) → slice_get t i ≡ Some (k, row) → r ≡ is_building_by b row.state)
    → (key : Key) × (slice_get (keys_of h.opening) i ≡ Some key)
    × (is_built_at (rows_of h) key b ≡ r)
row_of_builder h t i b r rows up within told =
    let at = some_at (rows_of h) i within in
    let there : slice_get t i ≡ Some (at.0, at.1) =
    ap (λ (x : Table). slice_get x i) rows ∙ at.2 in (
      at.0,
      ap (λ (ks : List Key). slice_get ks i) (sym (keys_of-rows_of h))
          ∙ key_of (rows_of h) i at.0 at.1 at.2,
      built_at (rows_of h) at.0 i b at.1 (up_now h up) at.2 ∙ sym (told at.0 at.1 there),
    )

pub built_there : (h g : History) (i b : ℕ) (k key : Key) → g ≡ h
    → slice_get (keys_of h.opening) i ≡ Some key → is_built_at (rows_of h) key b ≡ true
    → slice_get (keys_of (rows_of g)) i ≡ Some k → is_built_at (rows_of g) k b ≡ true
built_there h g i b k key same at built there =
    let one : Some k ≡ Some key =
    sym there ∙ ap (λ (ks : List Key). slice_get ks i) (keys_of-rows_of g)
    ∙ ap (λ (x : History). slice_get (keys_of x.opening) i) same ∙ at in
    let key_is : k ≡ key = cc in
    (λ j. is_built_at (rows_of (same j)) (key_is j) b) ∙ built

-- by whether it was ended
pub held_of : (i : ℕ) (o : Outcome) (v w : BuilderView) (a b z : InnerModel) (r : Option ℕ)
    → b.books.history ≡ a.books.history → b.tries ≡ a.tries → Stays a b → Stays b z
    → IfSome r (IsEnded i o v w b z) → IfNone r (IsUnended i o v w b z)
    → FinishHeld i o v w (book_of a) (book_of z) (ok_or r Mismatch)
held_of i o v w a b z (Some n) same untried room kept some none =
    held_ok i o v w a b z n same untried room kept some
held_of i o v w a b z None same untried room kept some none =
    held_mismatch i o v w a b z same untried room none
