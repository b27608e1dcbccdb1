-- What the desk does for a builder, over plain values.
use Rattle.std.proofs.Common.{◌≡◌, IfNone, ℕ, zero, suc, ◌≤◌, ◌==◌, Bool, true, false, List}
use Rattle.std.proofs.Common.{[], ◌∷◌, ◌++◌, Option, Some, None, option_map, if◌then◌else◌}
use Rattle.std.proofs.Common.{slice_get, append_assoc}
use Rattle.std.proofs.Common.{◌<◌, length, set, ap, refl, sym, subst, ◌∙◌, arith}
use Rattle.td_board.specs.declared.views.RowView.{RowView}
use Rattle.std.proofs.lemmas.Bool.{eqb-true}
use Rattle.std.proofs.lemmas.Option.{same_Some}
use mathlib.Core.Option.{some}
use lib.ListN.{get_elem?}
use Rattle.atomic_table.specs.Seated.{TableId}
use Rattle.td_board.specs.declared.views.RowView.TheVariants.{In, Known}
use Rattle.td_board.specs.declared.views.DeskTry.{DeskTry}
use Rattle.td_board.specs.Seats.{rows_of as board_rows}
use Rattle.td_rows.specs.declared.key.Key.{Key}
use Rattle.td_rows.specs.declared.row.Row.{Row}
use Rattle.td_rows.specs.declared.state.State.{State}
use Rattle.td_rows.specs.declared.state.State.TheVariants.{Building}
use Rattle.td_rows.specs.declared.kind.Kind.TheVariants.{Claim, Outcome as Ended}
use Rattle.td_rows.specs.declared.outcome.Outcome.{Outcome}
use Rattle.td_rows.specs.declared.outcome.Outcome.TheVariants as ends
use Rattle.td_rows.specs.Keys.{ascending}
use Rattle.td_rows.specs.Meaning.{means, applies}
use Rattle.td_rows.specs.States.{is_queued, is_building_by}
use Rattle.td_rows.specs.Table.{Table, row_of, keys_of, applied, meant}
use Rattle.td_rows.proofs.Keys.{same_key-refl}
use Rattle.td_rows.proofs.Tables.{row_of-at, row_of-each_row, keys_of-each_row}
use Rattle.td_change.specs.Plans.{Planned, plan_of, left}
use Rattle.td_core.specs.Committing.{takes}
use Rattle.td_core.specs.History.{History, rows_of}
use Rattle.td_book.specs.Seen.{seen_off, seen_as, known_as, held_as}
use Rattle.td_core.proofs.Phases.{keys_of-rows_of}
use Rattle.td_core.proofs.Worlds.{rows_of-with_entry}
use Rattle.td_book.specs.declared.starting.Job.{Job}
use Rattle.td_book.specs.Watching.{WatchedView}
use Rattle.td_book.specs.Desk.{InnerModel, BookModel, book_of, Stays, HasRoom, HasOne, claim_of}
use Rattle.td_book.specs.Calls.{noting_one, HasOut, OutAt, LostTo}
use Rattle.td_book.specs.Tries.{look_at}
use Rattle.td_book.specs.Building.{Knows, head_key, is_built_at, Noticed, IsJobAt}
use Rattle.td_book.proofs.Seeing.{claimed_off, idle_off, views_at, views-each_row, set_views}
use Rattle.td_book.proofs.Seeing.{length-seen_off}
use Rattle.td_book.proofs.Steps.{rising_read, rows_read, noting_one-lost}
use Rattle.td_book.proofs.Steps.{noting_one-opening, noting_one-won, stays_more}
use Rattle.td_book.proofs.Steps.{stays_fixed, spent_none, up_now, pos_lost}
use Rattle.td_naming.proofs.Numbered.{key_of}
use Rattle.td_book.proofs.Tries.{look_at-out, look-lost}

pub built_at : (t : Table) (k : Key) (i b : ℕ) (row : Row) → ascending (keys_of t) ≡ true
    → slice_get t i ≡ Some (k, row) → is_built_at t k b ≡ is_building_by b row.state
built_at t k i b row up at =
    ap (λ x. elim x as (λ _. Bool) [ Some r ↦ is_building_by b r.state | None ↦ false ])
    (row_of-at t k i row up at)

pub queued-unbuilt : (b : ℕ) (s : State) → is_queued s ≡ true → is_building_by b s ≡ false
queued-unbuilt b (Building c) h = cc
queued-unbuilt b s h = refl

-- nothing is noted
pub knows_none : (b : ℕ) (k : Key) (is : Bool) (m n : InnerModel) (tries : List DeskTry)
    → n ≡ (record m { tries = tries })
    → tries ≡ m.tries ++ look_at (rows_of m.books.history) k 0
    → m.view ≡ seen_off [] (rows_of m.books.history)
    → is ≡ is_built_at (rows_of m.books.history) k b → Knows b k is m n
knows_none b k is m n tries same told rest answer = subst (Knows b k is m) (sym same) (record {
  by = 0;
  some_builder = omega arith;
  history = sym (noting_one-won m.books.history k);
  view = rest;
  tries = told;
  stays = record { table = refl; stock = refl; builders = refl; since = refl; watch = refl };
  spent = spent_none (k ∷ []) m.books;
  answers = answer;
})

row_claimed : (t : Table) (k : Key) (i by : ℕ) (row : Row) → ascending (keys_of t) ≡ true
    → slice_get t i ≡ Some (k, row)
    → row_of (applied (Claim by) (k ∷ []) t) k ≡ Some (record row { state = Building by })
row_claimed t k i by row up at =
    row_of-each_row (meant (Claim by) (k ∷ [])) t k
    ∙ ap (option_map (meant (Claim by) (k ∷ []) k)) (row_of-at t k i row up at)
    ∙ ap (λ v. Some (if (if v then true else false) then means (Claim by) row else row))
    (same_key-refl k)

-- a claim is noted
pub knows_noted : (by b : ℕ) (k : Key) (i : ℕ) (m n : InnerModel) → LostTo by m n i (k ∷ [])
    → OutAt (rows_of m.books.history) k i → ascending (keys_of (rows_of m.books.history)) ≡ true
    → m.view ≡ seen_off [] (rows_of m.books.history) → Knows b k (by == b) m n
knows_noted by b k i m n lost out up rest =
    let t = rows_of m.books.history in
    let u = applied (Claim by) (k ∷ []) t in
    let rows : rows_of n.books.history ≡ u =
    ap rows_of lost.history ∙ rows_of-with_entry m.books.history (claim_of by k) in
    let claimed = row_claimed t k i by out.row up out.at in
    let up_u : ascending (keys_of u) ≡ true =
    ap ascending (keys_of-each_row (meant (Claim by) (k ∷ [])) t) ∙ up in
    record {
      by = by;
      some_builder = lost.some_builder;
      history = lost.history ∙ sym (noting_one-lost m.books.history k i by up out lost.one);
      view =
          lost.view ∙ ap (λ (v : List RowView). set v i (Known by)) rest
          ∙ claimed_off [] t i k out.row by up out.at
          ∙ idle_off [] u k up_u (λ row found. same_idle row (sym found ∙ claimed))
          ∙ ap (seen_off []) (sym rows);
      tries = lost.tries ∙ ap (λ (l : List DeskTry). m.tries ++ l)
          (sym (look_at-out t k i by up out ∙ look-lost i by (pos_lost by lost.one)));
      stays = lost.stays;
      spent = lost.spent;
      answers = sym (ap (λ (x : Table). is_built_at x k b) rows
          ∙ ap (λ x. elim x as (λ _. Bool) [ Some r ↦ is_building_by b r.state | None ↦ false ])
          claimed);
    }
  where
    same_idle : (row : Row) → Some row ≡ Some (record out.row { state = Building by })
        → is_queued row.state ≡ false
    same_idle row h =
        let is : row ≡ (record out.row { state = Building by }) = cc in
        ap (λ (r : Row). is_queued r.state) is

-- the row with a number is out in the rows that were read, so it is in the history
pub out_read : (t : Table) (m n : InnerModel) (i : ℕ) (k : Key) (was : Row) → m ≡ n
    → t ≡ rows_of m.books.history → ascending (keys_of t) ≡ true → HasOut t i
    → slice_get (rows_of n.books.history) i ≡ Some (k, was)
    → OutAt (rows_of n.books.history) k i × (ascending (keys_of (rows_of n.books.history)) ≡ true)
out_read t m n i k was is read up there at =
    let out = rows_read (λ (u : Table). HasOut u i) t m n is read there in
    let same = same_Some {A = Key × Row} (out.0, out.1.row) (k, was) (sym out.1.at ∙ at) in (
      record {
        row = was;
        at = at;
        out = ap (λ (p : Key × Row). is_queued p.1.state) (sym same) ∙ out.1.out;
      },
      rising_read t m n is read up,
    )

-- ---- the end of a build

-- (the histories are one, by two names)
pub settled_takes : (p : Planned) (h g : History) (by : ℕ) (ended : Outcome) (k : Key) (i : ℕ)
    (row : Row) → g ≡ h → p ≡ plan_of (Ended by ended) (k ∷ []) (rows_of g)
    → ascending (keys_of h.opening) ≡ true → slice_get (rows_of g) i ≡ Some (k, row)
    → is_building_by by row.state ≡ true → takes (rows_of h) p.kind (left p) ≡ k ∷ []
settled_takes p h g by ended k i row same planned up at built =
    let t = rows_of h in
    let found : slice_get t i ≡ Some (k, row) =
    ap (λ (x : History). slice_get (rows_of x) i) (sym same) ∙ at in
    (λ j. takes t (ap (λ (x : Planned). x.kind) planned j) (ap left planned j))
    ∙ ap (λ v. if v then k ∷ [] else [])
    (ap (λ x. elim x as (λ _. Bool) [ Some r ↦ applies (Ended by ended) r | None ↦ false ])
    (row_of-at t k i row (up_now h up) found) ∙ built)

pub never_none : (P : Type 0) (X : Type 0) (k : Key) (ts : List Key) → ts ≡ k ∷ [] → (r : Option ℕ)
    → IfNone r ((ts ≡ []) × X) → IfNone r P
never_none P X k ts is None none = absurd (let bad : k ∷ [] ≡ [] = sym is ∙ none.0 in cc)
never_none P X k ts is (Some n) none = tt

-- ---- a start

pub job_key : (i : ℕ) (b : BookModel) (job : Job) → IsJobAt i b job
    → slice_get (keys_of b.history.opening) i ≡ Some job.key
job_key i b job is =
    ap (λ (ks : List Key). slice_get ks i) (sym (keys_of-rows_of b.history))
    ∙ key_of (rows_of b.history) i job.key is.0 is.1

-- what is known of the first key of a list of one is known of that key
pub knows_head : (claim : List Key) (key : Key) (n m : ℕ) (is was : Bool) (a z : InnerModel)
    → claim ≡ key ∷ [] → n ≡ m → is ≡ was → Knows n (head_key claim) is a z → Knows m key was a z
knows_head claim key n m is was a z one number answer knows =
    subst (λ (k : Key). Knows m k was a z) (ap head_key one)
    (subst (λ (x : ℕ). Knows x (head_key claim) was a z) number
    (subst (λ (b : Bool). Knows n (head_key claim) b a z) answer knows))

pub noticed : (i b : ℕ) (k : Key) (is : Bool) (behind : List DeskTry) (a m n : InnerModel)
    (tries : List DeskTry) → Knows b k is m n
    → m.books.history ≡ a.books.history → m.tries ≡ a.tries → Stays a m
    → slice_get (keys_of a.books.history.opening) i ≡ Some k → tries ≡ n.tries ++ behind
    → Noticed i b is behind (book_of a) (book_of (record n { tries = tries }))
noticed i b k is behind a m n tries w same untried stays at told =
    let all = stays_more a m n stays w.stays in
    record {
      key = k;
      at = at;
      by = w.by;
      some_builder = subst (λ (x : ℕ). w.by ≤ x) stays.builders w.some_builder;
      history = w.history ∙ ap (λ (h : History). noting_one h k w.by) same;
      answers = w.answers;
      tries = told ∙ ap (λ (l : List DeskTry). l ++ behind) w.tries
          ∙ (λ j. (untried j ++ look_at (rows_of (same j)) k w.by) ++ behind)
          ∙ append_assoc a.tries (look_at (rows_of a.books.history) k w.by) behind;
      fixed = stays_fixed a n all;
    }

-- ---- a finish

pub at_key_of : (t : Table) (i : ℕ) (k : Key) → slice_get (keys_of t) i ≡ Some k
    → (row : Row) × (slice_get t i ≡ Some (k, row))
at_key_of [] i k h = absurd (cc)
at_key_of (p ∷ t) zero k h = (p.1, ap (λ (q : Key). Some (q, p.1)) (same_Some p.0 k h))
at_key_of (p ∷ t) (suc i) k h = at_key_of t i k h

pub one_of_room : (ks : List Key) (b : WatchedView) → HasRoom ks b → HasOne ks b
one_of_room ks b room =
    record {
      spare = let s = room.spare in omega arith;
      places = λ k named. let p = room.places k named in omega arith;
    }

pub noted_keys : (h now : History) (k : Key) (b : ℕ) → now ≡ noting_one h k b
    → keys_of (rows_of h) ≡ keys_of (rows_of now)
noted_keys h now k b is =
    keys_of-rows_of h ∙ ap keys_of (sym (noting_one-opening h k b))
    ∙ ap (λ (x : History). keys_of x.opening) (sym is) ∙ sym (keys_of-rows_of now)

pub known-built : (b : ℕ) (s : State) → is_building_by b s ≡ true → known_as s ≡ Known b
known-built b (Building c) h = ap (λ (x : ℕ). Known x) (eqb-true c b h)
known-built b s h = cc

pub known_at : (t : Table) (k : Key) (i b : ℕ) (row : Row) → slice_get t i ≡ Some (k, row)
    → is_building_by b row.state ≡ true → get_elem? (seen_off [] t) i ≡ some (Known b)
known_at t k i b row at built =
    views_at (seen_as []) t i k row at
    ∙ ap (λ (x : RowView). some x) (known-built b row.state built)

held-ended : (b : ℕ) (o : Outcome) (row : Row) → held_as (means (Ended b o) row).state ≡ In
held-ended b ends.Built row = refl
held-ended b o row = refl

-- a build that ended is settled
pub ended_off : (t : Table) (i : ℕ) (k : Key) (row : Row) (b : ℕ) (o : Outcome)
    → ascending (keys_of t) ≡ true → slice_get t i ≡ Some (k, row)
    → set (seen_off [] t) i In ≡ seen_off (k ∷ []) (applied (Ended b o) (k ∷ []) t)
ended_off t i k row b o up at =
    let g : Key → Row → RowView = λ q r. seen_as (k ∷ []) q (meant (Ended b o) (k ∷ []) q r) in
    let here : g k row ≡ In =
    ap (λ v. if (if v then true else false)
    then held_as (if (if v then true else false) then means (Ended b o) row else row).state
    else known_as (if (if v then true else false) then means (Ended b o) row else row).state)
    (same_key-refl k) ∙ held-ended b o row in
    sym (views-each_row (seen_as (k ∷ [])) (meant (Ended b o) (k ∷ [])) t
    ∙ set_views (seen_as []) g t i k row up at (λ q r apart.
    sym (ap (λ v. if (if v then true else false)
    then held_as (if (if v then true else false) then means (Ended b o) r else r).state
    else known_as (if (if v then true else false) then means (Ended b o) r else r).state) apart))
    ∙ ap (λ (x : RowView). set (seen_off [] t) i x) here)

-- a row of a seat's board is a row of the book's history: the board and the desk's view of it are
-- of the book's own rows
pub board_row : (mid now : InnerModel) (b : BookModel) (t : TableId) (i count : ℕ)
    → i < board_rows t → count ≡ length mid.view → count ≡ board_rows mid.table → mid ≡ now
    → now.view ≡ seen_off [] (rows_of now.books.history) → book_of now ≡ b → t ≡ b.fixed.table
    → i < length (rows_of b.history)
board_row mid now b t i count within number table same rest is seat =
    let long = number ∙ ap (λ (m : InnerModel). length m.view) same ∙ ap length rest
    ∙ length-seen_off [] (rows_of now.books.history) in
    let wide = table ∙ ap (λ (m : InnerModel). board_rows m.table) same
    ∙ ap (λ (m : BookModel). board_rows m.fixed.table) is ∙ ap board_rows (sym seat) in
    let rows = ap (λ (m : BookModel). length (rows_of m.history)) is in
    omega (arith, within, long, wide, rows)
