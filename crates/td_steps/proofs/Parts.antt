-- Withdrawals and offers lead from desk to desk: no world is spoken of.
use Rattle.std.proofs.Common.{◌≡◌, ℕ, zero, suc, Bool, true, false, ◌&&◌, List, [], ◌∷◌, ◌++◌}
use Rattle.std.proofs.Common.{append_assoc, append-nil, Option, Some, None, if◌then◌else◌, length}
use Rattle.std.proofs.Common.{slice_get, set, ap, refl, sym, subst, ◌∙◌, arith, set-set}
use Rattle.std.proofs.lemmas.Bool.{and_parts}
use Rattle.std.proofs.lemmas.Option.{same_Some, slice_get_past}
use Rattle.td_board.specs.declared.views.RowView.{RowView}
use Rattle.td_board.specs.declared.views.RowView.TheVariants as views
use Rattle.td_rows.specs.declared.key.Key.{Key}
use Rattle.td_rows.specs.declared.row.Row.{Row}
use Rattle.td_rows.specs.declared.state.State.{State}
use Rattle.td_rows.specs.declared.state.State.TheVariants.{NeedsBuild, Building, Built, Uploaded}
use Rattle.td_rows.specs.declared.state.State.TheVariants.{Installed, DepWait, BdUninstallable}
use Rattle.td_rows.specs.declared.state.State.TheVariants.{BuildAttempted, Failed, NotForUs}
use Rattle.td_rows.specs.declared.kind.Kind.{Kind}
use Rattle.td_rows.specs.Keys.{same_key, names, below_all, ascending}
use Rattle.td_rows.specs.Kinds.{cells}
use Rattle.td_rows.specs.States.{is_queued}
use Rattle.td_rows.specs.Table.{Table, row_of, keys_of}
use Rattle.td_rows.proofs.Keys.{same_key-refl}
use Rattle.td_rows.proofs.Tables.{names-push}
use Rattle.td_change.specs.Saved.{place_of, number_of}
use Rattle.td_change.proofs.Numbers.{slice_get-number_of, names-below, named-apart, names-more}
use Rattle.td_supply.specs.Supply.{Stock}
use Rattle.td_core.specs.History.{History, rows_of, with_entry}
use Rattle.td_core.specs.Refusals.{is_queued_at}
use Rattle.td_core.specs.Worlds.{WorldView}
use Rattle.td_core.proofs.Phases.{keys_of-rows_of, number_of-absent, slice_get-set-here}
use Rattle.td_core.proofs.Worlds.{rows_of-with_entry}
use Rattle.td_book.specs.Calls.{is_lost, noting_one, noting, off_for}
use Rattle.td_book.specs.Desk.{BookModel, claim_of}
use Rattle.td_book.specs.Seen.{known_as, held_as, seen_as, views as views_by, seen_off}
use Rattle.td_book.proofs.Returns.{length-rows}
use Rattle.td_book.proofs.Seeing.{withdrawn_off, stays_off, claimed_off, offered_off, idle_off}
use Rattle.td_book.proofs.Seeing.{held_in, known_out, length-seen_off}
use Rattle.td_book.proofs.Steps.{noting_one-opening, up_now, idle_row}
use Rattle.td_core.specs.declared.step.Answer.{Answer}
use Rattle.td_steps.specs.Sees.{Desk, resting, view_of, Sees, is_off}
use Rattle.td_steps.specs.Moves.{Move, offer, won, lost, note, answer_of, moved, May}
use Rattle.td_steps.specs.Runs.{MayAll, moved_all, LeadsOn}
use Rattle.td_steps.specs.Parts.{withdrawing_one, withdrawing, winning_one, winning, offering_one}
use Rattle.td_steps.specs.Parts.{offering, Tells}
use Rattle.td_steps.specs.Tries.{AreMade}
use Rattle.td_steps.proofs.Moves.{runs_are_seen}

-- ---- 1. lists of moves

MayAll-append : (d : Desk) (a b : List Move) → MayAll d a → MayAll (moved_all d a) b
    → MayAll d (a ++ b)
MayAll-append d [] b one two = two
MayAll-append d (m ∷ a) b one two = (one.0, MayAll-append (moved d m) a b one.1 two)

pub moved_all-append : (d : Desk) (a b : List Move)
    → moved_all d (a ++ b) ≡ moved_all (moved_all d a) b
moved_all-append d [] b = refl
moved_all-append d (m ∷ a) b = moved_all-append (moved d m) a b

-- moves that the desk may make, and that lead to a desk
pub record Leads (d : Desk) (ms : List Move) (x : Desk) : Type 0 where
  pub may : MayAll d ms
  pub to : moved_all d ms ≡ x

pub leads-none : (d x : Desk) → d ≡ x → Leads d [] x
leads-none d x e = record { may = tt; to = e }

pub leads-then : (d x y : Desk) (a b : List Move) → Leads d a x → Leads x b y → Leads d (a ++ b) y
leads-then d x y a b one two = record {
  may = MayAll-append d a b one.may (subst (λ (z : Desk). MayAll z b) (sym one.to) two.may);
  to = moved_all-append d a b ∙ ap (λ (z : Desk). moved_all z b) one.to ∙ two.to;
}

pub leads-one : (d x : Desk) (m : Move) → May d m → moved d m ≡ x → Leads d (m ∷ []) x
leads-one d x m may e = record { may = (may, tt); to = e }

-- what leads from desk to desk leads on from each world that the first one sees
pub leads-on : (w : WorldView) (d x : Desk) (ms : List Move) → Sees w d → Leads d ms x
    → LeadsOn w d ms x
leads-on w d x ms sees leads v runs =
    let all = runs_are_seen w d ms sees leads.may v runs in
    (all.0, subst (Sees v) leads.to all.1)

-- what a move is told that stands behind others
pub tells-at : (d x : Desk) (a b : List Move) (m : Move) (told : Answer) → moved_all d a ≡ x
    → answer_of x m ≡ told → Tells d (a ++ m ∷ b) told
tells-at d x a b m told to is =
    record {
      before = a;
      move = m;
      behind = b;
      parts = refl;
      told = ap (λ (z : Desk). answer_of z m) to ∙ is;
    }

-- ---- 2. the desk while rows are withdrawn

abbrev pub desk_off : History → Stock → ℕ → List Key → Desk
desk_off h st n off =
    record { history = h; stock = st; view = seen_off off (rows_of h); builders = n }

pub row-at : (h : History) (k : Key) (row : Row) → row_of (rows_of h) k ≡ Some row
    → slice_get (rows_of h) (number_of h.opening k) ≡ Some (k, row)
row-at h k row found =
    ap (λ (ks : List Key). slice_get (rows_of h) (place_of ks k)) (sym (keys_of-rows_of h))
    ∙ slice_get-number_of (rows_of h) k row found

view-at : (f : Key → Row → RowView) (t : Table) (i : ℕ) (k : Key) (row : Row)
    → slice_get t i ≡ Some (k, row) → slice_get (views_by f t) i ≡ Some (f k row)
view-at f [] i k row h = absurd (cc)
view-at f (p ∷ t) zero k row h = ap (λ (q : Key × Row). Some (f q.0 q.1)) (same_Some p (k, row) h)
view-at f (p ∷ t) (suc i) k row h = view-at f t i k row h

pub view-of-row : (h : History) (st : Stock) (n : ℕ) (off : List Key) (k : Key) (row : Row)
    → row_of (rows_of h) k ≡ Some row
    → view_of (desk_off h st n off) k
    ≡ Some (if names off k then held_as row.state else known_as row.state)
view-of-row h st n off k row found =
    view-at (seen_as off) (rows_of h) (number_of h.opening k) k row (row-at h k row found)

held-off : (s : State) → is_off (Some (held_as s)) ≡ true
held-off NeedsBuild = refl
held-off (Building b) = refl
held-off Built = refl
held-off Uploaded = refl
held-off Installed = refl
held-off DepWait = refl
held-off BdUninstallable = refl
held-off BuildAttempted = refl
held-off Failed = refl
held-off NotForUs = refl

-- the row of a key that is withdrawn is neither offered nor claimed without the journal's knowing
pub named-off : (h : History) (st : Stock) (n : ℕ) (off : List Key) (k : Key) → names off k ≡ true
    → is_off (view_of (desk_off h st n off) k) ≡ true
named-off h st n off k named = at (row_of (rows_of h) k) refl
  where
    at : (o : Option Row) → row_of (rows_of h) k ≡ o
        → is_off (view_of (desk_off h st n off) k) ≡ true
    at (Some row) found =
        ap is_off (view-of-row h st n off k row found)
        ∙ ap (λ b. is_off (Some (if b then held_as row.state else known_as row.state))) named
        ∙ held-off row.state
    at None gone =
        ap is_off (slice_get_past (seen_off off (rows_of h)) (number_of h.opening k)
        (let a = number_of-absent h k gone in let b = length-seen_off off (rows_of h) in
        let c = length-rows h in omega arith))

-- the row of a key that needs a build
pub record Queued (h : History) (k : Key) : Type 0 where
  pub row : Row
  pub found : row_of (rows_of h) k ≡ Some row
  pub queued : is_queued row.state ≡ true

pub queued-row : (h : History) (k : Key) → is_queued_at (rows_of h) k ≡ true → Queued h k
queued-row h k is = at (row_of (rows_of h) k) refl is
  where
    at : (o : Option Row) → row_of (rows_of h) k ≡ o
        → (elim o as (λ _. Bool) [ Some r ↦ is_queued r.state | None ↦ false ]) ≡ true → Queued h k
    at None gone q = cc
    at (Some row) found q = record { row = row; found = found; queued = q }

pub view-out : (h : History) (st : Stock) (n : ℕ) (off : List Key) (k : Key) (q : Queued h k)
    → names off k ≡ false → view_of (desk_off h st n off) k ≡ Some views.Out
view-out h st n off k q apart =
    view-of-row h st n off k q.row q.found
    ∙ ap (λ b. Some (if b then held_as q.row.state else known_as q.row.state)) apart
    ∙ ap (λ (v : RowView). Some v) (known_out q.row.state q.queued)

view-in : (h : History) (st : Stock) (n : ℕ) (off : List Key) (k : Key) (q : Queued h k)
    → names off k ≡ true → view_of (desk_off h st n off) k ≡ Some views.In
view-in h st n off k q named =
    view-of-row h st n off k q.row q.found
    ∙ ap (λ b. Some (if b then held_as q.row.state else known_as q.row.state)) named
    ∙ ap (λ (v : RowView). Some v) (held_in q.row.state q.queued)

-- ---- 3. withdrawals

module _ (h : History) (st : Stock) (n : ℕ) (up : ascending (keys_of h.opening) ≡ true) where
  desk-view : (off : List Key) (vs : List RowView) → vs ≡ seen_off off (rows_of h)
      → (record (desk_off h st n off) { view = vs }) ≡ desk_off h st n off
  desk-view off vs e = ap (λ (x : List RowView). record (desk_off h st n off) { view = x }) e

  pub won-leads : (done : List Key) (k : Key) → Queued h k → names done k ≡ false
      → Leads (desk_off h st n done) (won k ∷ []) (desk_off h st n (done ++ k ∷ []))
  won-leads done k q apart =
      leads-one (desk_off h st n done) (desk_off h st n (done ++ k ∷ [])) (won k)
      (view-out h st n done k q apart)
      (desk-view (done ++ k ∷ []) (set (seen_off done (rows_of h)) (number_of h.opening k) views.In)
      (withdrawn_off done (rows_of h) (number_of h.opening k) k q.row (up_now h up)
      (row-at h k q.row q.found) q.queued))

  pub idle-leads : (done : List Key) (k : Key) → is_queued_at (rows_of h) k ≡ false
      → Leads (desk_off h st n done) [] (desk_off h st n (done ++ k ∷ []))
  idle-leads done k idle = leads-none (desk_off h st n done) (desk_off h st n (done ++ k ∷ []))
      (desk-view (done ++ k ∷ []) (seen_off done (rows_of h))
      (stays_off done (rows_of h) k (up_now h up) (idle_row (rows_of h) k idle)))

  pub lost-leads : (done : List Key) (k : Key) (b : ℕ) → Queued h k → names done k ≡ false
      → Leads (desk_off h st n done) (lost k b ∷ note k b ∷ [])
      (desk_off (with_entry h (claim_of b k)) st n (done ++ k ∷ []))
  lost-leads done k b q apart =
      let i = number_of h.opening k in
      let vs = seen_off done (rows_of h) in
      let out = view-out h st n done k q apart in
      let t' = rows_of (with_entry h (claim_of b k)) in
      let e : set (set vs i (views.Seen b)) i (views.Known b) ≡ seen_off (done ++ k ∷ []) t' =
      set-set vs i (views.Seen b) (views.Known b)
      ∙ claimed_off done (rows_of h) i k q.row b (up_now h up) (row-at h k q.row q.found)
      ∙ ap (seen_off (done ++ k ∷ [])) (sym (rows_of-with_entry h (claim_of b k))) in
      record {
        may = (out, (slice_get-set-here vs i views.Out (views.Seen b) out, tt));
        to = ap (λ (x : List RowView).
            record (desk_off (with_entry h (claim_of b k)) st n (done ++ k ∷ [])) { view = x }) e;
      }

  withdrawing-one : (done : List Key) (k : Key) (b : ℕ) → names done k ≡ false
      → Leads (desk_off h st n done) (withdrawing_one h k b)
      (desk_off (noting_one h k b) st n (done ++ k ∷ []))
  withdrawing-one done k b apart = at (is_queued_at (rows_of h) k) (is_lost b) refl
    where
      at : (q l : Bool) → is_queued_at (rows_of h) k ≡ q
          → Leads (desk_off h st n done)
          (if q then (if l then lost k b ∷ note k b ∷ [] else won k ∷ []) else [])
          (desk_off (if q && l then with_entry h (claim_of b k) else h) st n (done ++ k ∷ []))
      at true true is = lost-leads done k b (queued-row h k is) apart
      at true false is = won-leads done k (queued-row h k is) apart
      at false true is = idle-leads done k is
      at false false is = idle-leads done k is

  winning-one : (done : List Key) (k : Key) → names done k ≡ false
      → Leads (desk_off h st n done) (winning_one (rows_of h) k) (desk_off h st n (done ++ k ∷ []))
  winning-one done k apart = at (is_queued_at (rows_of h) k) refl
    where
      at : (q : Bool) → is_queued_at (rows_of h) k ≡ q
          → Leads (desk_off h st n done) (if q then won k ∷ [] else [])
          (desk_off h st n (done ++ k ∷ []))
      at true is = won-leads done k (queued-row h k is) apart
      at false is = idle-leads done k is

  -- ---- 4. offers

  offering-one : (k : Key) (ks : List Key) → names ks k ≡ false
      → Leads (desk_off h st n (k ∷ ks)) (offering_one (rows_of h) k) (desk_off h st n ks)
  offering-one k ks apart = at (is_queued_at (rows_of h) k) refl
    where
      at : (q : Bool) → is_queued_at (rows_of h) k ≡ q
          → Leads (desk_off h st n (k ∷ ks)) (if q then offer k ∷ [] else []) (desk_off h st n ks)
      at true is =
          let q = queued-row h k is in
          leads-one (desk_off h st n (k ∷ ks)) (desk_off h st n ks) (offer k) (
            view-in h st n (k ∷ ks) k q
                (ap (λ b. if b then true else names ks k) (same_key-refl k)),
            is,
          )
          (desk-view ks (set (seen_off (k ∷ ks) (rows_of h)) (number_of h.opening k) views.Out)
          (offered_off ks (rows_of h) (number_of h.opening k) k q.row (up_now h up)
          (row-at h k q.row q.found) apart q.queued))
      at false is =
          leads-none (desk_off h st n (k ∷ ks)) (desk_off h st n ks)
          (desk-view ks (seen_off (k ∷ ks) (rows_of h))
          (idle_off ks (rows_of h) k (up_now h up) (idle_row (rows_of h) k is)))

  pub offering-all : (ks : List Key) → ascending ks ≡ true
      → Leads (desk_off h st n ks) (offering (rows_of h) ks) (desk_off h st n [])
  offering-all [] rise = leads-none (desk_off h st n []) (desk_off h st n []) refl
  offering-all (k ∷ ks) rise =
      let both = and_parts (below_all k ks) (ascending ks) rise in
      leads-then (desk_off h st n (k ∷ ks)) (desk_off h st n ks) (desk_off h st n [])
      (offering_one (rows_of h) k) (offering (rows_of h) ks)
      (offering-one k ks (names-below k ks both.0)) (offering-all ks both.1)

-- ---- 5. lists of keys

-- no key of these is among those
abbrev pub Apart : List Key → List Key → Type 0
Apart done ks = (k : Key) → names ks k ≡ true → names done k ≡ false

pub apart-first : (done : List Key) (k : Key) (ks : List Key) → Apart done (k ∷ ks)
    → names done k ≡ false
apart-first done k ks apart = apart k (ap (λ b. if b then true else names ks k) (same_key-refl k))

pub apart-rest : (done : List Key) (k : Key) (ks : List Key) → below_all k ks ≡ true
    → Apart done (k ∷ ks) → Apart (done ++ k ∷ []) ks
apart-rest done k ks below apart q named =
    names-push done k q ∙ ap (λ b. if b then true else same_key q k)
    (apart q (names-more ks k q named)) ∙ named-apart ks k q (names-below k ks below) named

pub apart-none : (ks : List Key) → Apart [] ks
apart-none ks k named = refl

pub withdrawing-all : (h : History) (st : Stock) (n : ℕ) (done ks : List Key) (bs : List ℕ)
    → ascending (keys_of h.opening) ≡ true → length bs ≡ length ks → ascending ks ≡ true
    → Apart done ks
    → Leads (desk_off h st n done) (withdrawing h ks bs)
    (desk_off (noting h ks bs) st n (done ++ ks))
withdrawing-all h st n done [] bs up len rise apart =
    leads-none (desk_off h st n done) (desk_off h st n (done ++ []))
    (ap (desk_off h st n) (sym (append-nil done)))
withdrawing-all h st n done (k ∷ ks) [] up len rise apart = absurd (cc)
withdrawing-all h st n done (k ∷ ks) (b ∷ bs) up len rise apart =
    let both = and_parts (below_all k ks) (ascending ks) rise in
    let h' = noting_one h k b in
    let up' : ascending (keys_of h'.opening) ≡ true =
    ap (λ (t : Table). ascending (keys_of t)) (noting_one-opening h k b) ∙ up in
    let len' : length bs ≡ length ks =
    (let s : suc (length bs) ≡ suc (length ks) = len in omega (arith, s)) in
    let rest = withdrawing-all h' st n (done ++ k ∷ []) ks bs up' len' both.1
    (apart-rest done k ks both.0 apart) in
    leads-then (desk_off h st n done) (desk_off h' st n (done ++ k ∷ []))
    (desk_off (noting h' ks bs) st n (done ++ k ∷ ks)) (withdrawing_one h k b)
    (withdrawing h' ks bs)
    (withdrawing-one h st n up done k b (apart-first done k ks apart))
    (subst (λ (off : List Key).
    Leads (desk_off h' st n (done ++ k ∷ [])) (withdrawing h' ks bs)
    (desk_off (noting h' ks bs) st n off)) (append_assoc done (k ∷ []) ks) rest)

pub winning-all : (h : History) (st : Stock) (n : ℕ) (done ks : List Key)
    → ascending (keys_of h.opening) ≡ true → ascending ks ≡ true → Apart done ks
    → Leads (desk_off h st n done) (winning (rows_of h) ks) (desk_off h st n (done ++ ks))
winning-all h st n done [] up rise apart =
    leads-none (desk_off h st n done) (desk_off h st n (done ++ []))
    (ap (desk_off h st n) (sym (append-nil done)))
winning-all h st n done (k ∷ ks) up rise apart =
    let both = and_parts (below_all k ks) (ascending ks) rise in
    leads-then (desk_off h st n done) (desk_off h st n (done ++ k ∷ []))
    (desk_off h st n (done ++ k ∷ ks)) (winning_one (rows_of h) k) (winning (rows_of h) ks)
    (winning-one h st n up done k (apart-first done k ks apart))
    (subst (λ (off : List Key).
    Leads (desk_off h st n (done ++ k ∷ [])) (winning (rows_of h) ks) (desk_off h st n off))
    (append_assoc done (k ∷ []) ks)
    (winning-all h st n (done ++ k ∷ []) ks up both.1 (apart-rest done k ks both.0 apart)))

-- ---- 6. the book at rest

-- a book whose history is told, and of which nothing else changed
pub book-is : (old new : BookModel) (h : History) → new.history ≡ h → new.fixed ≡ old.fixed
    → desk_off h old.fixed.stock old.fixed.builders [] ≡ resting new
book-is old new h now same =
    λ j. resting (record { history = sym now j; fixed = sym same j; tries = new.tries })

pub up-seen : (w : WorldView) (old : BookModel) → Sees w (resting old)
    → ascending (keys_of old.history.opening) ≡ true
up-seen w old sees =
    ap (λ (h : History). ascending (keys_of h.opening)) (sym sees.history) ∙ sees.sound.rising

-- no move, and nothing changed
pub idle-on : (old new : BookModel) → new ≡ old → Leads (resting old) [] (resting new)
idle-on old new same = leads-none (resting old) (resting new) (ap resting (sym same))

-- the moves of a call, which are what the desk did at the board, lead from book to book
pub record Moved (old new : BookModel) (Are : List Move → Type 0) : Type 0 where
  pub moves : List Move
  pub are : Are moves
  pub made : AreMade old new moves
  pub leads : Leads (resting old) moves (resting new)

-- so they lead on from each world that the book sees
pub moved-on : (w : WorldView) (old new : BookModel) (Are : List Move → Type 0)
    → Sees w (resting old) → Moved old new Are
    → (moves : List Move) × Are moves × AreMade old new moves
    × LeadsOn w (resting old) moves (resting new)
moved-on w old new Are sees m =
    (m.moves, m.are, m.made, leads-on w (resting old) (resting new) m.moves sees m.leads)

pub off-rise : (kind : Kind) (keys : List Key) → ascending keys ≡ true
    → ascending (off_for kind keys) ≡ true
off-rise kind keys rise =
    elim (cells kind).state as (λ b. ascending (if b then keys else []) ≡ true) [
      | true ↦ rise
      | false ↦ refl
    ]
