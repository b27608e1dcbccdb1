-- The list of the rows on offer, as rows are offered and taken back.
use Rattle.std.proofs.Common.{arith, ◌≡◌, ◌≢◌, ℕ, zero, suc, ◌+◌, ◌-◌, ◌<◌, ◌≤◌, ◌==◌, Bool, true}
use Rattle.std.proofs.Common.{false, not, ◌||◌, List, [], ◌∷◌, ◌++◌, length, filter, replicate}
use Rattle.std.proofs.Common.{cond, get_or, set, length-set, true≢false, eq-eqb, ne_eqb, ⊎_elim}
use Rattle.std.proofs.Common.{refl, ap, sym, subst, ◌∙◌}
use mathlib.Core.Option.{some, some-injective, some-ne-none}
use lib.ListN.{get_elem?}
use Rattle.std.specs.Prelude.{slice_index, MatchBool}
use Rattle.std.specs.List.{Contains, range_with_len, swap_remove}
use Rattle.std.specs.List.Sorted.{IsPermutation}
use Rattle.std.proofs.lemmas.Bool.{cases_lt}
use Rattle.std.proofs.lemmas.Bool.Decides.{eqb_tells, nat_tests}
use Rattle.std.proofs.lemmas.List.{get_or-set_other, get_or-set_same, get_or_append_left}
use Rattle.std.proofs.lemmas.List.{get_or_default, get_or_push, length_push}
use Rattle.std.proofs.lemmas.List.FromFn.{length-range_with_len}
use Rattle.std.proofs.lemmas.List.Sorted.{length_permutation}
use Rattle.std.proofs.lemmas.List.Sums.{count_by-le-length, length-filter}
use Rattle.std.proofs.Math.Bool.{or-true}
use Rattle.td_board.specs.declared.views.RowView.{RowView}
use Rattle.td_board.specs.declared.views.RowView.TheVariants.{In, Out, Seen, Known}
use Rattle.td_board.specs.declared.desk.Withdrawal.{Withdrawal}
use Rattle.td_board.specs.declared.desk.Withdrawal.TheVariants.{Withdrawn, Held}
use Rattle.td_board.specs.Answers.{Withdraws}
use Rattle.td_board.specs.Seats.{DeskModel}
use Rattle.td_board.proofs.Lists.{at_less}
use Rattle.td_rows.specs.declared.state.State.{State}
use Rattle.td_rows.specs.declared.state.State.TheVariants.{NeedsBuild}
use Rattle.td_rows.specs.States.{is_queued}
use Rattle.td_rows.specs.Table.{Table}
use Rattle.td_book.specs.Ready.{is_any_queued, is_queued_no, queued_in}
use Rattle.td_book.specs.Seen.{known_as, seen_off}
use Rattle.td_book.specs.inner.OutRows.{IsListed, is_any_out, is_out_no, is_out_view, outs_of}
use Rattle.td_book.specs.inner.OutRows.{times_in}
use Rattle.td_book.proofs.Seeing.{length-seen_off}
use Rattle.td_book.proofs.Times.{permutation-times_in, place_in, times_in-at, times_in-filter}
use Rattle.td_book.proofs.Times.{times_in-filter_above, times_in-push_other, times_in-push_same}
use Rattle.td_book.proofs.Times.{times_in-swap_remove}

-- what the desk knows of a row, seen through what contracts see of its seat
pub row_seen : (m now : DeskModel) (i : ℕ) (v : RowView) → m ≡ now
    → get_elem? now.desk.rows i ≡ some v → get_elem? m.desk.rows i ≡ some v
row_seen m now i v same known =
    subst (λ (x : DeskModel). get_elem? x.desk.rows i ≡ some v) (sym same) known

-- ---- 1. whether a row is on offer

abbrev once_if : Bool → ℕ
once_if b = cond b 1 0

is_out_no-at : (view : List RowView) (r : ℕ) (x : RowView) → get_elem? view r ≡ some x
    → is_out_no view r ≡ is_out_view x
is_out_no-at [] r x e = absurd (some-ne-none x (sym e))
is_out_no-at (y ∷ ys) zero x e = ap is_out_view (some-injective y x e)
is_out_no-at (y ∷ ys) (suc r) x e = is_out_no-at ys r x e

is_out_no-set : (view : List RowView) (r : ℕ) (x : RowView) → r < length view
    → is_out_no (set view r x) r ≡ is_out_view x
is_out_no-set [] r x lt = absurd (omega arith)
is_out_no-set (y ∷ ys) zero x lt = refl
is_out_no-set (y ∷ ys) (suc r) x lt = is_out_no-set ys r x (omega arith)

is_out_no-set_other : (view : List RowView) (r n : ℕ) (x : RowView) → n ≢ r
    → is_out_no (set view r x) n ≡ is_out_no view n
is_out_no-set_other [] r n x apart = refl
is_out_no-set_other (y ∷ ys) zero zero x apart = absurd (apart refl)
is_out_no-set_other (y ∷ ys) zero (suc n) x apart = refl
is_out_no-set_other (y ∷ ys) (suc r) zero x apart = refl
is_out_no-set_other (y ∷ ys) (suc r) (suc n) x apart =
    is_out_no-set_other ys r n x (λ e. apart (ap suc e))

is_out_no-below : (view : List RowView) (n : ℕ) → is_out_no view n ≡ true → n < length view
is_out_no-below [] n e = absurd (true≢false (sym e))
is_out_no-below (y ∷ ys) zero e = omega arith
is_out_no-below (y ∷ ys) (suc n) e = let h = is_out_no-below ys n e in omega arith

is_out_no-beyond : (view : List RowView) (n : ℕ) → length view ≤ n → is_out_no view n ≡ false
is_out_no-beyond [] n le = refl
is_out_no-beyond (y ∷ ys) zero le = absurd (omega arith)
is_out_no-beyond (y ∷ ys) (suc n) le = is_out_no-beyond ys n (omega arith)

pub is_out_no-new : (rows n : ℕ) → is_out_no (replicate rows In) n ≡ false
is_out_no-new zero n = refl
is_out_no-new (suc rows) zero = refl
is_out_no-new (suc rows) (suc n) = is_out_no-new rows n

once_true : (b : Bool) → 1 ≤ cond b 1 0 → b ≡ true
once_true true least = refl
once_true false least = absurd (omega arith)

-- ---- 2. what the list says

-- a list for other names of the same
pub listed_as : (view view' : List RowView) (outs outs' places places' : List ℕ) (room room' : ℕ)
    → view' ≡ view → outs' ≡ outs → places' ≡ places → room' ≡ room
    → IsListed view outs places room → IsListed view' outs' places' room'
listed_as view view' outs outs' places places' room room' v o p r h =
    subst (λ x. IsListed x outs' places' room') (sym v)
    (subst (λ x. IsListed view x places' room') (sym o)
    (subst (λ x. IsListed view outs x room') (sym p)
    (subst (λ x. IsListed view outs places x) (sym r) h)))

-- each number in the list is of a row
pub listed-below : (view : List RowView) (outs places : List ℕ) (room i : ℕ)
    → IsListed view outs places room → i < length outs → slice_index outs i < length view
listed-below view outs places room i h lt =
    let n : ℕ = slice_index outs i in
    let least : 1 ≤ times_in outs n = times_in-at outs i 0 lt in
    let is : times_in outs n ≡ cond (is_out_no view n) 1 0 = h.once n in
    is_out_no-below view n (once_true (is_out_no view n) (omega arith))

-- a row on offer stands at its place
pub listed-place : (view : List RowView) (outs places : List ℕ) (room r : ℕ)
    → IsListed view outs places room → get_elem? view r ≡ some Out
    → (slice_index places r < length outs) × (slice_index outs (slice_index places r) ≡ r)
listed-place view outs places room r h known =
    let one : times_in outs r ≡ 1 = h.once r ∙ ap once_if (is_out_no-at view r Out known) in
    let at : Contains outs r = place_in outs r (omega arith) in
    let here : slice_index outs at.0 ≡ r = get_or_default outs at.0 0 r at.1 ∙ at.2 in
    let place : slice_index places r ≡ at.0 =
    ap (slice_index places) (sym here) ∙ h.placed at.0 at.1 in
    (subst (λ k. k < length outs) (sym place) at.1, ap (slice_index outs) place ∙ here)

-- the rows on offer
pub listed-all : (view : List RowView) (outs places : List ℕ) (room : ℕ)
    → IsListed view outs places room → IsPermutation (outs_of view) outs
listed-all view outs places room h = permutation-times_in (outs_of view) outs (λ n. ⊎_elim
    (λ lt. times_in-filter (is_out_no view) (length view) n lt ∙ sym (h.once n))
    (λ le. times_in-filter_above (is_out_no view) (length view) n le
    ∙ sym (h.once n ∙ ap once_if (is_out_no-beyond view n le)))
    (cases_lt n (length view)))

is_any_out-none : (view : List RowView) → ((n : ℕ) → is_out_no view n ≡ false)
    → is_any_out view ≡ false
is_any_out-none [] none = refl
is_any_out-none (x ∷ xs) none = (λ j. none zero j || is_any_out-none xs (λ n. none (suc n)) j)

is_any_out-at : (view : List RowView) (n : ℕ) → is_out_no view n ≡ true → is_any_out view ≡ true
is_any_out-at [] n e = absurd (true≢false (sym e))
is_any_out-at (x ∷ xs) zero e = ap (λ b. b || is_any_out xs) e
is_any_out-at (x ∷ xs) (suc n) e =
    ap (λ b. is_out_view x || b) (is_any_out-at xs n e) ∙ or-true (is_out_view x)

-- whether the list has any
pub listed-any : (view : List RowView) (outs places : List ℕ) (room : ℕ)
    → IsListed view outs places room → not (length outs == 0) ≡ is_any_out view
listed-any view [] places room h =
    sym (is_any_out-none view (λ n. none_if (is_out_no view n) (h.once n)))
  where
    none_if : (b : Bool) → ◌≡◌ {A = ℕ} 0 (cond b 1 0) → b ≡ false
    none_if true e = absurd (omega (arith, e))
    none_if false e = refl
listed-any view (x ∷ xs) places room h =
    let least : 1 ≤ times_in (x ∷ xs) x = times_in-at (x ∷ xs) 0 x (omega arith) in
    let is : times_in (x ∷ xs) x ≡ cond (is_out_no view x) 1 0 = h.once x in
    let some : (length (x ∷ xs) == 0) ≡ false = grind (arith, nat_tests) in
    ap not some ∙ sym (is_any_out-at view x (once_true (is_out_no view x) (omega arith)))

few_outs : (view : List RowView) → length (outs_of view) ≤ length view
few_outs view =
    let p : ℕ → Bool = is_out_no view in
    let all : List ℕ = range_with_len 0 (length view) in
    let count = length-filter p all in
    let most = count_by-le-length p all in
    let long = length-range_with_len 0 (length view) in
    omega arith

-- a row has its place
pub listed-within : (view : List RowView) (outs places : List ℕ) (room r : ℕ) (x : RowView)
    → IsListed view outs places room → get_elem? view r ≡ some x → r < length places
listed-within view outs places room r x h known =
    subst (λ n. r < n) (sym h.long) (at_less view r x known)

-- ---- 3. a row that is no offer before and after

pub listed-kept : (view view' : List RowView) (outs places : List ℕ) (room r : ℕ) (x y : RowView)
    → view' ≡ set view r y → get_elem? view r ≡ some x
    → is_out_view x ≡ false → is_out_view y ≡ false → IsListed view outs places room
    → IsListed view' outs places room
listed-kept view view' outs places room r x y is known no_more no_less h =
    let within : r < length view = at_less view r x known in
    let new : IsListed (set view r y) outs places room = record {
      once = λ n. ⊎_elim
          (λ t. h.once n ∙ ap once_if
          (ap (is_out_no view) t.1 ∙ is_out_no-at view r x known ∙ no_more ∙ sym no_less
          ∙ sym (is_out_no-set view r y within) ∙ ap (is_out_no (set view r y)) (sym t.1)))
          (λ t. h.once n ∙ ap once_if (sym (is_out_no-set_other view r n y t.1)))
          (eqb_tells n r);
      placed = h.placed;
      long = h.long ∙ sym (length-set view r y);
      roomy = subst (λ k. k ≤ room) (sym (length-set view r y)) h.roomy;
    } in
    subst (λ v. IsListed v outs places room) (sym is) new

-- a row that was settled, or not
pub listed-settled : (b : Bool) (old closed kept new : DeskModel) (outs places : List ℕ)
    (room r by : ℕ)
    → closed.desk.rows ≡ set old.desk.rows r In → kept.desk.rows ≡ old.desk.rows
    → MatchBool b (new ≡ closed) (new ≡ kept)
    → get_elem? old.desk.rows r ≡ some (Known by) → IsListed old.desk.rows outs places room
    → IsListed new.desk.rows outs places room
listed-settled true old closed kept new outs places room r by is same now known h =
    listed-kept old.desk.rows new.desk.rows outs places room r (Known by) In
    (ap (λ (m : DeskModel). m.desk.rows) now ∙ is) known refl refl h
listed-settled false old closed kept new outs places room r by is same now known h =
    subst (λ (m : DeskModel). IsListed m.desk.rows outs places room) (sym now)
    (subst (λ v. IsListed v outs places room) (sym same) h)

-- a row that was taken back, or that a builder had won
pub withdrawn_rows : (w : Withdrawal) (r : ℕ) (old new : DeskModel) → Withdraws r old new w
    → (x : RowView) × (is_out_view x ≡ false) × (new.desk.rows ≡ set old.desk.rows r x)
withdrawn_rows Withdrawn r old new now = (In, refl, ap (λ (m : DeskModel). m.desk.rows) now)
withdrawn_rows (Held b) r old new now = (Seen b, refl, ap (λ (m : DeskModel). m.desk.rows) now.2)

-- ---- 4. a row is offered

module _ (view : List RowView) (outs places : List ℕ) (room r : ℕ)
    (h : IsListed view outs places room) (known : get_elem? view r ≡ some In) where
  unlisted : times_in outs r ≡ 0
  unlisted = h.once r ∙ ap once_if (is_out_no-at view r In known)

  offered-once : (n : ℕ) → times_in (outs ++ r ∷ []) n ≡ cond (is_out_no (set view r Out) n) 1 0
  offered-once n = ⊎_elim
      (λ t. subst (λ k. times_in (outs ++ r ∷ []) k ≡ cond (is_out_no (set view r Out) k) 1 0)
      (sym t.1)
      (times_in-push_same outs r ∙ ap (λ k. k + 1) unlisted
      ∙ sym (ap once_if (is_out_no-set view r Out (at_less view r In known)))))
      (λ t. times_in-push_other outs n r (λ e. t.1 (sym e)) ∙ h.once n
      ∙ ap once_if (sym (is_out_no-set_other view r n Out t.1)))
      (eqb_tells n r)

  offered-placed : (i : ℕ) → i < length (outs ++ r ∷ [])
      → slice_index (set places r (length outs)) (slice_index (outs ++ r ∷ []) i) ≡ i
  offered-placed i lt = ⊎_elim
      (λ below.
      let old : slice_index (outs ++ r ∷ []) i ≡ slice_index outs i =
      get_or_append_left outs (r ∷ []) 0 i below in
      let least : 1 ≤ times_in outs (slice_index outs i) = times_in-at outs i 0 below in
      let apart : slice_index outs i ≢ r =
      λ e. let none : times_in outs (slice_index outs i) ≡ 0 = ap (times_in outs) e ∙ unlisted in
      absurd (omega arith) in
      ap (slice_index (set places r (length outs))) old
      ∙ get_or-set_other places r (slice_index outs i) (length outs) 0 apart ∙ h.placed i below)
      (λ past.
      let many : length (outs ++ r ∷ []) ≡ length outs + 1 = length_push outs r in
      let last : i ≡ length outs = omega arith in
      let here : slice_index (outs ++ r ∷ []) i ≡ r = get_or_push outs r 0 i (sym last) in
      let within : r < length places = subst (λ k. r < k) (sym h.long) (at_less view r In known) in
      ap (slice_index (set places r (length outs))) here
      ∙ get_or-set_same places r (length outs) 0 within ∙ sym last)
      (cases_lt i (length outs))

  pub listed-offered : IsListed (set view r Out) (outs ++ r ∷ []) (set places r (length outs)) room
  listed-offered = record {
    once = offered-once;
    placed = offered-placed;
    long = length-set places r (length outs) ∙ h.long ∙ sym (length-set view r Out);
    roomy = subst (λ k. k ≤ room) (sym (length-set view r Out)) h.roomy;
  }

  -- there is room for it
  pub listed-room : length outs < room
  listed-room =
      let all : length (outs ++ r ∷ []) ≡ length (outs_of (set view r Out)) =
      length_permutation _ _
      (listed-all (set view r Out) (outs ++ r ∷ []) (set places r (length outs)) room
      listed-offered) in
      let many : length (outs ++ r ∷ []) ≡ length outs + 1 = length_push outs r in
      let few : length (outs_of (set view r Out)) ≤ length (set view r Out) =
      few_outs (set view r Out) in
      let same : length (set view r Out) ≡ length view = length-set view r Out in
      let roomy : length view ≤ room = h.roomy in
      omega arith

-- ---- 5. a row is taken back

module _ (view : List RowView) (outs places : List ℕ) (room r : ℕ) (x : RowView)
    (h : IsListed view outs places room) (known : get_elem? view r ≡ some Out)
    (no_more : is_out_view x ≡ false) where
  taken-once : (d n : ℕ)
      → times_in (swap_remove outs (slice_index places r) d) n
      ≡ cond (is_out_no (set view r x) n) 1 0
  taken-once d n =
      let at = listed-place view outs places room r h known in
      let here : get_or outs (slice_index places r) d ≡ r =
      get_or_default outs (slice_index places r) d 0 at.0 ∙ at.1 in
      let left : times_in (swap_remove outs (slice_index places r) d) n
      + cond (get_or outs (slice_index places r) d == n) 1 0 ≡ times_in outs n =
      times_in-swap_remove outs (slice_index places r) d n at.0 in
      let same : ◌≡◌ {A = ℕ} (cond (get_or outs (slice_index places r) d == n) 1 0)
      (cond (r == n) 1 0) = ap (λ (k : ℕ). once_if (k == n)) here in
      let was : times_in outs n ≡ cond (is_out_no view n) 1 0 = h.once n in
      ⊎_elim
      (λ t.
      let hit : cond (r == n) 1 0 ≡ 1 = ap once_if (eq-eqb r n (sym t.1)) in
      let one : cond (is_out_no view n) 1 0 ≡ 1 =
      ap once_if (ap (is_out_no view) t.1 ∙ is_out_no-at view r Out known) in
      let none : cond (is_out_no (set view r x) n) 1 0 ≡ 0 =
      ap once_if (ap (is_out_no (set view r x)) t.1
      ∙ is_out_no-set view r x (at_less view r Out known) ∙ no_more) in
      omega arith)
      (λ t.
      let miss : cond (r == n) 1 0 ≡ 0 = ap once_if (ne_eqb r n (λ e. t.1 (sym e))) in
      let stays : ◌≡◌ {A = ℕ} (cond (is_out_no (set view r x) n) 1 0)
      (cond (is_out_no view n) 1 0) = ap once_if (is_out_no-set_other view r n x t.1) in
      omega arith)
      (eqb_tells n r)

  -- the last of the list has its place, and each other one the place that it had
  taken-placed : (left : List ℕ) → length left + 1 ≡ length outs
      → ((d : ℕ) → slice_index places r + 1 < length outs
      → get_or left (slice_index places r) d ≡ get_or outs (length outs - 1) d)
      → ((k d : ℕ) → k ≢ slice_index places r → k + 1 < length outs
      → get_or left k d ≡ get_or outs k d)
      → (i : ℕ) → i < length left
      → slice_index (set places (slice_index outs (length outs - 1)) (slice_index places r))
      (slice_index left i) ≡ i
  taken-placed left many moved others i lt =
      let place : ℕ = slice_index places r in
      let last : ℕ = slice_index outs (length outs - 1) in
      let end : length outs - 1 < length outs = omega arith in
      let within : last < length places =
      subst (λ k. last < k) (sym h.long)
      (listed-below view outs places room (length outs - 1) h end) in
      ⊎_elim
      (λ t.
      let is : i ≡ place = t.1 in
      let below : place + 1 < length outs = subst (λ k. k + 1 < length outs) is (omega arith) in
      let here : slice_index left i ≡ last = ap (slice_index left) is ∙ moved 0 below in
      ap (slice_index (set places last place)) here ∙ get_or-set_same places last place 0 within
      ∙ sym is)
      (λ t.
      let below : i + 1 < length outs = omega arith in
      let old : slice_index left i ≡ slice_index outs i = others i 0 t.1 below in
      let at_i : slice_index places (slice_index outs i) ≡ i = h.placed i (omega arith) in
      let at_end : slice_index places last ≡ length outs - 1 = h.placed (length outs - 1) end in
      let apart : slice_index outs i ≢ last =
      λ e. let one : slice_index places (slice_index outs i) ≡ slice_index places last =
      ap (slice_index places) e in absurd (omega arith) in
      ap (slice_index (set places last place)) old
      ∙ get_or-set_other places last (slice_index outs i) place 0 apart ∙ at_i)
      (eqb_tells i place)

  pub listed-taken : (left : List ℕ) (d : ℕ) → left ≡ swap_remove outs (slice_index places r) d
      → length left + 1 ≡ length outs
      → ((d : ℕ) → slice_index places r + 1 < length outs
      → get_or left (slice_index places r) d ≡ get_or outs (length outs - 1) d)
      → ((k d : ℕ) → k ≢ slice_index places r → k + 1 < length outs
      → get_or left k d ≡ get_or outs k d)
      → IsListed (set view r x) left
      (set places (slice_index outs (length outs - 1)) (slice_index places r)) room
  listed-taken left d is many moved others = record {
    once = λ n. ap (λ xs. times_in xs n) is ∙ taken-once d n;
    placed = taken-placed left many moved others;
    long = length-set places (slice_index outs (length outs - 1)) (slice_index places r) ∙ h.long
        ∙ sym (length-set view r x);
    roomy = subst (λ k. k ≤ room) (sym (length-set view r x)) h.roomy;
  }

-- ---- 6. a book at rest

known_queued : (s : State) → is_out_view (known_as s) ≡ is_queued s
known_queued NeedsBuild = refl
known_queued s = refl

is_out_no-rest : (t : Table) (i : ℕ) → is_out_no (seen_off [] t) i ≡ is_queued_no t i
is_out_no-rest [] i = refl
is_out_no-rest (p ∷ t) zero = known_queued p.1.state
is_out_no-rest (p ∷ t) (suc i) = is_out_no-rest t i

-- the rows on offer are those that need a build
pub outs_of-rest : (t : Table) → outs_of (seen_off [] t) ≡ queued_in t
outs_of-rest t = λ j. filter (λ i. is_out_no-rest t i j) (range_with_len 0 (length-seen_off [] t j))

-- whether any row is on offer is whether any needs a build
pub is_any_out-rest : (t : Table) → is_any_out (seen_off [] t) ≡ is_any_queued t
is_any_out-rest [] = refl
is_any_out-rest (p ∷ t) = (λ j. known_queued p.1.state j || is_any_out-rest t j)
