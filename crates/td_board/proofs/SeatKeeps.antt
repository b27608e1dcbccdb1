-- Each step keeps what the seats' types say.
use Rattle.std.proofs.Common.{◌≡◌, ◌≢◌, ℕ, zero, suc, ◌+◌, ◌-◌, ◌*◌, ◌/◌, ◌<◌, ◌≤◌, List, [], ◌∷◌}
use Rattle.std.proofs.Common.{◌++◌, zero-add, length, replicate, set, sym, refl, ap, ◌∙◌, subst}
use Rattle.std.proofs.Common.{⊎_elim, arith, length-set, get_or-set_other}
use Rattle.std.proofs.Common.{get_or-set_same}
use Rattle.std.specs.Prelude.{slice_index}
use mathlib.Core.Logic.{dite}
use mathlib.Core.Option.{some, some-injective, some-ne-none}
use native.Mathlib.Decide.{ℕ_discrete}
use lib.ListN.{get_elem?, length-replicate}
use Rattle.atomic_table.specs.Seated.{TableId}
use Rattle.atomic_table.proofs.Lists.{at_set}
use Rattle.td_board.specs.Limits.{max_rows, max_builders}
use Rattle.td_board.specs.declared.outcome.OutcomeCode.{OutcomeCode}
use Rattle.td_board.specs.declared.views.RowView.{RowView}
use Rattle.td_board.specs.declared.views.RowView.TheVariants.{In, Out, Seen, Known}
use Rattle.td_board.specs.declared.views.Deed.{Deed}
use Rattle.td_board.specs.declared.views.DeskTry.{DeskTry}
use Rattle.td_board.specs.declared.views.BuilderTry.{BuilderTry}
use Rattle.td_board.specs.declared.views.Hand.{Hand}
use Rattle.td_board.specs.declared.views.Hand.TheVariants.{Holding, Finished}
use Rattle.td_board.specs.declared.views.DeskView.{DeskView}
use Rattle.td_board.specs.declared.views.BuilderView.{BuilderView}
use Rattle.td_board.specs.Knowledge.{new_desk, with_row, with_deed, noted_of}
use Rattle.td_board.specs.Knowledge.{holder_at, desk_tried, builder_tried}
use Rattle.td_board.specs.Tells.{SeatState, at_desk, at_builder, desk_in, builder_in}
use Rattle.td_board.specs.Seats.{IsDesk, IsBuilder, HasRow, rows_of, new_seat}
use Rattle.td_board.specs.Seats.{new_seats, DeskModel, BoardModel, BuilderModel}
use Rattle.td_board.proofs.Lists.{at_less, at_replicate}

-- the builder of a row's view, or n
abbrev pub name_or : ℕ → RowView → ℕ
name_or n In = n
name_or n Out = n
name_or n (Seen b) = b
name_or n (Known b) = b

-- a row that the desk knows has a word in the table
pub row_inside : (z : TableId) (d : DeskView) (hs : List ℕ) (bs r : ℕ) (x : RowView)
    → IsDesk z d hs bs → get_elem? d.rows r ≡ some x → r + 1 < z.words
row_inside z d hs bs r x is at = let w = is.words in let h = at_less d.rows r x at in omega arith

-- what is known of the row names no builder, or the one in the list
pub keeps_row : (z : TableId) (d d' : DeskView) (hs : List ℕ) (bs r : ℕ) (x : RowView)
    → IsDesk z d hs bs → d'.rows ≡ set d.rows r x → length d'.noted ≡ length d.noted
    → ((b : ℕ) → x ≡ Seen b → slice_index hs r ≡ b) → ((b : ℕ) → x ≡ Known b → slice_index hs r ≡ b)
    → ((b : ℕ) → x ≡ Seen b → (0 < b) × (b ≤ length d.noted))
    → ((b : ℕ) → x ≡ Known b → (0 < b) × (b ≤ length d.noted)) → IsDesk z d' hs bs
keeps_row z d d' hs bs r x is rows noted seen known some_seen some_known = record {
  words = is.words ∙ ap (λ n. n + 1) (sym (ap length rows ∙ length-set d.rows r x));
  size = subst (λ n. n ≤ max_rows) (sym (ap length rows ∙ length-set d.rows r x)) is.size;
  long = is.long ∙ sym (ap length rows ∙ length-set d.rows r x);
  small = is.small;
  count = is.count ∙ sym noted;
  few = is.few;
  seen = λ q b e. ⊎_elim
      (λ (t : (q ≡ r) × (x ≡ Seen b)). ap (slice_index hs) t.0 ∙ seen b t.1)
      (λ (t : (q ≢ r) × (get_elem? d.rows q ≡ some (Seen b))). is.seen q b t.1)
      (at_set d.rows r q x (Seen b) (sym (ap (λ l. get_elem? l q) rows) ∙ e));
  known = λ q b e. ⊎_elim
      (λ (t : (q ≡ r) × (x ≡ Known b)). ap (slice_index hs) t.0 ∙ known b t.1)
      (λ (t : (q ≢ r) × (get_elem? d.rows q ≡ some (Known b))). is.known q b t.1)
      (at_set d.rows r q x (Known b) (sym (ap (λ l. get_elem? l q) rows) ∙ e));
  seated = record {
    seen = λ q b e. subst (λ n. (0 < b) × (b ≤ n)) (sym noted) (⊎_elim
        (λ (t : (q ≡ r) × (x ≡ Seen b)). some_seen b t.1)
        (λ (t : (q ≢ r) × (get_elem? d.rows q ≡ some (Seen b))). is.seated.seen q b t.1)
        (at_set d.rows r q x (Seen b) (sym (ap (λ l. get_elem? l q) rows) ∙ e)));
    known = λ q b e. subst (λ n. (0 < b) × (b ≤ n)) (sym noted) (⊎_elim
        (λ (t : (q ≡ r) × (x ≡ Known b)). some_known b t.1)
        (λ (t : (q ≢ r) × (get_elem? d.rows q ≡ some (Known b))). is.seated.known q b t.1)
        (at_set d.rows r q x (Known b) (sym (ap (λ l. get_elem? l q) rows) ∙ e)));
  };
}

-- the row is In again
pub keeps_in : (z : TableId) (d : DeskView) (hs : List ℕ) (bs r : ℕ) → IsDesk z d hs bs
    → IsDesk z (with_row r In d) hs bs
keeps_in z d hs bs r is =
    keeps_row z d (with_row r In d) hs bs r In is refl refl (λ b e. absurd (cc))
    (λ b e. absurd (cc)) (λ b e. absurd (cc)) (λ b e. absurd (cc))

-- the row is Out
pub keeps_out : (z : TableId) (d : DeskView) (hs : List ℕ) (bs r : ℕ) → IsDesk z d hs bs
    → IsDesk z (with_row r Out d) hs bs
keeps_out z d hs bs r is =
    keeps_row z d (with_row r Out d) hs bs r Out is refl refl (λ b e. absurd (cc))
    (λ b e. absurd (cc)) (λ b e. absurd (cc)) (λ b e. absurd (cc))

-- the list takes the builder that the row names from now on
pub keeps_seen : (z : TableId) (d : DeskView) (hs : List ℕ) (bs r b : ℕ) → IsDesk z d hs bs
    → r < length d.rows → b ≤ max_builders → 0 < b → b ≤ length d.noted
    → IsDesk z (with_row r (Seen b) d) (set hs r b) bs
keeps_seen z d hs bs r b is inside small low high =
    let long = is.long in
    let here : slice_index (set hs r b) r ≡ b = get_or-set_same hs r b 0 (omega arith) in
    let else : (q : ℕ) → q ≢ r → slice_index (set hs r b) q ≡ slice_index hs q =
    λ q ne. get_or-set_other hs r q b 0 ne in
    record {
      words = is.words ∙ ap (λ n. n + 1) (sym (length-set d.rows r (Seen b)));
      size = subst (λ n. n ≤ max_rows) (sym (length-set d.rows r (Seen b))) is.size;
      long = length-set hs r b ∙ (is.long ∙ sym (length-set d.rows r (Seen b)));
      small = λ q. dite (ℕ_discrete q r)
          (λ e. subst (λ n. n ≤ max_builders) (sym (ap (slice_index (set hs r b)) e ∙ here)) small)
          (λ ne. subst (λ n. n ≤ max_builders) (sym (else q ne)) (is.small q));
      count = is.count;
      few = is.few;
      seen = λ q c e. ⊎_elim
          (λ (t : (q ≡ r) × (Seen b ≡ Seen c)).
          ap (slice_index (set hs r b)) t.0 ∙ (here ∙ ap (name_or 0) t.1))
          (λ (t : (q ≢ r) × (get_elem? d.rows q ≡ some (Seen c))). else q t.0 ∙ is.seen q c t.1)
          (at_set d.rows r q (Seen b) (Seen c) e);
      known = λ q c e. ⊎_elim
          (λ (t : (q ≡ r) × (Seen b ≡ Known c)). absurd (let no : Seen b ≡ Known c = t.1 in cc))
          (λ (t : (q ≢ r) × (get_elem? d.rows q ≡ some (Known c))). else q t.0 ∙ is.known q c t.1)
          (at_set d.rows r q (Seen b) (Known c) e);
      seated = record {
        seen = λ q c e. ⊎_elim
            (λ (t : (q ≡ r) × (Seen b ≡ Seen c)).
            subst (λ n. (0 < n) × (n ≤ length d.noted)) (ap (name_or 0) t.1) (low, high))
            (λ (t : (q ≢ r) × (get_elem? d.rows q ≡ some (Seen c))). is.seated.seen q c t.1)
            (at_set d.rows r q (Seen b) (Seen c) e);
        known = λ q c e. ⊎_elim
            (λ (t : (q ≡ r) × (Seen b ≡ Known c)). absurd (let no : Seen b ≡ Known c = t.1 in cc))
            (λ (t : (q ≢ r) × (get_elem? d.rows q ≡ some (Known c))). is.seated.known q c t.1)
            (at_set d.rows r q (Seen b) (Known c) e);
      };
    }

-- a claim is noted
pub keeps_note : (z : TableId) (d : DeskView) (hs : List ℕ) (bs r b : ℕ) (e : Deed)
    → IsDesk z d hs bs → slice_index hs r ≡ b → 0 < b → b ≤ length d.noted
    → IsDesk z (with_deed b e (with_row r (Known b) d)) hs bs
keeps_note z d hs bs r b e is at low high =
    keeps_row z d (with_deed b e (with_row r (Known b) d)) hs bs r (Known b) is refl
    (length-set d.noted (b - 1) (noted_of d b ++ e ∷ [])) (λ c h. absurd (cc))
    (λ c h. at ∙ ap (name_or 0) h)
    (λ c h. absurd (cc))
    (λ c h. subst (λ n. (0 < n) × (n ≤ length d.noted)) (ap (name_or 0) h) (low, high))

-- an outcome is noted
pub keeps_settling : (z : TableId) (d : DeskView) (hs : List ℕ) (bs r b : ℕ) (e : Deed)
    → IsDesk z d hs bs → IsDesk z (with_deed b e (with_row r In d)) hs bs
keeps_settling z d hs bs r b e is =
    keeps_row z d (with_deed b e (with_row r In d)) hs bs r In is refl
    (length-set d.noted (b - 1) (noted_of d b ++ e ∷ [])) (λ c h. absurd (cc)) (λ c h. absurd (cc))
    (λ c h. absurd (cc)) (λ c h. absurd (cc))

-- a try is told
pub keeps_try : (z : TableId) (d : DeskView) (hs : List ℕ) (bs : ℕ) (e : DeskTry)
    → IsDesk z d hs bs → IsDesk z (desk_tried e d) hs bs
keeps_try z d hs bs e is = record {
  words = is.words;
  size = is.size;
  long = is.long;
  small = is.small;
  count = is.count;
  few = is.few;
  seen = is.seen;
  known = is.known;
  seated = record { seen = is.seated.seen; known = is.seated.known };
}

-- a builder's is
pub keeps_builder_try : (z : TableId) (v : BuilderView) (number : ℕ) (hand : Hand) (e : BuilderTry)
    → IsBuilder z v number hand → IsBuilder z (builder_tried e v) number hand
keeps_builder_try z v number hand e is = record {
  number_is = is.number_is;
  hand_is = is.hand_is;
  positive = is.positive;
  small = is.small;
  inside = is.inside;
}

-- the desk's seat of a new board
pub keeps_new : (z : TableId) (rows : ℕ) → z.words ≡ rows + 1 → rows ≤ max_rows
    → IsDesk z (new_desk rows 0) (replicate rows 0) 0
keeps_new z rows words few = record {
  words = words ∙ ap (λ n. n + 1) (sym (length-replicate rows In));
  size = subst (λ n. n ≤ max_rows) (sym (length-replicate rows In)) few;
  long = length-replicate rows 0 ∙ sym (length-replicate rows In);
  small = zeros rows;
  count = refl;
  few = omega arith;
  seen = λ q b e. absurd (let no : In ≡ Seen b = at_replicate rows q In (Seen b) e in cc);
  known = λ q b e. absurd (let no : In ≡ Known b = at_replicate rows q In (Known b) e in cc);
  seated = record {
    seen = λ q b e. absurd (let no : In ≡ Seen b = at_replicate rows q In (Seen b) e in cc);
    known = λ q b e. absurd (let no : In ≡ Known b = at_replicate rows q In (Known b) e in cc);
  };
}
  where
    zeros : (n q : ℕ) → slice_index (replicate n 0) q ≤ max_builders
    zeros zero q = omega arith
    zeros (suc n) zero = omega arith
    zeros (suc n) (suc q) = zeros n q

-- the desk's seat after a step
pub desk_after : (me : SeatState) (z z' : TableId) (d : DeskView) (hs : List ℕ) (bs : ℕ)
    → me ≡ at_desk d → z' ≡ z → IsDesk z d hs bs
    → (me ≡ at_desk (desk_in me.0)) × IsDesk z' (desk_in me.0) hs bs
desk_after me z z' d hs bs e same is =
    let is_d : d ≡ desk_in me.0 = sym (ap (λ (m : SeatState). desk_in m.0) e) in (
      e ∙ ap at_desk is_d,
      subst (λ (t : TableId × DeskView). IsDesk t.0 t.1 hs bs) (λ i. (sym same i, is_d i)) is,
    )

-- a builder's seat after a step
pub builder_after : (me : SeatState) (z z' : TableId) (v : BuilderView) (number : ℕ) (hand : Hand)
    → me ≡ at_builder v → z' ≡ z → IsBuilder z v number hand
    → (me ≡ at_builder (builder_in me.0)) × IsBuilder z' (builder_in me.0) number hand
builder_after me z z' v number hand e same is =
    let is_v : v ≡ builder_in me.0 = sym (ap (λ (m : SeatState). builder_in m.0) e) in (
      e ∙ ap at_builder is_v,
      subst (λ (t : TableId × BuilderView). IsBuilder t.0 t.1 number hand)
          (λ i. (sym same i, is_v i)) is,
    )

-- the builder in a word of a held row
pub builder_in_held : (b : ℕ) → (2 + 256 * b) / 256 ≡ b
builder_in_held b = omega arith

-- one seat more
pub new_seats-snoc : (z : TableId) (b n : ℕ)
    → new_seats z b n ++ new_seat z (n + b) ∷ [] ≡ new_seats z b (suc n)
new_seats-snoc z b zero = ap (λ (k : ℕ). new_seat z k ∷ []) (zero-add b)
new_seats-snoc z b (suc n) =
    let e : suc n + b ≡ n + suc b = omega arith in
    ap (λ l. new_seat z b ∷ l)
    (ap (λ (k : ℕ). new_seats z (suc b) n ++ new_seat z k ∷ []) e ∙ new_seats-snoc z (suc b) n)

-- what a call of the desk may use:
-- which seat it is, that the table is the board's, and that the row has a word
pub record DeskUse (z zb : TableId) (me : SeatState) (hs : List ℕ) (row : ℕ)
    (x : RowView) : Type 0 where
  pub here : get_elem? (desk_in me.0).rows row ≡ some x
  pub same : z ≡ zb
  pub inside : row + 1 < zb.words
  pub low : row + 1 ≤ 1048576
  pub less : row < length (desk_in me.0).rows
  pub listed : row < length hs

-- from the desk's seat, the board and what the call requires
pub desk_use : (z zb : TableId) (me : SeatState) (hs : List ℕ) (bs : ℕ) (m : DeskModel)
    (bm : BoardModel) (key rows row : ℕ) (x : RowView)
    → (let v : DeskModel = record { table = z; desk = desk_in me.0 } in v) ≡ m
    → (let v : BoardModel = record { table = zb; rows = rows } in v) ≡ bm
    → (me ≡ at_desk (desk_in me.0)) × IsDesk z (desk_in me.0) hs bs
    → (key ≡ rows) × (zb.words ≡ rows + 1) × (rows ≤ max_rows)
    → m.table ≡ bm.table → get_elem? m.desk.rows row ≡ some x → DeskUse z zb me hs row x
desk_use z zb me hs bs m bm key rows row x is is_b kept sized table at =
    let here : get_elem? (desk_in me.0).rows row ≡ some x =
    subst (λ (v : DeskModel). get_elem? v.desk.rows row ≡ some x) (sym is) at in
    let same : z ≡ zb = ap (λ (v : DeskModel). v.table) is
    ∙ (table ∙ sym (ap (λ (v : BoardModel). v.table) is_b)) in
    let inside : row + 1 < zb.words =
    subst (λ (t : TableId). row + 1 < t.words) same
    (row_inside z (desk_in me.0) hs bs row x kept.1 here) in
    let words : zb.words ≡ rows + 1 = sized.1 in
    let few : rows ≤ 1048576 = sized.2 in
    let long : length hs ≡ length (desk_in me.0).rows = kept.1.long in
    let less : row < length (desk_in me.0).rows = at_less (desk_in me.0).rows row x here in
    record {
      here = here;
      same = same;
      inside = inside;
      low = omega arith;
      less = less;
      listed = omega arith;
    }

-- what a call of a builder may use: that the table is the board's, and that the row has a word
pub record BuilderUse (z zb : TableId) (rows row : ℕ) : Type 0 where
  pub same : z ≡ zb
  pub inside : row + 1 < zb.words
  pub low : row + 1 ≤ 1048576
  pub less : row < rows

-- from the builder's seat, the board and what the call requires
pub builder_use : (z zb : TableId) (b : BuilderView) (m : BuilderModel) (bm : BoardModel)
    (key rows row : ℕ)
    → (let v : BuilderModel = record { table = z; builder = b } in v) ≡ m
    → (let v : BoardModel = record { table = zb; rows = rows } in v) ≡ bm
    → (key ≡ rows) × (zb.words ≡ rows + 1) × (rows ≤ max_rows) → m.table ≡ bm.table
    → row < rows_of z → BuilderUse z zb key row
builder_use z zb b m bm key rows row is is_b sized table at =
    let same : z ≡ zb = ap (λ (v : BuilderModel). v.table) is
    ∙ (table ∙ sym (ap (λ (v : BoardModel). v.table) is_b)) in
    let inside : row < zb.words - 1 = subst (λ (t : TableId). row < t.words - 1) same at in
    let words : zb.words ≡ rows + 1 = sized.1 in
    let few : rows ≤ 1048576 = sized.2 in
    let one : key ≡ rows = sized.0 in
    record { same = same; inside = omega arith; low = omega arith; less = omega arith }

-- the row of a hand is one of the table's
pub holding_inside : (z : TableId) (h : Hand) (r : ℕ) → h ≡ Holding r → HasRow (rows_of z) h
    → r < rows_of z
holding_inside z h r e f =
    let t : HasRow (rows_of z) (Holding r) = subst (HasRow (rows_of z)) e f in t

-- the same of a finished hand
pub finished_inside : (z : TableId) (h : Hand) (r : ℕ) (c : OutcomeCode) → h ≡ Finished r c
    → HasRow (rows_of z) h → r < rows_of z
finished_inside z h r c e f =
    let t : HasRow (rows_of z) (Finished r c) = subst (HasRow (rows_of z)) e f in t

-- the builder that the desk knows to have a row
pub holder_at-known : (xs : List RowView) (r b : ℕ) → get_elem? xs r ≡ some (Known b)
    → holder_at xs r ≡ b
holder_at-known [] r b e = absurd (some-ne-none (Known b) (sym e))
holder_at-known (In ∷ xs) zero b e =
    absurd (let no : In ≡ Known b = some-injective In (Known b) e in cc)
holder_at-known (Out ∷ xs) zero b e =
    absurd (let no : Out ≡ Known b = some-injective Out (Known b) e in cc)
holder_at-known (Seen c ∷ xs) zero b e =
    absurd (let no : Seen c ≡ Known b = some-injective (Seen c) (Known b) e in cc)
holder_at-known (Known c ∷ xs) zero b e = ap (name_or 0) (some-injective (Known c) (Known b) e)
holder_at-known (In ∷ xs) (suc r) b e = holder_at-known xs r b e
holder_at-known (Out ∷ xs) (suc r) b e = holder_at-known xs r b e
holder_at-known (Seen c ∷ xs) (suc r) b e = holder_at-known xs r b e
holder_at-known (Known c ∷ xs) (suc r) b e = holder_at-known xs r b e
