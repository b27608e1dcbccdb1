-- `FileDesk::claimable`: the row that is looked at is the key's.
use Rattle.std.proofs.Common.{◌≡◌, true, ap, refl, subst, sym, ◌∙◌}
use Rattle.std.specs.Prelude.{slice_get}
use Rattle.td_rows.specs.Keys.{ascending}
use Rattle.td_rows.specs.Table.{IsAt, Table, keys_of}
use Rattle.td_core.specs.History.{rows_of}
use Rattle.td_lasting.specs.DeskView.{DeskView}
use Rattle.td_lasting.specs.Hands.{AreInHand, held_by}
use Rattle.td_lasting.proofs.Claimable.{IsRowAt, none_held, row_at, rows_rise, some_held}
use Rattle.td_lasting.proofs.desk.FileDesk.claimable.Goals as goal

pub held-requires-clause-hands : goal.held-requires-clause-hands
held-requires-clause-hands g c =
    subst (λ (t : Table). AreInHand t c.self.inside.hands) (sym c.rows-rows.ensures.rows)
    (c.self.invariant.in_hand (ap (λ (v : DeskView). v.stopped) c.self.view_is
    ∙ c.requires.running))

pub returns-then-is_some-clause-err : goal.returns-then-is_some-clause-err
returns-then-is_some-clause-err g c =
    let k = c.args.key.now in
    let h = c.args.self.now.history in
    let row = c.in-Some-at.row.now in
    let n = c.in-Some.number in
    let rows : c.rows-rows.result.now ≡ rows_of h =
    c.rows-rows.ensures.rows ∙ ap (λ (v : DeskView). rows_of v.history) c.self.view_is in
    let up : ascending (keys_of h.opening) ≡ true =
    ap (λ (v : DeskView). ascending (keys_of v.history.opening)) (sym c.self.view_is)
    ∙ c.rows-rows.ensures.rising in
    let at : IsRowAt (rows_of h) k n row =
    row_at (rows_of h) k c.in-Some-at.field-0-0.now n row (rows_rise h up)
    (subst (λ (t : Table). IsAt t k n) rows c.in-Some.ensures.found)
    (c.in-Some-at.ensures ∙ ap (λ (t : Table). slice_get t n) rows) in (
      row,
      at.found,
      some_held c.held.result (held_by (rows_of h) c.args.builder) c.is_some.result
          (c.held.ensures ∙ ap (λ (t : Table). held_by t c.args.builder) rows) c.is_some.ensures
          c.if-is_some.true,
    )

pub returns-then-applies-clause-ok : goal.returns-then-applies-clause-ok
returns-then-applies-clause-ok g c =
    let k = c.args.key.now in
    let h = c.args.self.now.history in
    let row = c.in-Some-at.row.now in
    let n = c.in-Some.number in
    let rows : c.rows-rows.result.now ≡ rows_of h =
    c.rows-rows.ensures.rows ∙ ap (λ (v : DeskView). rows_of v.history) c.self.view_is in
    let up : ascending (keys_of h.opening) ≡ true =
    ap (λ (v : DeskView). ascending (keys_of v.history.opening)) (sym c.self.view_is)
    ∙ c.rows-rows.ensures.rising in
    let at : IsRowAt (rows_of h) k n row =
    row_at (rows_of h) k c.in-Some-at.field-0-0.now n row (rows_rise h up)
    (subst (λ (t : Table). IsAt t k n) rows c.in-Some.ensures.found)
    (c.in-Some-at.ensures ∙ ap (λ (t : Table). slice_get t n) rows) in
    record {
      row = row;
      at = at.at;
      found = at.found;
      free = none_held c.held.result (held_by (rows_of h) c.args.builder) c.is_some.result
          (c.held.ensures ∙ ap (λ (t : Table). held_by t c.args.builder) rows) c.is_some.ensures
          c.if-is_some.false;
      fit = sym c.applies.ensures ∙ c.if-applies.true;
    }

pub returns-else-applies-clause-err : goal.returns-else-applies-clause-err
returns-else-applies-clause-err g c =
    let k = c.args.key.now in
    let h = c.args.self.now.history in
    let row = c.in-Some-at.row.now in
    let n = c.in-Some.number in
    let rows : c.rows-rows.result.now ≡ rows_of h =
    c.rows-rows.ensures.rows ∙ ap (λ (v : DeskView). rows_of v.history) c.self.view_is in
    let up : ascending (keys_of h.opening) ≡ true =
    ap (λ (v : DeskView). ascending (keys_of v.history.opening)) (sym c.self.view_is)
    ∙ c.rows-rows.ensures.rising in
    let at : IsRowAt (rows_of h) k n row =
    row_at (rows_of h) k c.in-Some-at.field-0-0.now n row (rows_rise h up)
    (subst (λ (t : Table). IsAt t k n) rows c.in-Some.ensures.found)
    (c.in-Some-at.ensures ∙ ap (λ (t : Table). slice_get t n) rows) in (
      row,
      at.found,
      none_held c.held.result (held_by (rows_of h) c.args.builder) c.is_some.result
          (c.held.ensures ∙ ap (λ (t : Table). held_by t c.args.builder) rows) c.is_some.ensures
          c.if-is_some.false,
      sym c.applies.ensures ∙ c.if-applies.false,
      refl,
    )
