-- `Plan::make`: the clause `rows`, its loop and the call of `change`.
use Rattle.std.proofs.Common.{◌≡◌, ℕ, true, false, ap, sym, subst, ◌∙◌, List, [], map, length}
use Rattle.std.proofs.Common.{Option, arith}
use Rattle.std.specs.Prelude.{IfSome}
use Rattle.td_rows.specs.declared.row.Row.{Row}
use Rattle.td_rows.specs.declared.key.Key.{Key}
use Rattle.td_rows.specs.Meaning.{applies}
use Rattle.td_rows.specs.Table.{AppliesOn, applied}
use Rattle.td_rows.proofs.Lists.{empty-below}
use Rattle.td_change.specs.Plans.{Planned, plan_of, left}
use Rattle.td_change.specs.Inside.{numbered}
use Rattle.td_change.proofs.Plans.{Left, Left-start, Left-next, Left-step, Left-end}
use Rattle.td_change.proofs.plan.Plan.make.Goals as goal

pub loop-number-init : goal.loop-number-init
loop-number-init c =
    let inside = c.self.inside in
    let rows = c.args.rows.now in
    let seen : Planned = record { kind = inside.kind; rows = map numbered inside.rows.entries } in
    let same : seen ≡ plan_of seen.kind (left seen) rows =
    subst (λ (p : Planned). p ≡ plan_of p.kind (left p) rows)
    (sym c.self.view_is) c.requires.rows in
    let fit : AppliesOn rows seen.kind (left seen) =
    subst (λ (p : Planned). AppliesOn rows p.kind (left p))
    (sym c.self.view_is) c.requires.applies in
    record {
      far =
          subst (λ (p : Planned).
          Left inside.kind inside.rows.entries rows inside.kept.items (left p) rows) c.self.view_is
          (Left-start inside.kind inside.rows.entries rows inside.kept.items
          c.len-rising.ensures.rising c.self.invariant.rising (ap (λ (p : Planned). p.rows) same)
          c.self.invariant.texts fit c.self.invariant.empty);
      room =
          omega (arith, ap length c.self.invariant.empty, inside.kept.ok.0, c.self.invariant.room);
    }

pub change-requires-clause-applies : goal.change-requires-clause-applies
change-requires-clause-applies c =
    let far = c.loop-number.invariant.far in
    let entries = subst (λ (es : List (Key × (ℕ × Row))).
    Left c.self.inside.kind es c.loop-number.rows c.loop-number.kept.items
    (left c.args.self) c.args.rows.now) c.in-Some.ensures.removal far in
    let next = Left-next c.self.inside.kind c.in-Some.field-0-0 c.in-Some.number c.in-Some.row
    c.pop_first.new.self.entries c.loop-number.rows c.loop-number.kept.items
    (left c.args.self) c.args.rows.now entries in
    subst (λ (o : Option (Key × Row)). IfSome o (λ p. applies c.self.inside.kind p.1 ≡ true))
    (sym next.at) next.fits_row

pub loop-number-preserved : goal.loop-number-preserved
loop-number-preserved c =
    let far = c.loop-number.invariant.far in
    let entries = subst (λ (es : List (Key × (ℕ × Row))).
    Left c.self.inside.kind es c.loop-number.rows c.loop-number.kept.items
    (left c.args.self) c.args.rows.now) c.in-Some.ensures.removal far in
    record {
      far = Left-step c.self.inside.kind c.in-Some.field-0-0 c.in-Some.number c.in-Some.row
          c.pop_first.new.self.entries c.loop-number.rows c.change.new.self c.loop-number.kept.items
          c.push_reserved.new.self.items (left c.args.self) c.args.rows.now c.change.new.kept
          entries c.change.ensures.rows c.change.ensures.kept c.push_reserved.ensures.items;
      room = omega (
        arith,
        c.loop-number.invariant.room,
        ap length c.in-Some.ensures.removal,
        c.push_reserved.ensures.len,
        c.push_reserved.ensures.capacity,
      );
    }

pub returns-clause-rows : goal.returns-clause-rows
returns-clause-rows c =
    let none : c.loop-number.planned.entries ≡ [] =
    empty-below c.loop-number.planned.entries (λ some.
    let bad : false ≡ true = c.in_default.ensures.variant.1 some in cc) in
    let last = Left-end c.self.inside.kind c.loop-number.planned.entries c.loop-number.rows
    c.loop-number.kept.items (left c.args.self) c.args.rows.now c.loop-number.invariant.far none in
    last.0 ∙ ap (λ (p : Planned). applied p.kind (left c.args.self) c.args.rows.now) c.self.view_is
