-- `Plan::leave_out`: what it answers and its type's invariant.
use Rattle.std.proofs.Common.{◌≡◌, ◌≤◌, true, vec_capacity, ℕ, ap, sym, subst, ◌∙◌, List, map}
use Rattle.std.proofs.Common.{length, arith}
use Rattle.td_rows.specs.declared.row.Row.{Row}
use Rattle.td_rows.specs.declared.key.Key.{Key}
use Rattle.td_rows.specs.Keys.{ascending}
use Rattle.td_change.specs.Plans.{left_out}
use Rattle.td_change.specs.Inside.{numbered, HaveTexts}
use Rattle.td_change.proofs.Plans.{keys, numbered-remove, rising-remove, texts-remove}
use Rattle.td_change.proofs.Plans.{length-remove}
use Rattle.td_change.proofs.plan.Plan.leave_out.Goals as goal

pub invariant_of-self : goal.invariant_of-self
invariant_of-self c =
    let k = c.args.key.now in
    let was = c.self.inside.rows.entries in
    let e = sym c.remove.ensures.entries in
    record {
      rising = subst (λ (es : List (Key × (ℕ × Row))). ascending (keys es) ≡ true) e
          (rising-remove k was c.self.invariant.rising);
      texts = subst (λ (es : List (Key × (ℕ × Row))). HaveTexts c.self.inside.kind es) e
          (texts-remove k c.self.inside.kind was c.self.invariant.texts);
      empty = c.self.invariant.empty;
      room = subst (λ (es : List (Key × (ℕ × Row))). length es ≤ vec_capacity c.self.inside.kept) e
          (omega (arith, length-remove k was, c.self.invariant.room));
    }

pub returns : goal.returns
returns c =
    ap (λ (es : List (Key × (ℕ × Row))).
    record { kind = c.self.inside.kind; rows = map numbered es }) c.remove.ensures.entries
    ∙ ap (λ (rows : List (Key × ℕ)). record { kind = c.self.inside.kind; rows = rows })
    (numbered-remove c.args.key.now c.self.inside.rows.entries)
    ∙ ap (left_out c.args.key.now) c.self.view_is
