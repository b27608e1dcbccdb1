-- `Plan::new`: what it answers and its type's invariant.
use Rattle.std.proofs.Common.{◌≡◌, ℕ, true, ap, sym, subst, ◌∙◌, List, map, length, arith}
use Rattle.td_rows.specs.declared.row.Row.{Row}
use Rattle.td_rows.specs.declared.key.Key.{Key}
use Rattle.td_rows.specs.declared.kind.Kind.{Kind}
use Rattle.td_rows.specs.Keys.{ascending}
use Rattle.td_change.specs.Inside.{numbered, HaveTexts}
use Rattle.td_change.proofs.Plans.{keys, keys-ready, texts-ready, length-ready, numbered-ready}
use Rattle.td_change.proofs.plan.Plan.new.Goals as goal

pub invariant_of-result : goal.invariant_of-result
invariant_of-result c =
    let kind = c.args.kind.now in
    let t = c.args.rows.now in
    let ks = c.args.keys.now in
    let e = sym c.in_ok-readied.ensures in
    record {
      rising = subst (λ (es : List (Key × (ℕ × Row))). ascending (keys es) ≡ true) e
          (ap ascending (keys-ready kind t ks) ∙ c.requires.rising);
      texts = subst (λ (k : Kind). HaveTexts k c.in_ok-readied.field-0.entries)
          (sym c.in_ok-copy.ensures)
          (subst (λ (es : List (Key × (ℕ × Row))). HaveTexts kind es) e (texts-ready kind t ks));
      empty = c.in_ok-with_capacity.ensures.items;
      room = omega (
        arith,
        ap length c.in_ok-readied.ensures,
        length-ready kind t ks,
        c.in_ok-with_capacity.ensures.capacity,
      );
    }

pub returns : goal.returns
returns c =
    (λ j. record { kind = c.in_ok-copy.ensures j; rows = map numbered (c.in_ok-readied.ensures j) })
    ∙ ap (λ (rows : List (Key × ℕ)). record { kind = c.args.kind.now; rows = rows })
    (numbered-ready c.args.kind.now c.args.rows.now c.args.keys.now)
