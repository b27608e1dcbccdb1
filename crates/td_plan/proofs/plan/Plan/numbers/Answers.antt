-- `Plan::numbers`: its loop, and what it answers.
use Rattle.std.proofs.Common.{◌≡◌, ◌+◌, ◌<◌, ◌≤◌, ◌∙◌, Some, ap, arith, length, replicate, refl}
use Rattle.std.proofs.Common.{length-set, set, slice_get, subst, sym, ℕ}
use Rattle.std.specs.Global.{Vec}
use Rattle.std.proofs.lemmas.List.{length-replicate}
use Rattle.std.proofs.lemmas.Option.{slice_get_read}
use Rattle.td_indices.specs.Archive.{Contents}
use Rattle.td_plan.proofs.MoverNumbers.{AreNumbersTo, numbers-all, numbers-left, numbers-none}
use Rattle.td_plan.proofs.MoverNumbers.{numbers-set}
use Rattle.td_plan.proofs.plan.Plan.numbers.Goals as goal
use Rattle.td_plan.proofs.plan.Plan.numbers.Goals.{then-source-len, else-source-len}

pub loop-number-init : goal.loop-number-init
loop-number-init c =
    let ms = c.args.self.now.movers.items in
    let count = c.source_count-count.result in
    let len : c.args.self.now.movers.len ≡ length ms =
    omega (arith, c.args.self.now.movers.ok.0) in
    let all : c.in_ok-numbers.numbers.items ≡ replicate count (length ms) =
    c.in_ok-numbers.ensures.items_if_clones_equal (λ y e. e)
    ∙ ap (replicate count) (c.len.ensures ∙ len) in
    record {
      len = ap length all ∙ length-replicate count (length ms) ∙ c.source_count-count.ensures;
      are = subst (AreNumbersTo ms 0) (sym all) (numbers-none ms count);
    }

pub loop-number-preserved : goal.loop-number-preserved
loop-number-preserved c =
    let ms = c.args.self.now.movers.items in
    let i = c.loop-number.number in
    let old = c.loop-number.numbers.items in
    let m = c.index.result.now in
    let low : i < length ms = omega (
      arith,
      c.loop-number-test.true,
      c.len-number-end.ensures,
      c.args.self.now.movers.ok.0,
    ) in
    let at : slice_get ms i ≡ Some m = slice_get_read ms (length ms) i m refl low c.index.ensures in
    let new = c.if-source-len.numbers.items in
    elim c.if-source-len.branch [
      | then-source-len w ↦
          let is : new ≡ set old m.number i = ap (λ (v : Vec ℕ). v.items) w.numbers-is in
          let within : m.number < length old = omega (
            arith,
            w.if-source-len.true,
            c.len-in-loop-number.ensures,
            c.loop-number.numbers.ok.0,
          ) in
          record {
            len = ap length is ∙ length-set old m.number i ∙ c.loop-number.invariant.len;
            are = subst (AreNumbersTo ms (i + 1)) (sym is)
                (numbers-set ms i m old at within c.loop-number.invariant.are);
          }
      | else-source-len w ↦
          let is : new ≡ old = ap (λ (v : Vec ℕ). v.items) w.numbers-is in
          let past : length old ≤ m.number = omega (
            arith,
            w.if-source-len.false,
            c.len-in-loop-number.ensures,
            c.loop-number.numbers.ok.0,
          ) in
          record {
            len = ap length is ∙ c.loop-number.invariant.len;
            are = subst (AreNumbersTo ms (i + 1)) (sym is)
                (numbers-left ms i m old at past c.loop-number.invariant.are);
          }
    ]

pub returns : goal.returns
returns c = λ p is.
    let ms = c.args.self.now.movers.items in
    let count = ap (λ (a : Contents). length a.sources) is.inputs.archive in
    numbers-all p is.sound ms is.movers c.loop-number.number c.loop-number.numbers.items
    (omega arith) (c.loop-number.invariant.len ∙ count) c.loop-number.invariant.are
