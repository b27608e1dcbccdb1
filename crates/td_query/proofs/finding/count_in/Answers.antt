-- `count_in`: one stanza more.
use Rattle.std.proofs.Common.{◌≡◌, ◌∙◌, ℕ, Bool, true, false, List, ap, arith, map, sym}
use Rattle.regex.specs.Patterns.{Re}
use Rattle.regex.specs.Strings.{matcher_pattern}
use Rattle.td_stanza.specs.Field.{Entry}
use Rattle.td_stanza.specs.Table.{fields_of}
use Rattle.td_query.specs.Marks.{kept_fields}
use Rattle.td_query.specs.Query.{Shape, shape_of}
use Rattle.td_query.specs.Truth.{truth}
use Rattle.td_query.proofs.FoundAtoms.{count_more}
use Rattle.td_query.proofs.finding.count_in.Goals as goal
use Rattle.td_query.proofs.finding.count_in.Goals.{then-holds, else-holds}

pub loop-number-preserved : goal.loop-number-preserved
loop-number-preserved c =
    let ps : List Re = map matcher_pattern c.args.matchers.now.items in
    let s : Shape = shape_of c.args.query.now in
    let kept = kept_fields c.args.archive.now c.args.file in
    let n : ℕ = c.loop-number.number in
    let fields : List Entry = fields_of c.kept_stanza-stanza.result in
    let f : List Entry → Bool = λ e. truth ps e s in
    let is : c.holds.result ≡ truth ps fields s =
    c.holds.ensures.truth ∙ ap (λ (qs : List Re). truth qs fields s) c.loop-number.invariant.same in
    let there = c.kept_stanza-stanza.ensures.there in
    let so_far = c.loop-number.invariant.count in
    record {
      same = c.holds.ensures.same ∙ c.loop-number.invariant.same;
      count = elim c.if-holds.branch [
        | then-holds w ↦ count_more f kept n fields true _ _ there (sym w.if-holds.true ∙ is) so_far
            w.count-is
        | else-holds w ↦ count_more f kept n fields false _ _ there (sym w.if-holds.false ∙ is)
            so_far (omega (arith, w.count-is))
      ];
      few = elim c.if-holds.branch [
        | then-holds w ↦ omega (arith, w.count-is, c.loop-number.invariant.few)
        | else-holds w ↦ omega (arith, w.count-is, c.loop-number.invariant.few)
      ];
    }
