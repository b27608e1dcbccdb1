-- `holds`: the clause `alike` of parts, and the loop over them.
use Rattle.std.proofs.Common.{◌≡◌, ◌∙◌, ◌≤◌, length, not, ap, sym, rules, arith}
use Rattle.td_stanza.specs.Table.{fields_of}
use Rattle.td_query.proofs.AlikePatterns.{alike_still}
use Rattle.td_query.proofs.TruthLaws.{part_settles, part_passes, parts_done}
use Rattle.td_query.proofs.truth.+holds.Goals as goal

pub parts_hold-returns-then-holds-settles-clause-alike :
    goal.parts_hold-returns-then-holds-settles-clause-alike
parts_hold-returns-then-holds-settles-clause-alike t c ps alike =
    let same : c.holds.result ≡ c.settles-settles.result = search rules in
    c.settles-settles.ensures.answer
    ∙ part_settles ps (fields_of c.args.stanza.now) c.args.joint c.args.parts.now c.loop-i.i
    c.index-parts-i.result c.loop-i-test.true c.index-parts-i.is
    (c.loop-i.invariant.decides ps alike)
    (sym (c.holds.ensures.alike ps (alike_still ps c.loop-i.invariant.same alike))
    ∙ same ∙ c.settles-settles.ensures.answer)

pub parts_hold-loop-i-preserved : goal.parts_hold-loop-i-preserved
parts_hold-loop-i-preserved t c =
    let other : c.holds.result ≡ not c.settles-settles.result = search rules in
    record {
      same = c.holds.ensures.same ∙ c.loop-i.invariant.same;
      decides = λ ps alike. part_passes ps (fields_of c.args.stanza.now) c.args.joint
          c.args.parts.now c.loop-i.i c.index-parts-i.result c.loop-i-test.true c.index-parts-i.is
          (c.loop-i.invariant.decides ps alike)
          (sym (c.holds.ensures.alike ps (alike_still ps c.loop-i.invariant.same alike))
          ∙ other ∙ ap not c.settles-settles.ensures.answer);
    }

pub parts_hold-returns-clause-alike : goal.parts_hold-returns-clause-alike
parts_hold-returns-clause-alike t c ps alike =
    let past : length c.args.parts.now ≤ c.loop-i.i = omega arith in
    ap not c.settles-settles.ensures.answer
    ∙ parts_done ps (fields_of c.args.stanza.now) c.args.joint c.args.parts.now c.loop-i.i past
    (c.loop-i.invariant.decides ps alike)
