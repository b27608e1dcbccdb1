-- `mark_range`: its loop.
use Rattle.std.proofs.Common.{◌∙◌}
use Rattle.td_query.specs.Marks.{kept_fields}
use Rattle.td_query.specs.Tracking.{tracking}
use Rattle.td_query.proofs.AlikePatterns.{alike_still}
use Rattle.td_query.proofs.KeptMarks.{marks-more}
use Rattle.td_query.proofs.marking.mark_range.Goals as goal

pub loop-number-preserved : goal.loop-number-preserved
loop-number-preserved c =
    record {
      same = c.mark_of.ensures.same ∙ c.loop-number.invariant.same;
      marks = λ ps alike. marks-more ps (tracking c.args.tracker.now)
          (kept_fields c.args.archive.now c.args.file) c.args.from c.loop-number.number
          c.loop-number.marks.items c.kept_stanza-stanza.ensures.there
          (c.loop-number.invariant.marks ps alike) c.in_ok-push.ensures.items
          (c.mark_of.ensures.alike ps (alike_still ps c.loop-number.invariant.same alike));
    }
