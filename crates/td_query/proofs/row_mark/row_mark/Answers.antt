-- `row_mark`: its loop.
use Rattle.std.proofs.Common.{◌∙◌, map, ap, get_or, take}
use Rattle.regex.specs.Strings.{matcher_pattern}
use Rattle.td_query.specs.Marks.{either_mark, gathered, mark_there}
use Rattle.td_query.specs.Tracking.{tracking}
use Rattle.td_query.proofs.Gathering.{gathered-more}
use Rattle.td_query.proofs.row_mark.row_mark.Goals as goal

pub loop-number-preserved : goal.loop-number-preserved
loop-number-preserved c =
    let a = c.args.archive.now in
    let t = tracking c.args.tracker.now in
    let own = c.mark_of-mark.result in
    let numbers = c.packages_of-number-items.result.now in
    let there = mark_there a (map matcher_pattern c.args.matchers.now.items) t c.args.place in
    record {
      same = c.mark_there.ensures.same ∙ c.loop-number.invariant.same;
      mark = c.or-mark.ensures.either
          ∙ ap (λ m. either_mark m c.mark_there.result) c.loop-number.invariant.mark
          ∙ ap (either_mark (gathered own there (take c.loop-number.number-index numbers)))
          (c.mark_there.ensures.mark
          ∙ ap (λ p. mark_there a p t c.args.place (get_or numbers c.loop-number.number-index 0))
          c.loop-number.invariant.same)
          ∙ gathered-more own there numbers c.loop-number.number-index c.loop-number-test.true;
    }
