-- `between_by_text`: its marks are those by any tracker that the text is of.
use Rattle.std.proofs.Common.{◌≡◌, IfOk, map, subst, rules}
use Rattle.regex.specs.Strings.{matcher_pattern}
use Rattle.td_query.specs.Marks.{MarkBetween, kept_fields}
use Rattle.td_query.specs.Tracking.{tracking}
use Rattle.td_query.proofs.AlikePatterns.{alike_still}
use Rattle.td_query.proofs.SameTrackers.{alike_patterns, same_marks}
use Rattle.td_query.proofs.marking.between_by_text.Goals as goal

pub returns : goal.returns
returns c t is =
    let text = c.args.text.now in
    let u = tracking c.in-Ok.tracker in
    let also = c.in-Ok.ensures.found in
    let patterns = (tracking t).patterns in
    let own : map matcher_pattern c.in_ok-matchers.matchers.items ≡ u.patterns = search rules in
    subst (λ mark. IfOk c.mark_range.result (λ marks. MarkBetween mark
    (kept_fields c.args.archive.now c.args.file) c.args.from c.args.to marks.items))
    (same_marks text (tracking t) u is also patterns)
    (c.mark_range.ensures.alike patterns (alike_still patterns own
    (alike_patterns text (tracking t) u is also)))
