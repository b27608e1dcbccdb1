-- `part_at`: the clauses `value` and `before`, and the call of `split_at`.
use Rattle.std.proofs.Common.{◌≡◌, subst, rules}
use Rattle.std.specs.Str.{IsCharBoundary}
use Rattle.td_text.proofs.Cut.{part-by_place, part_front, place_boundary, place_of}
use Rattle.td_text.proofs.cutting.part_at.Goals as goal

pub split_at-requires : goal.split_at-requires
split_at-requires c =
    let is : place_of c.args.mark c.args.text.now ≡ c.mark_place.result = search rules in
    subst (IsCharBoundary c.args.text.now) is
    (place_boundary c.args.mark c.args.text.now c.requires)

pub returns-clause-value : goal.returns-clause-value
returns-clause-value c =
    let is : c.mark_place.result ≡ place_of c.args.mark c.args.text.now = search rules in
    rw (c.split_at.ensures.front, c.split_at.ensures.back, is)
    (part-by_place c.args.mark c.args.text.now)

pub returns-clause-before : goal.returns-clause-before
returns-clause-before c =
    part_front c.args.mark c.args.text.now c.split_at.result.0.now c.split_at.result.1.now
    (returns-clause-value c)
