-- `cut`: the clauses `start` and `within` and its sums.
use Rattle.std.proofs.Common.{◌≡◌, sym, ap, ◌∙◌, arith, Some, option_map}
use Rattle.td_text.specs.Cut.{cut}
use Rattle.td_version.specs.Reading.{written_of}
use Rattle.td_version.proofs.Judging.{length-cut, start-with_revision, length-with_revision}
use Rattle.td_version.proofs.reading.cut.Goals as goal

pub overflow_sub-len : goal.overflow_sub-len
overflow_sub-len c =
    let is_cut : cut 58 c.args.text.now ≡ Some (c.in-Some.digits.now, c.in-Some.rest.now) =
    sym c.cut_at.ensures.value ∙ ap (option_map (λ x. (x.0.now, x.1.now))) c.in-Some.is in
    let e = length-cut 58 c.args.text.now c.in-Some.digits.now c.in-Some.rest.now is_cut in
    omega arith

pub returns-in-Some-clause-start : goal.returns-in-Some-clause-start
returns-in-Some-clause-start c =
    let is_cut : cut 58 c.args.text.now ≡ Some (c.in-Some.digits.now, c.in-Some.rest.now) =
    sym c.cut_at.ensures.value ∙ ap (option_map (λ x. (x.0.now, x.1.now))) c.in-Some.is in
    let e = length-cut 58 c.args.text.now c.in-Some.digits.now c.in-Some.rest.now is_cut in
    let s = start-with_revision (written_of c.cut_revision-in-Some.result) c.in-Some.digits.now
    c.in-Some.rest.now c.cut_revision-in-Some.ensures.pieces in
    let given = c.cut_revision-in-Some.ensures.start in
    rw s (omega arith)

pub returns-in-Some-clause-within : goal.returns-in-Some-clause-within
returns-in-Some-clause-within c =
    let is_cut : cut 58 c.args.text.now ≡ Some (c.in-Some.digits.now, c.in-Some.rest.now) =
    sym c.cut_at.ensures.value ∙ ap (option_map (λ x. (x.0.now, x.1.now))) c.in-Some.is in
    let e = length-with_revision c.args.text.now (written_of c.cut_revision-in-Some.result)
    c.in-Some.digits.now c.in-Some.rest.now is_cut c.cut_revision-in-Some.ensures.pieces in
    omega arith
