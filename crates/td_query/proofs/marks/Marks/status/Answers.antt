-- `Marks::status`: what it answers.
use Rattle.std.proofs.Common.{◌≡◌, ◌∙◌, false, true, rules, arith}
use Rattle.td_indices.specs.Archive.{has_row_at}
use Rattle.td_query.proofs.RowStatuses.{status_nowhere, status_past, status_there}
use Rattle.td_query.proofs.marks.Marks.status.Goals as goal
use Rattle.td_query.proofs.marks.Marks.status.Goals.{then-place-arch_count-via-then-place-arch_count}
use Rattle.td_query.proofs.marks.Marks.status.Goals.{then-place-arch_count-via-else-place-arch_count+then-not-has_row}

pub returns-then-place-arch_count : goal.returns-then-place-arch_count
returns-then-place-arch_count c =
    record {
      status = λ t of. elim c.then-place-arch_count.branch [
        | then-place-arch_count-via-then-place-arch_count w ↦
            status_past c.args.archive.now t c.args.source c.args.place (omega arith)
        | then-place-arch_count-via-else-place-arch_count+then-not-has_row w ↦
            (let none : has_row_at c.args.archive.now c.args.source c.args.place
            ≡ false = search rules in
            status_nowhere c.args.archive.now t c.args.source c.args.place none)
      ];
    }

pub returns : goal.returns
returns c =
    let some : has_row_at c.args.archive.now c.args.source c.args.place ≡ true = search rules in
    record {
      status = λ t of. c.status.ensures.value
          ∙ status_there c.args.archive.now t c.args.source c.args.place c.row_mark.result some
          (c.row_mark.ensures.mark t of);
    }
