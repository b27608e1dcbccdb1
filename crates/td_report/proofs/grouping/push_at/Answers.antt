-- `push_at`: the clause `lists`.
use Rattle.std.proofs.Common.{◌-◌, ◌<◌, ◌++◌, ◌∷◌, [], Bool, length, ap, ◌∙◌, if◌then◌else◌, arith}
use Rattle.td_report.specs.inner.Grouped.{list_at}
use Rattle.td_report.proofs.Lists.{list_at-push, same_number}
use Rattle.td_report.proofs.grouping.push_at.Goals as goal

pub returns-in_ok-push-clause-lists : goal.returns-in_ok-push-clause-lists
returns-in_ok-push-clause-lists c =
    let lists = c.args.lists.now.items in
    let item = c.args.item in
    let number = c.args.level - 1 in
    let within : number < length lists =
    omega (
      arith,
      c.if-level-gt0.true,
      c.if-level-len.true,
      c.len.ensures,
      c.args.lists.now.ok.0,
    ) in
    λ n inside.
    list_at-push lists number item c.index_mut.result.now c.push.new.self within
    c.index_mut.ensures.value c.in_ok-push.ensures.items n
    ∙ ap (λ (b : Bool). list_at lists n ++ (if b then item ∷ [] else []))
    (same_number c.args.level n c.if-level-gt0.true)
