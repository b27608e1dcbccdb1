-- `read_relation`: the clauses `err` and `ok`.
use Rattle.std.proofs.Common.{◌≡◌, map, length, rules}
use Rattle.td_relation.specs.Asked.{asked}
use Rattle.td_relation.proofs.MemberTexts.{relation-fails, relation-empty, relation-read}
use Rattle.td_relation.proofs.relation_reading.read_relation.Goals as goal

pub returns-in-Err-clause-err : goal.returns-in-Err-clause-err
returns-in-Err-clause-err c = relation-fails c.args.text.now c.in-Err.fault c.in-Err.ensures.err

pub returns-then-is_empty-clause-err : goal.returns-then-is_empty-clause-err
returns-then-is_empty-clause-err c =
    let r = c.in-Ok.relation in
    let none : length r.sizes.items ≡ 0 = search rules in
    relation-empty c.args.text.now r.sizes.items (map asked r.alternatives.items) c.in-Ok.ensures.ok
    none

pub returns-clause-ok : goal.returns-clause-ok
returns-clause-ok c =
    let r = c.in-Ok.relation in
    let some : ¬ (length r.sizes.items ≡ 0) = search rules in
    relation-read c.args.text.now r.sizes.items r.alternatives.items c.in-Ok.ensures.ok some
