-- `push_member`: the clauses `err`, `ok` and `whole`.
use Rattle.std.proofs.Common.{◌≡◌, ◌∙◌, ℕ, ◌-◌, List, Ok, length, ap, sym, map, arith}
use Rattle.td_relation.specs.Asked.{asked}
use Rattle.td_relation.specs.Members.{chunked, total}
use Rattle.td_relation.proofs.MemberTexts.{member_fails, member_pushed, total_pushed}
use Rattle.td_relation.proofs.relation_reading.push_member.Goals as goal

pub returns-in-Err-clause-err : goal.returns-in-Err-clause-err
returns-in-Err-clause-err c =
    member_fails (map asked c.args.alternatives.now.items) c.args.text.now c.in-Err.fault
    c.in-Err.ensures.err

pub returns-in-Ok-push-clause-ok : goal.returns-in-Ok-push-clause-ok
returns-in-Ok-push-clause-ok c =
    let ns = c.args.sizes.now.items in
    let old = c.args.alternatives.now.items in
    let new = c.push_alternatives.new.list.items in
    let n = c.len.result - c.len-before.result in
    let size : n ≡ length new - length old = omega (arith, c.len.ensures, c.len-before.ensures) in
    member_pushed ns old new c.args.text.now n c.requires.whole c.in-Ok.ensures.ok size
    ∙ ap (λ (l : List ℕ). Ok (chunked l (map asked new))) (sym c.in-Ok-push.ensures.items)

pub returns-in-Ok-push-clause-whole : goal.returns-in-Ok-push-clause-whole
returns-in-Ok-push-clause-whole c =
    let ns = c.args.sizes.now.items in
    let old = c.args.alternatives.now.items in
    let new = c.push_alternatives.new.list.items in
    let n = c.len.result - c.len-before.result in
    let size : n ≡ length new - length old = omega (arith, c.len.ensures, c.len-before.ensures) in
    ap total c.in-Ok-push.ensures.items
    ∙ total_pushed ns old new c.args.text.now n c.requires.whole c.in-Ok.ensures.ok size
