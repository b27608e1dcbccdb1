-- `set_groups`: its loop, the clause `twice` and the call of `set_group`.
use Rattle.std.proofs.Common.{◌≡◌, Option, ℕ, false, is_some, take, sym, ap, ◌∙◌}
use Rattle.td_book.specs.Watching.{group_in}
use Rattle.td_book.proofs.Groups.{set-twice, set-next, number-within, group-read, key_there}
use Rattle.td_book.proofs.Groups.{known-all, pair_at}
use Rattle.td_book.proofs.watching.set_groups.Goals as goal
use Rattle.td_book.proofs.watching.set_groups.Goals.{in-Some+else-is_some, in_default}

pub returns-then-is_some-clause-twice : goal.returns-then-is_some-clause-twice
returns-then-is_some-clause-twice c =
    let p = c.pair-item.result in
    let i = c.loop-pair.pair-index in
    let now : Option ℕ = c.index.result.now in
    let is : now ≡ group_in (take i c.args.given.now) p.0 =
    group-read i c.in-Some.number c.loop-pair.of_rows.items c.args.rows.now c.args.given.now p.0 now
    c.loop-pair.invariant c.in-Some.ensures.found c.index.ensures in
    sym (set-twice i c.loop-pair.of_rows.items c.args.rows.now c.args.given.now p
    c.loop-pair.invariant (pair_at c.args.given.now i p c.loop-pair-test.true c.pair-item.is)
    (ap (λ (o : Option ℕ). is_some o) (sym is) ∙ sym c.is_some.ensures ∙ c.if-is_some.true))

pub set_group-requires : goal.set_group-requires
set_group-requires c =
    number-within c.loop-pair.pair-index c.in-Some.number c.loop-pair.of_rows.items c.args.rows.now
    c.args.given.now c.pair-item.result.0 c.loop-pair.invariant c.in-Some.ensures.found

pub loop-pair-preserved : goal.loop-pair-preserved
loop-pair-preserved c =
    let p = c.pair-item.result in
    let i = c.loop-pair.pair-index in
    let at = pair_at c.args.given.now i p c.loop-pair-test.true c.pair-item.is in
    elim c.match-number.branch [
      | in-Some+else-is_some w ↦
          let now : Option ℕ = w.index.result.now in
          let is : now ≡ group_in (take i c.args.given.now) p.0 =
          group-read i w.in-Some.number c.loop-pair.of_rows.items c.args.rows.now c.args.given.now
          p.0 now c.loop-pair.invariant w.in-Some.ensures.found w.index.ensures in
          let free : is_some (group_in (take i c.args.given.now) p.0) ≡ false =
          ap (λ (o : Option ℕ). is_some o) (sym is) ∙ sym w.is_some.ensures ∙ w.if-is_some.false in
          set-next i w.in-Some.number c.loop-pair.of_rows.items c.match-number.of_rows.items
          c.args.rows.now c.args.given.now p c.len-rising.ensures.rising c.loop-pair.invariant at
          (key_there c.args.rows.now p.0 w.in-Some.number w.in-Some.ensures.found) free
          (ap (λ v. v.items) w.of_rows-is ∙ w.set_group.ensures)
      | in_default w ↦
          absurd (known-all c.args.rows.now c.args.given.now i p c.requires.known at
          w.in_default.ensures.absent)
    ]
