-- `tick_receipt`: the clause `took`.
use Rattle.std.proofs.Common.{rules, arith, ◌≡◌, ◌-◌, ◌<◌, ◌≤◌, length, get_or, sym}
use Rattle.td_desk.proofs.Ticking.{far, left_tick, left_none, match_bool}
use Rattle.td_desk.proofs.closing.tick_receipt.Goals as goal
use Rattle.td_desk.proofs.closing.tick_receipt.Goals.{then-n-eq0-via-then-n-eq0}
use Rattle.td_desk.proofs.closing.tick_receipt.Goals.{then-n-eq0-via-else-n-eq0+then-n-entries}

pub returns-then-n-eq0-clause-took : goal.returns-then-n-eq0-clause-took
returns-then-n-eq0-clause-took c =
    let es = c.args.entries.now in
    let ts = c.args.ticks.now.items in
    let r = c.args.receipt.now in
    let n = c.number-n.result in
    elim c.then-n-eq0.branch [
      | then-n-eq0-via-then-n-eq0 w ↦
          let z : n ≡ 0 = search rules in
          far 1 es ts r (λ i h e. omega (arith, e, z, c.number-n.ensures))
      | then-n-eq0-via-else-n-eq0+then-n-entries w ↦
          let z : length es < n = search rules in
          far 1 es ts r (λ i h e. omega (arith, e, z, h, c.number-n.ensures))
    ]

pub returns-clause-took : goal.returns-clause-took
returns-clause-took c =
    let es = c.args.entries.now in
    let ts = c.args.ticks.now.items in
    let r = c.args.receipt.now in
    let n = c.number-n.result in
    let m = c.index-entries-at.result in
    let t = c.index_mut.result.now in
    let t' = c.tick_at.new.tick in
    let some : 0 < n = search rules in
    let within : n ≤ length es = search rules in
    let long : length es ≤ length ts = search rules in
    let one-m : m ≡ get_or es (n - 1) m = search rules in
    let one-t : t ≡ get_or ts (n - 1) t = search rules in
    match_bool c.tick_at.result _ _ _ _
    (λ h. left_tick 1 (n - 1) n es ts m t t' r (omega (arith, some)) (omega (arith, some, within))
    (omega (arith, some, within, long)) one-m one-t h)
    (λ h. left_none 1 (n - 1) n es ts m t r (omega (arith, some)) (omega (arith, some, within))
    (omega (arith, some, within, long)) one-m one-t (sym c.number-n.ensures) h.0)
    c.tick_at.ensures
