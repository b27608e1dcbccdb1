-- `SourceText::waits_at`: nothing where the row isn't due, else what it waits for.
use Rattle.std.proofs.Common.{◌<◌, List, length, subst, sym, ◌∙◌}
use Rattle.td_indices.specs.Archive.{Contents}
use Rattle.td_waves.proofs.Finding.{ok_then}
use Rattle.td_plan.specs.declared.asks.Ask.{Ask}
use Rattle.td_plan.specs.Plan.{is_beside}
use Rattle.td_plan.specs.inner.Asked.{AreAsks}
use Rattle.td_plan.proofs.SourceSteps.{row-none, row-waits, told-waiter}
use Rattle.td_plan.proofs.source_text.SourceText.waits_at.Goals as goal

pub returns-then-not-is_due : goal.returns-then-not-is_due
returns-then-not-is_due c = λ p x s is at.
    let place = c.args.place in
    let low : place < length p.archive.table =
    subst (λ (a : Contents). place < length a.table) is.archive c.requires in
    row-none p x s c.args.self.now is c.args.mover.now at place low
    (sym c.is_due.ensures ∙ c.if-not-is_due.true) c.none.result c.none.ensures.waits
    c.none.ensures.waitless

pub returns : goal.returns
returns c = ok_then c.waits.result _ _ c.waits.ensures (λ w so p x s is at.
    let t = c.args.self.now in
    let place = c.args.place in
    let low : place < length p.archive.table =
    subst (λ (a : Contents). place < length a.table) is.archive c.requires in
    row-waits p x s t is c.args.mover.now at place low
    (sym c.is_due.ensures ∙ c.if-not-is_due.false) w
    (so p (is_beside x s) s (told-waiter p x s t is place low)
    (subst (λ (l : List Ask). AreAsks p.archive t.movers.now t.number s place l)
    (sym c.asks_at.ensures) (is.asks place low))))
