-- `put_back`: its loop.
use Rattle.std.proofs.Common.{ℕ, List, ap, sym, ◌∙◌}
use Rattle.td_rows.specs.declared.row.Row.{Row}
use Rattle.td_change.specs.Inside.{put_back}
use Rattle.td_change.proofs.Backs.{put_back-push}
use Rattle.td_change.proofs.change.put_back.Goals as goal

pub loop-number-preserved : goal.loop-number-preserved
loop-number-preserved c =
    let m = c.args.cells in
    let left = c.pop.new.self.items in
    ap (put_back m left) c.restore.ensures
    ∙ sym (put_back-push m left c.in-Some.number c.in-Some.row c.loop-number.rows)
    ∙ ap (λ (kept : List (ℕ × Row)). put_back m kept c.loop-number.rows)
    (sym c.in-Some.ensures.items)
    ∙ c.loop-number.invariant
