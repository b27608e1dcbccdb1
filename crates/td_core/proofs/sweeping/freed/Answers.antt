-- `freed`: its loop.
use Rattle.std.proofs.Common.{Vec, Global, ◌<◌, ◌++◌, ◌∷◌, [], List, length, if◌then◌else◌, ap, sym}
use Rattle.std.proofs.Common.{◌∙◌}
use Rattle.td_rows.specs.declared.key.Key.{Key}
use Rattle.td_rows.proofs.Lists.{slice_get-none}
use Rattle.td_core.specs.Offers.{is_freed}
use Rattle.td_core.proofs.Freeing.{freed-next}
use Rattle.td_core.proofs.sweeping.freed.Goals as goal
use Rattle.td_core.proofs.sweeping.freed.Goals.{in-Some+in_ok-push_freed, in_default}

pub loop-number-preserved : goal.loop-number-preserved
loop-number-preserved c = elim c.match-at.branch [
  | in-Some+in_ok-push_freed w ↦
      ap (λ (v : Vec Key Global). v.items) w.keys-is
      ∙ w.in_ok-push_freed.ensures
      ∙ ap (λ (ks : List Key).
      ks ++ (if is_freed c.args.supply.now (w.in-Some.key.now, w.in-Some.row.now)
      then w.in-Some.key.now ∷ [] else [])) c.loop-number.invariant
      ∙ sym (freed-next c.args.supply.now c.args.rows.now c.loop-number.number
      (w.in-Some.key.now, w.in-Some.row.now) (sym w.in-Some.ensures))
  | in_default w ↦
      let within : c.loop-number.number < length c.args.rows.now =
      rw (← c.len-number-end.ensures.len) c.loop-number-test.true in
      absurd (slice_get-none c.args.rows.now c.loop-number.number (sym w.in_default.ensures) within)
]
