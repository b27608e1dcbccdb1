-- `told_of`: its loop.
use Rattle.std.proofs.Common.{◌≡◌, ◌∙◌, ◌<◌, [], List, Some, ap, arith, filter, length, map, nat_lt}
use Rattle.std.proofs.Common.{refl}
use Rattle.std.proofs.Common.{slice_get, sym, take, cond}
use Rattle.std.proofs.lemmas.List.{length-take-le}
use Rattle.std.proofs.lemmas.Option.{slice_get_read}
use Rattle.td_rows.proofs.Lists.{take-next}
use Rattle.td_plan.specs.declared.waits.Wait.{Wait}
use Rattle.td_plan.specs.declared.waits.Waits.{Waits}
use Rattle.td_plan.specs.Plan.{is_waiting}
use Rattle.td_plan.specs.Relations.{relation_of}
use Rattle.td_plan.specs.inner.Told.{groups, seen_told, waiting_from, with_place}
use Rattle.td_plan.specs.inner.Waiting.{seen}
use Rattle.td_plan.proofs.ToldGroups.{told_next}
use Rattle.td_plan.proofs.relations.told_of.Goals as goal

pub loop-place-preserved : goal.loop-place-preserved
loop-place-preserved c =
    let waits = c.args.waits.now in
    let n = c.loop-place.place in
    let it = c.index-waits-place.result in
    let low : n < length waits = c.loop-place-test.true in
    let at : slice_get waits n ≡ Some it =
    slice_get_read waits (length waits) n it refl low c.index-waits-place.is in
    let old = map seen_told c.loop-place.told.items in
    let with = λ (l : List Wait). cond (nat_lt 0 (length l))
    (with_place (relation_of (map seen l)) n old) old in
    told_next (take n waits) it n old (map seen_told c.push_waits.new.told.items)
    (sym (length-take-le n waits (omega (arith, low)))) c.loop-place.invariant
    (c.in_ok-push_waits.ensures
    ∙ ap with (c.deref.ensures.value
    ∙ ap (λ (w : Waits). w.waits.items) (sym c.index-waits-place.is)))
    ∙ ap (λ (l : List Waits). groups [] (filter is_waiting (waiting_from 0 l)))
    (sym (take-next waits n it at))
