-- `SourceText::due_places`: its loop, and what it answers.
use Rattle.std.proofs.Common.{◌≡◌, ◌<◌, ◌++◌, ◌∷◌, [], List, ap, arith, false, filter, length}
use Rattle.std.proofs.Common.{slice_get, subst, sym, ℕ, ◌∙◌}
use Rattle.std.specs.Global.{Vec}
use Rattle.std.specs.List.{All, range_with_len}
use Rattle.std.specs.Option.{option_map_or}
use Rattle.std.proofs.lemmas.List.Elements.{All-push}
use Rattle.td_plan.specs.inner.Movers.{is_due_motion}
use Rattle.td_plan.proofs.SourcePlaces.{range-fails, range-passes}
use Rattle.td_plan.proofs.source_text.SourceText.due_places.Goals as goal
use Rattle.td_plan.proofs.source_text.SourceText.due_places.Goals.{then-is_due+in_ok-push}
use Rattle.td_plan.proofs.source_text.SourceText.due_places.Goals.{else-is_due}

pub loop-place-preserved : goal.loop-place-preserved
loop-place-preserved c =
    let table = c.args.self.now.archive.now.table in
    let P = λ (k : ℕ). k < length table in
    let test = λ (k : ℕ). option_map_or is_due_motion
    (slice_get c.args.mover.now.motions.at.items k) false in
    let place = c.loop-place.place in
    let old = c.loop-place.places.items in
    let low : place < length table = omega arith in
    elim c.if-is_due.branch [
      | then-is_due+in_ok-push w ↦
          let is : c.if-is_due.places.items ≡ old ++ place ∷ [] =
          ap (λ (v : Vec ℕ). v.items) w.places-is ∙ w.in_ok-push.ensures.items in
          record {
            within =
                subst (All P) (sym is) (All-push P old place c.loop-place.invariant.within low);
            due = is ∙ ap (λ (l : List ℕ). l ++ place ∷ []) c.loop-place.invariant.due
                ∙ sym (range-passes test place (sym c.is_due.ensures ∙ w.if-is_due.true));
          }
      | else-is_due w ↦
          let is : c.if-is_due.places.items ≡ old = ap (λ (v : Vec ℕ). v.items) w.places-is in
          record {
            within = subst (All P) (sym is) c.loop-place.invariant.within;
            due = is ∙ c.loop-place.invariant.due
                ∙ sym (range-fails test place (sym c.is_due.ensures ∙ w.if-is_due.false));
          }
    ]

pub returns : goal.returns
returns c =
    let test = λ (k : ℕ). option_map_or is_due_motion
    (slice_get c.args.mover.now.motions.at.items k) false in
    let all : c.loop-place.place ≡ length c.args.self.now.archive.now.table = omega arith in
    record {
      within = c.loop-place.invariant.within;
      due = c.loop-place.invariant.due
          ∙ ap (λ (n : ℕ). filter test (range_with_len 0 n)) all;
    }
