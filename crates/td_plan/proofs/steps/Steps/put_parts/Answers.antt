-- `Steps::put_parts`: its loop.
use Rattle.std.proofs.Common.{◌≡◌, ◌<◌, ◌∙◌, ◌++◌, [], List, None, Some, ap, get_or, length}
use Rattle.std.proofs.Common.{slice_get, string_bytes, subst, sym, ℕ}
use Rattle.std.specs.Global.{Vec}
use Rattle.std.proofs.lemmas.List.{get_or-map, get_or_default}
use Rattle.std.proofs.lemmas.List.Elements.{All-get_or}
use Rattle.std.proofs.lemmas.Option.{get_or_from_slice_get}
use Rattle.td_text.specs.Lines.{text_of}
use Rattle.td_waves.specs.Graph.{bases_of, lists}
use Rattle.td_plan.specs.inner.Planned.{sources_at}
use Rattle.td_plan.specs.inner.Stepping.{AreSources, part_lines}
use Rattle.td_plan.proofs.SourcePlaces.{item-at}
use Rattle.td_plan.proofs.StepTexts.{made-next}
use Rattle.td_plan.proofs.Waiters.{at-below}
use Rattle.td_plan.proofs.steps.Steps.put_parts.Goals as goal
use Rattle.td_plan.proofs.steps.Steps.put_parts.Goals.{in-Some+in_ok-put_lines, in_default}

pub loop-first-preserved : goal.loop-first-preserved
loop-first-preserved c = λ t is within all.
    let steps = c.args.self.now in
    let ms = steps.movers.items in
    let why = c.args.why in
    let vs = c.args.members.now in
    let fs = c.args.firsts.now in
    let i = c.loop-first.first-index in
    let n = get_or fs i 0 in
    let low = c.loop-first-test.true in
    let made = λ (first : ℕ). part_lines why steps (sources_at ms (bases_of (lists vs) first)) in
    let old = string_bytes c.loop-first.out in
    let below : n < length vs = All-get_or (λ k. k < length vs) fs i 0 low all in
    elim c.match-get.branch [
      | in-Some+in_ok-put_lines w ↦
          let v = w.in-Some.members.now in
          let there : slice_get vs n ≡ Some v =
          sym (item-at vs n (Some w.in-Some.members) w.in-Some.ensures.lookup) in
          let its : w.deref.result.now ≡ bases_of (lists vs) n =
          w.deref.ensures.value ∙ sym (get_or-map (λ (u : Vec ℕ). u.items) vs n v [] below
          ∙ ap (λ (u : Vec ℕ). u.items) (get_or_from_slice_get vs n v v there)) in
          made-next made fs i n (string_bytes c.args.out.now) old (string_bytes c.match-get.out) low
          (get_or_default fs i 0 n low) (c.loop-first.invariant t is within all)
          (ap string_bytes w.out-is
          ∙ w.in_ok-put_lines.ensures t is (subst (AreSources steps) (sym its) (within n))
          ∙ ap (λ (l : List ℕ). old ++ text_of (part_lines why steps (sources_at ms l))) its)
      | in_default w ↦
          let v = at-below vs n below in
          absurd (let bad : None ≡ Some v.0 =
          item-at vs n None w.in_default.ensures.lookup ∙ v.1 in cc)
    ]
