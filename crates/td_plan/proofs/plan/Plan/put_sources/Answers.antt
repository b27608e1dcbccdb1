-- `Plan::put_sources`: the lines of the sources with a due row.
use Rattle.std.proofs.Common.{◌++◌, ◌∙◌, List, None, ap, length, map, string_bytes, subst, sym}
use Rattle.std.proofs.Common.{ℕ}
use Rattle.std.specs.Global.{Vec}
use Rattle.std.specs.List.Sorted.{IsPermutation}
use Rattle.std.proofs.lemmas.Result.{on_ok_weaker}
use Rattle.td_text.specs.Lines.{text_of}
use Rattle.td_waves.specs.Graph.{lists}
use Rattle.td_indices.specs.Sources.{KeptSource}
use Rattle.td_plan.specs.declared.movers.Mover.{Mover}
use Rattle.td_plan.specs.Plan.{lines_from}
use Rattle.td_plan.specs.inner.Ordering.{AreMembers, ArePartsOf, due_positions}
use Rattle.td_plan.specs.inner.Planned.{ArePositions, AreTexts, placing_in, sources_at}
use Rattle.td_plan.specs.inner.Writing.{seen_words}
use Rattle.td_plan.proofs.DuePositions.{due-are}
use Rattle.td_plan.proofs.PlanLines.{positions-are}
use Rattle.td_plan.proofs.plan.Plan.put_sources.Goals as goal

pub returns-clause-ok : goal.returns-clause-ok
returns-clause-ok g c =
    let plan = c.args.self.now in
    let ms = plan.movers.items in
    let words = seen_words c.args.words.now in
    let positions = c.in_ok-positions.positions.items in
    let members = c.in_ok-members.members.items in
    let start = string_bytes c.args.out.now in
    on_ok_weaker c.put_positions.result (λ lines p is.
    let all : IsPermutation (due_positions plan.parts ms) positions =
    subst (λ (l : List Mover). ArePartsOf (length l) plan.parts
    → IsPermutation (due_positions plan.parts l) positions) c.deref.ensures.value
    c.in_ok-positions.ensures.all is.parts in
    let sorted = c.in_ok-positions.ensures.in_order in
    let are = positions-are p plan is positions all sorted in
    lines words p
    (subst (AreTexts words plan) (sym c.deref-2.ensures.value) c.in_ok-texts.ensures) is
    (subst (λ (l : List (Vec ℕ)). AreMembers plan.parts.firsts.items (lists l))
    (sym c.deref-3.ensures.value) c.in_ok-members.ensures)
    (subst (λ (l : List (ℕ × ℕ × ℕ)). ArePositions ms plan.parts l)
    (sym c.deref-4.ensures.value) are)
    ∙ ap (λ (l : List KeptSource). start ++ text_of (lines_from words (placing_in plan) p None l))
    (ap (λ (l : List (ℕ × ℕ × ℕ)). sources_at ms (map (λ (q : ℕ × ℕ × ℕ). q.2) l))
    c.deref-4.ensures.value ∙ sym (due-are p plan is positions all sorted)))
    c.put_positions.ensures.ok
