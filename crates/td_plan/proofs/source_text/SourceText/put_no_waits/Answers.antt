-- `SourceText::put_no_waits`: the call of `name`, and its loop.
use Rattle.std.proofs.Common.{◌++◌, List, ap, arith, length, string_bytes, sym, ℕ, ◌∙◌}
use Rattle.td_text.specs.Lines.{text_of}
use Rattle.td_plan.specs.declared.waits.Waits.{Waits}
use Rattle.td_plan.specs.inner.Writing.{no_waits_at}
use Rattle.td_plan.proofs.SourcePlaces.{no-waits-place, range-lines, text-more}
use Rattle.td_plan.proofs.source_text.SourceText.put_no_waits.Goals as goal

pub name-arch-requires : goal.name-arch-requires
name-arch-requires c = omega (arith, ap length c.archs.ensures, c.requires)

pub loop-place-preserved : goal.loop-place-preserved
loop-place-preserved c =
    let table = c.args.self.now.archive.now.table in
    let source = c.args.mover.now.source.name.now in
    let all = c.args.all.now in
    let place = c.loop-place.place in
    let old = string_bytes c.loop-place.out in
    let F = no_waits_at table source all in
    text-more (string_bytes c.args.out.now) old (string_bytes c.put_waitless.new.out) _
    (text_of (F place)) _ c.loop-place.invariant
    (c.in_ok-put_waitless.ensures.ok ∙ ap (λ (l : List (List ℕ)). old ++ text_of l)
    (no-waits-place table _ all source _ place c.index-all-place.result _ c.archs.ensures
    c.name-arch.ensures.name c.loop-place-test.true c.index-all-place.is
    (c.deref.ensures.value ∙ ap (λ (w : Waits). w.waitless.items) (sym c.index-all-place.is))))
    (range-lines F place)
