-- `SourceText::put_all_checks`: the call of `name`, and its loop.
use Rattle.std.proofs.Common.{◌++◌, List, ap, arith, get_or, length, string_bytes, sym, ℕ}
use Rattle.std.proofs.Common.{◌∙◌}
use Rattle.std.proofs.lemmas.List.{get_or_default}
use Rattle.td_text.specs.Lines.{text_of}
use Rattle.td_plan.specs.declared.waits.Waits.{Waits}
use Rattle.td_plan.specs.inner.Writing.{checks_at}
use Rattle.td_plan.proofs.SourcePlaces.{checks-place, text-more}
use Rattle.td_plan.proofs.SourceTexts.{lines-more}
use Rattle.td_plan.proofs.source_text.SourceText.put_all_checks.Goals as goal

pub name-arch-requires : goal.name-arch-requires
name-arch-requires c = omega (
  arith,
  ap length c.archs.ensures,
  c.requires.places c.loop-place.place-index 0 c.loop-place-test.true,
)

pub loop-place-preserved : goal.loop-place-preserved
loop-place-preserved c =
    let table = c.args.self.now.archive.now.table in
    let source = c.args.mover.now.source.name.now in
    let all = c.args.all.now in
    let places = c.args.places.now in
    let i = c.loop-place.place-index in
    let place = get_or places i 0 in
    let low = c.loop-place-test.true in
    let it = get_or_default places i 0 place low in
    let old = string_bytes c.loop-place.out in
    let F = checks_at table source all in
    text-more (string_bytes c.args.out.now) old (string_bytes c.put_checks.new.out) _
    (text_of (F place)) _ c.loop-place.invariant
    (c.in_ok-put_checks.ensures.ok ∙ ap (λ (l : List (List ℕ)). old ++ text_of l)
    (checks-place table _ all source _ place c.index-all-place.result _ c.archs.ensures
    c.name-arch.ensures.name
    (omega (arith, c.requires.all, c.requires.places i 0 low)) c.index-all-place.is
    (c.deref.ensures.value ∙ ap (λ (w : Waits). w.waits.items) (sym c.index-all-place.is))))
    (lines-more F places i place low it)
