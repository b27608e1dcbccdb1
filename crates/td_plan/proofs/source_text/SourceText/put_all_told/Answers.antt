-- `SourceText::put_all_told`: the call of `put_told`, and its loop.
use Rattle.std.proofs.Common.{◌<◌, length, string_bytes, subst, sym}
use Rattle.std.specs.List.{All}
use Rattle.td_plan.specs.declared.relations.Told.{Told}
use Rattle.td_plan.specs.inner.Inputs.{kept_source}
use Rattle.td_plan.specs.inner.Told.{seen_told}
use Rattle.td_plan.specs.inner.Writing.{group_lines, seen_words}
use Rattle.td_plan.proofs.SourcePlaces.{mapped-more, text-more}
use Rattle.td_plan.proofs.source_text.SourceText.put_all_told.Goals as goal

pub put_told-requires-clause-places : goal.put_told-requires-clause-places
put_told-requires-clause-places c =
    subst (λ (t : Told). All (λ place. place < length c.args.self.now.archive.now.table)
    t.places.items) (sym c.one-item.is)
    (c.requires.places c.loop-one.one-index c.one-item.result c.loop-one-test.true)

pub loop-one-preserved : goal.loop-one-preserved
loop-one-preserved c =
    let t = c.args.self.now in
    let told = c.args.told.now in
    text-more (string_bytes c.args.out.now) (string_bytes c.loop-one.out)
    (string_bytes c.put_told.new.out) _ _ _ c.loop-one.invariant c.in_ok-put_told.ensures.ok
    (mapped-more seen_told (group_lines (seen_words t.words.now) t.archive.now.table
    (kept_source c.args.mover.now.source) c.args.all.now) told c.loop-one.one-index
    c.one-item.result c.loop-one-test.true c.one-item.is)
