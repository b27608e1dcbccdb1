-- `fits`: what it answers and its loop.
use Rattle.std.proofs.Common.{sym, ◌∙◌, length, arith}
use Rattle.td_text.proofs.Anywhere.{any-below, none-more}
use Rattle.td_relation.specs.Asked.{asked}
use Rattle.td_waves.specs.BuildsOn.{fits_at}
use Rattle.td_waves.proofs.fitting.fits.Goals as goal

pub returns-then-fits_at : goal.returns-then-fits_at
returns-then-fits_at c =
    sym (any-below (fits_at c.args.archive.now c.args.source
    (asked c.args.alternative.now) c.args.home)
    (length c.args.archive.now.table) c.loop-place.place
    (omega (arith, c.loop-place-test.true, c.arch_count-place-end.ensures))
    (sym c.fits_at.ensures ∙ c.if-fits_at.true))

pub loop-place-preserved : goal.loop-place-preserved
loop-place-preserved c =
    none-more (fits_at c.args.archive.now c.args.source (asked c.args.alternative.now) c.args.home)
    c.loop-place.place c.loop-place.invariant (sym c.fits_at.ensures ∙ c.if-fits_at.false)
