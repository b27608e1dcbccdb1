-- `mover_of`: the clause `mover`.
use Rattle.std.proofs.Common.{◌≡◌, ◌∙◌, ◌<◌, None, ap, refl, slice_get, subst, sym}
use Rattle.std.specs.Prelude.{length, slice_index_or}
use Rattle.td_indices.specs.Archive.{Contents}
use Rattle.td_plan.specs.Due.{is_present}
use Rattle.td_plan.specs.InOrder.{first_where}
use Rattle.td_plan.specs.Packages.{package_name}
use Rattle.td_plan.specs.inner.Inputs.{kept_source}
use Rattle.td_plan.specs.inner.Movers.{package_numbered}
use Rattle.td_plan.proofs.movers.mover_of.Goals as goal

pub returns-clause-mover : goal.returns-clause-mover
returns-clause-mover c = λ p of affected.
    let s = kept_source c.args.source in
    let a = c.args.inputs.now.archive.now in
    record {
      shown = refl;
      at = ap (λ (b : Contents). slice_get b.sources c.args.number) (sym of.archive) ∙ c.requires;
      affected = affected;
      motions = c.in_ok-motions.ensures.motions p of;
      packages = record {
        len = c.in_ok-packages.ensures.len
            ∙ ap (λ (b : Contents). length b.table) of.archive;
        at = λ place low.
            subst (λ (b : Contents). place < length b.table
            → package_numbered b (slice_index_or c.in_ok-packages.packages.items place None)
            ≡ first_where package_name (is_present s place) b.binaries) of.archive
            (c.in_ok-packages.ensures.packages place) low;
      };
    }
