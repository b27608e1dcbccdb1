-- `Marks::make`: what it answers.
use Rattle.std.proofs.Common.{◌∙◌}
use Rattle.std.proofs.lemmas.Simd.{map-map}
use Rattle.td_indices.specs.Stanzas.{package_fields, source_fields}
use Rattle.td_query.specs.Marks.{mark_on}
use Rattle.td_query.specs.Tracking.{tracking}
use Rattle.td_query.proofs.marks.Marks.make.Goals as goal

pub returns : goal.returns
returns g c =
    let a = c.args.archive.now in
    let t = tracking c.args.tracker.now in
    record {
      marks = record {
        packages = c.in_ok-packages.ensures.packages
            ∙ map-map (mark_on t) (package_fields a) a.binaries;
        sources = c.in_ok-packages.ensures.sources
            ∙ map-map (mark_on t) (source_fields a) a.sources;
      };
    }
