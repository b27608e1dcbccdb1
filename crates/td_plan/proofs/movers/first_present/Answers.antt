-- `first_present`: what it answers.
use Rattle.std.proofs.Common.{◌∙◌, ℕ, None, Option, ap, fold, refl, slice_get}
use Rattle.td_indices.specs.Archive.{is_of}
use Rattle.td_indices.specs.Kept.{KeptBinary}
use Rattle.td_indices.specs.Opening.{is_current}
use Rattle.td_plan.specs.InOrder.{earlier}
use Rattle.td_plan.specs.Packages.{package_name}
use Rattle.td_plan.specs.inner.Inputs.{kept_source}
use Rattle.td_plan.specs.inner.Movers.{stepped}
use Rattle.td_plan.proofs.Picking.{fold-places}
use Rattle.td_plan.proofs.movers.first_present.Goals as goal

pub returns : goal.returns
returns c =
    let a = c.args.archive.now in
    let s = kept_source c.args.source.now in
    let there = is_current s.head.parts c.args.place in
    let step = λ (w : Option KeptBinary) (k : ℕ). stepped (earlier package_name) there w
    (slice_get a.binaries k) in
    c.first_among.ensures ∙ ap (fold step None) c.packages_of.ensures.numbers
    ∙ fold-places (earlier package_name) (is_of s.head.name) there a.binaries a.binaries 0 None refl
