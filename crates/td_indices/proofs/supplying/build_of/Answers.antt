-- `build_of`: what it answers.
use Rattle.std.proofs.Common.{Option, Some, sym, ap, ◌∙◌}
use Rattle.td_version.specs.Version.{Parts, parts_of}
use Rattle.td_supply.specs.Supplied.{Built}
use Rattle.td_indices.specs.Supplying.{build_of}
use Rattle.td_indices.proofs.SourceLookups.{found_source, no_source}
use Rattle.td_indices.proofs.supplying.build_of.Goals as goal

pub returns-in-Some : goal.returns-in-Some
returns-in-Some c =
    let p = c.args.packaged.now in
    let made : Parts → Option Built =
    λ base. Some (record { source = p.source.now; base = base }) in
    ap made c.base_version.ensures
    ∙ sym (ap (build_of p.source.now (parts_of p.parts) (parts_of p.source_parts))
    (found_source p.source.now c.args.sources.now.entries c.in-Some.field-0-0.now
    c.in-Some.sourced.now (sym c.in-Some.ensures.key) (sym c.in-Some.ensures.value)))

pub returns-in-None : goal.returns-in-None
returns-in-None c =
    let p = c.args.packaged.now in
    sym (ap (build_of p.source.now (parts_of p.parts) (parts_of p.source_parts))
    (no_source p.source.now c.args.sources.now.entries (sym c.in-None.ensures.value)))
