-- `Binaries::get_index`: what it answers.
use Rattle.std.proofs.Common.{List, option_map, slice_get, ap, sym, ◌∙◌}
use Rattle.std.specs.Global.{Vec}
use Rattle.std.specs.Map.Iter.{deref_pair}
use Rattle.td_indices.specs.declared.packaged.PackageKey.{PackageKey}
use Rattle.td_indices.specs.declared.packaged.Packaged.{Packaged}
use Rattle.td_indices.specs.declared.placing.Place.{Place}
use Rattle.td_indices.specs.inner.Placed.{packaged_in}
use Rattle.td_indices.proofs.PlacedPackages.{get-gone, get-none, get-some}
use Rattle.td_indices.proofs.binaries.Binaries.get_index.Goals as goal

pub returns-in_err-key : goal.returns-in_err-key
returns-in_err-key c = record {
  entry = ap (option_map deref_pair) c.from_residual.ensures
      ∙ sym (get-none c.self.inside.parts.items c.self.inside.places.entries c.args.number
      c.self.invariant (sym c.in_err-key.ensures.entry))
      ∙ ap (λ (l : List (PackageKey × Packaged)). slice_get l c.args.number) c.self.view_is;
}

pub returns-in_err-packaged : goal.returns-in_err-packaged
returns-in_err-packaged c =
    let e : PackageKey × Place = (c.in_ok-key.key.now, c.in_ok-key.place.now) in
    record {
      entry = ap (option_map deref_pair) c.from_residual-in_err-packaged.ensures
          ∙ sym (get-gone c.self.inside.parts.items c.self.inside.places.entries c.args.number
          e c.self.invariant (sym c.in_ok-key.ensures.entry)
          (sym (c.in_err-packaged.ensures
          ∙ ap (λ (ps : List (Vec (PackageKey × Packaged))). packaged_in ps e.1)
          c.deref.ensures.value)))
          ∙ ap (λ (l : List (PackageKey × Packaged)). slice_get l c.args.number) c.self.view_is;
    }

pub returns : goal.returns
returns c =
    let e : PackageKey × Place = (c.in_ok-key.key.now, c.in_ok-key.place.now) in
    record {
      entry = sym (get-some c.self.inside.parts.items c.self.inside.places.entries c.args.number
          e c.in_ok-packaged.packaged.now c.self.invariant (sym c.in_ok-key.ensures.entry)
          (sym (c.in_ok-packaged.ensures
          ∙ ap (λ (ps : List (Vec (PackageKey × Packaged))). packaged_in ps e.1)
          c.deref.ensures.value)))
          ∙ ap (λ (l : List (PackageKey × Packaged)). slice_get l c.args.number) c.self.view_is;
    }
