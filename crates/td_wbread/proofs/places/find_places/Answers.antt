-- `find_places`: its loop.
use Rattle.std.proofs.Common.{◌<◌, ◌++◌, ◌∷◌, [], List, ℕ, cond, length, ap, refl, sym, ◌∙◌, rules}
use Rattle.std.proofs.Common.{string_bytes}
use Rattle.std.specs.Str.{bytes_eq}
use Rattle.std.proofs.lemmas.Option.{slice_get_read}
use Rattle.td_wbread.specs.declared.command.Package.{Package}
use Rattle.td_wbread.specs.inner.Places.{places_of}
use Rattle.td_wbread.proofs.PackagePlaces.{find_more}
use Rattle.td_wbread.proofs.places.find_places.Goals as goal

pub loop-place-preserved : goal.loop-place-preserved
loop-place-preserved c =
    let inside : c.loop-place.place < length c.args.packages.now = search rules in
    let here = slice_get_read c.args.packages.now (length c.args.packages.now) c.loop-place.place
    c.index-packages-place.result refl inside c.index-packages-place.is in
    let old = places_of c.loop-place.places in
    let text = c.as_str.ensures.value ∙ ap (λ (p : Package). string_bytes p.source)
    (sym c.index-packages-place.is) in
    find_more c.args.packages.now c.loop-place.places c.push.new.self c.loop-place.place
    c.index-packages-place.result inside c.index-packages-place.is here
    (λ q. c.in_ok-push.ensures q
    ∙ ap (λ (t : List ℕ). cond (bytes_eq q t) (old q ++ c.loop-place.place ∷ []) (old q))
    text)
    c.loop-place.invariant
