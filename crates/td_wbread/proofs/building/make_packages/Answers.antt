-- `make_packages`: its loop.
use Rattle.std.proofs.Common.{◌<◌, ◌∙◌, ◌++◌, ◌∷◌, [], length, map, ap, rules, Vec, Global}
use Rattle.std.proofs.lemmas.List.{map-append}
use Rattle.td_wbread.specs.declared.command.Package.{Package}
use Rattle.td_wbread.specs.Packages.{PackageText, package_at}
use Rattle.td_wbread.specs.Views.{package_of, package_text}
use Rattle.td_wbread.proofs.Making.{package_kept, package_skipped}
use Rattle.td_wbread.proofs.building.make_packages.Goals as goal
use Rattle.td_wbread.proofs.building.make_packages.Goals.{in-Some+in_ok-make_package+in_ok-push}
use Rattle.td_wbread.proofs.building.make_packages.Goals.{in_default}

pub loop-word-preserved : goal.loop-word-preserved
loop-word-preserved c =
    let inside : c.loop-word.word-index < length c.args.words.now = search rules in
    elim c.match-read_package.branch [
      | in-Some+in_ok-make_package+in_ok-push w ↦
          ap (λ (v : Vec Package Global). map package_of v.items) w.packages-is
          ∙ ap (map package_of) w.in_ok-push.ensures.items
          ∙ map-append package_of c.loop-word.packages.items (w.in_ok-make_package.field-0 ∷ [])
          ∙ ap (λ (p : PackageText). map package_of c.loop-word.packages.items ++ p ∷ [])
          w.in_ok-make_package.ensures
          ∙ package_kept c.args.words.now c.loop-word.word-index c.word-item.result _
          (package_text w.in-Some.parts) inside c.word-item.is
          (w.in-Some.ensures ∙ ap package_at c.as_str.ensures.text) c.loop-word.invariant
      | in_default w ↦
          ap (λ (v : Vec Package Global). map package_of v.items) w.packages-is
          ∙ package_skipped c.args.words.now c.loop-word.word-index c.word-item.result _ inside
          c.word-item.is (w.in_default.ensures ∙ ap package_at c.as_str.ensures.text)
          c.loop-word.invariant
    ]
