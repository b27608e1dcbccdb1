-- What the loop of `make_packages` keeps.
use Rattle.std.proofs.Common.{◌≡◌, map, take}
use Rattle.td_wbread.specs.Packages.{packages_of}
use Rattle.td_wbread.specs.Views.{package_of}
use Rattle.td_wbread.proofs.building.make_packages.Given as goal

abbrev pub invariant-loop-word : goal.invariant-loop-word
invariant-loop-word l = map package_of l.packages.items ≡ packages_of (take l.word-index l.words)
