-- Which words are packages with a dot after them, said of the whole list. This project's own.
use Rattle.std.specs.Prelude.{◌≡◌, ◌↔◌, ◌<◌, true, false, List, ◌∷◌, ◌++◌, Ok, length}
use Rattle.std.specs.List.{list_all, list_any}
use Rattle.td_wbread.specs.declared.word.Word.{Word}
use Rattle.td_wbread.specs.declared.word.End.{End}
use Rattle.td_wbread.specs.Faults.{is_dot}
use Rattle.td_wbread.specs.Packages.{is_package, packages_at}

-- the words are these, which name packages and of which there is one at least, a dot, and the rest
pub record ArePackages (words front rest : List Word) : Type 0 where
  pub dot : Word
  pub joined : words ≡ front ++ dot ∷ rest
  pub dotted : is_dot dot ≡ true
  pub no_dot : list_any is_dot front ≡ false
  pub some : 0 < length front
  pub packages : list_all (λ w. is_package w.text) front ≡ true

-- words are read as packages if and only if they name packages, at least one, and a dot and the
-- rest come after them
abbrev pub PackagesAreExact : Type 0
PackagesAreExact = (end : End) (words front rest : List Word)
    → (packages_at end words ≡ Ok (front, rest)) ↔ ArePackages words front rest
