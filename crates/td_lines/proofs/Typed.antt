-- The notes of a command are those of its package words.
use Rattle.std.proofs.Common.{◌≡◌, ℕ, List, ◌++◌, Result, Ok, ap, sym, ◌∙◌}
use Rattle.std.specs.List.{flat_map}
use Rattle.std.proofs.lemmas.List.Folds.{flat_map-map}
use Rattle.td_supply.specs.Supply.{Stock}
use Rattle.td_wbread.specs.declared.command.Command.{Command}
use Rattle.td_wbread.specs.declared.command.Package.{Package}
use Rattle.td_wbread.specs.declared.fault.CommandFault.{CommandFault}
use Rattle.td_wbread.specs.Command.{CommandParts}
use Rattle.td_wbread.specs.Views.{package_of, parts_of}
use Rattle.td_lines.specs.Notes.{package_notes, typed_notes}

pub of_packages : (s : Stock) (suite : List ℕ) (number : ℕ) (line : List ℕ)
    (read : Result CommandParts CommandFault) (c : Command) (items : List Package)
    (before after : List ℕ) → read ≡ Ok (parts_of c) → items ≡ c.packages.items
    → after ≡ before ++ flat_map (λ p. package_notes s number (package_of p)) items
    → after ≡ before ++ typed_notes s suite number line read
of_packages s suite number line read c items before after is same so =
    so ∙ ap (λ x. before ++ x)
    (ap (flat_map (λ (p : Package). package_notes s number (package_of p))) same
    ∙ sym (flat_map-map (package_notes s number) package_of c.packages.items)
    ∙ sym (ap (typed_notes s suite number line) is))
