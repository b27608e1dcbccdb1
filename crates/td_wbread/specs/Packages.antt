-- The packages of a command line. This project's own, in the style of wanna-build.
use Rattle.std.specs.Prelude.{ℕ, ◌&&◌, Bool, List, Option, Some, None, is_some, is_ok, Result, Ok}
use Rattle.std.specs.Prelude.{Err, if◌then◌else◌}
use Rattle.std.specs.List.{filter_map}
use Rattle.td_text.specs.Cut.{cut}
use Rattle.td_text.specs.Lines.{on_ok}
use Rattle.td_text.specs.Words.{is_name}
use Rattle.td_version.specs.Reading.{reading}
use Rattle.td_wbread.specs.declared.fault.CommandFault.{CommandFault}
use Rattle.td_wbread.specs.declared.fault.LineFault.TheVariants.{NoPackage, BadPackage, NoDot}
use Rattle.td_wbread.specs.declared.word.Word.{Word}
use Rattle.td_wbread.specs.declared.word.End.{End}
use Rattle.td_wbread.specs.Faults.{all_pass, before_dot, behind_dot, filled, missing}

-- a source, and a version where one is given
pub record PackageText : Type 0 where
  pub source : List ℕ
  pub version : Option (List ℕ)

-- a text that is a version (deb-version(7))
abbrev pub is_version : List ℕ → Bool
is_version text = is_ok (reading text)

-- the source and the version by the cut at the first `_`, which no name has (Debian Policy 5.6.1)
abbrev pub package_cut : List ℕ → Option (List ℕ × List ℕ) → Option PackageText
package_cut text None = if is_name text then Some (record { source = text; version = None })
    else None
package_cut text (Some p) = if is_name p.0 && is_version p.1
    then Some (record { source = p.0; version = Some p.1 }) else None

-- `name` or `name_version`
unfoldable pub package_at : List ℕ → Option PackageText
package_at text = package_cut text (cut 95 text)

-- a text that names a package
abbrev pub is_package : List ℕ → Bool
is_package text = is_some (package_at text)

-- the packages that words name
abbrev pub packages_of : List Word → List PackageText
packages_of words = filter_map (λ w. package_at w.text) words

-- the dot after the packages, and what follows it
abbrev pub dotted : End → List Word → Option (List Word)
    → Result (List Word × List Word) CommandFault
dotted end front None = Err (missing end NoDot)
dotted end front (Some words) = Ok (front, words)

-- the words that name packages, up to the dot, and those after it
abbrev pub packages_at : End → List Word → Result (List Word × List Word) CommandFault
packages_at end words =
    on_ok (filled end NoPackage words) (λ _.
    on_ok (all_pass is_package BadPackage (before_dot words)) (λ _.
    dotted end (before_dot words) (behind_dot words)))
