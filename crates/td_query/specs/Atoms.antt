-- The texts and patterns of a tracker, and how many stanzas each finds. This project's own.
use Rattle.std.specs.Prelude.{ℕ, List, [], ◌∷◌, ◌++◌, count_by}
use Rattle.regex.specs.Patterns.{Re}
use Rattle.td_indices.specs.declared.archive_fault.IndexFile.{IndexFile}
use Rattle.td_indices.specs.declared.archive_fault.IndexFile.TheVariants.{Packages, Sources}
use Rattle.td_indices.specs.Archive.{Contents}
use Rattle.td_query.specs.declared.atoms.Atom.{Atom}
use Rattle.td_query.specs.declared.atoms.Atom.TheVariants.{Text, Pattern}
use Rattle.td_query.specs.declared.finding.Found.{Found}
use Rattle.td_query.specs.Marks.{kept_fields}
use Rattle.td_query.specs.Query.{Shape, always, text, pattern, negated, both, either}
use Rattle.td_query.specs.Tracking.{Tracking}
use Rattle.td_query.specs.Truth.{truth}

-- the texts and patterns of a query, from the left
abbrev pub atoms_of : Shape → List Shape
atoms_of (always answer) = []
atoms_of (text field t) = text field t ∷ []
atoms_of (pattern field number) = pattern field number ∷ []
atoms_of (negated s) = atoms_of s
atoms_of (both s t) = atoms_of s ++ atoms_of t
atoms_of (either s t) = atoms_of s ++ atoms_of t

-- the texts and patterns of a tracker: those of `is_affected`, of `is_good`, and of `is_bad`
abbrev pub tracker_atoms : Tracking → List Shape
tracker_atoms t = atoms_of t.affected ++ (atoms_of t.good ++ atoms_of t.bad)

-- a text or a pattern, as a query
abbrev pub atom_shape : Atom → Shape
atom_shape (Text field t) = text field.now t.now
atom_shape (Pattern field number) = pattern field.now number

-- how many stanzas of a file that packages, or sources, were kept of satisfy the query
abbrev pub count_in : Contents → List Re → IndexFile → Shape → ℕ
count_in a patterns file s = count_by (λ fields. truth patterns fields s) (kept_fields a file)

-- how many stanzas of both files satisfy the query
abbrev pub found_in : Contents → List Re → Shape → Found
found_in a patterns s = record {
  packages = count_in a patterns Packages s;
  sources = count_in a patterns Sources s;
}
