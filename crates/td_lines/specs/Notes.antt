-- What is said of the lines of a script, by what the index offers and the suite that a command may
-- name. This project's own.
use Rattle.std.specs.Prelude.{◌≡◌, ℕ, ◌+◌, List, [], ◌∷◌, ◌++◌, Option, Some, None, Result, Ok, Err}
use Rattle.std.specs.Prelude.{codes, decimal, if◌then◌else◌}
use Rattle.std.specs.List.{flat_map}
use Rattle.td_rows.specs.declared.key.Key.{Key}
use Rattle.td_text.specs.Lines.{lines_of}
use Rattle.td_relation.specs.Table.{place_of}
use Rattle.td_supply.specs.Supply.{Stock}
use Rattle.td_wbread.specs.Command.{CommandParts, command_at}
use Rattle.td_wbread.specs.Packages.{PackageText}
use Rattle.td_wbread.specs.declared.fault.CommandFault.{CommandFault}
use Rattle.td_wbread.specs.declared.fault.CommandFault.TheVariants as faults
use Rattle.td_script.specs.declared.line.Said.{Said}
use Rattle.td_script.specs.declared.line.Said.TheVariants.{Skipped, Asked, Bad, Typed}
use Rattle.td_script.specs.declared.request.Request.{Request}
use Rattle.td_script.specs.declared.request.Request.TheVariants.{Undo, Arrive, Sweep, Row, Entry}
use Rattle.td_script.specs.declared.request.Request.TheVariants.{Report, Journal}
use Rattle.td_script.specs.declared.request.Verb.{Verb}
use Rattle.td_script.specs.declared.request.Verb.TheVariants as verb
use Rattle.td_script.specs.Reading.{first_word, said_at, verb_at}
use Rattle.td_script.specs.Replies.{Setting}
use Rattle.td_script.specs.Telling.{Telling}
use Rattle.td_core.specs.History.{History}
use Rattle.td_lines.specs.Faults.{fault_said, of_word}
use Rattle.td_lines.specs.Lost.{is_version, lost_said, version_in, version_said}

-- a note: a line of its own, with the number of the script's line
abbrev pub note : ℕ → List ℕ → List ℕ
note number said = codes "line " ++ (decimal number ++ (codes ": " ++ (said ++ codes "\n")))

-- ---- 1. what names nothing

-- the note of an architecture that isn't in the table
abbrev pub arch_notes : ℕ → List ℕ → Option ℕ → List ℕ
arch_notes number arch None = note number (of_word arch (codes "no architecture of the table"))
arch_notes number arch (Some place) = []

-- the note of a key, given its source's version: its source isn't there, or its architecture
abbrev pub key_notes : Stock → ℕ → Key → Option (List ℕ) → List ℕ
key_notes s number k None = note number (lost_said s k.source)
key_notes s number k (Some version) = arch_notes number k.arch (place_of s.table k.arch)

-- the note of a version that a source with this version hasn't
abbrev pub version_notes : ℕ → List ℕ → List ℕ → Option (List ℕ) → List ℕ
version_notes number source version None = []
version_notes number source version (Some word) =
    if is_version version word then [] else note number (version_said source version word)

-- the note of a package word, given its source's version
abbrev pub package_notes_by : Stock → ℕ → PackageText → Option (List ℕ) → List ℕ
package_notes_by s number p None = note number (lost_said s p.source)
package_notes_by s number p (Some version) = version_notes number p.source version p.version

-- the note of a package word
abbrev pub package_notes : Stock → ℕ → PackageText → List ℕ
package_notes s number p = package_notes_by s number p (version_in s p.source)

-- ---- 2. a line

-- the form of a request
abbrev pub form_of : Option Verb → List ℕ
form_of None = []
form_of (Some verb.Undo) = codes "wanted: undo N"
form_of (Some verb.Arrive) = codes "wanted: arrive SOURCE ARCH"
form_of (Some verb.Sweep) = codes "wanted: sweep"
form_of (Some verb.Row) = codes "wanted: row SOURCE ARCH"
form_of (Some verb.Entry) = codes "wanted: entry N"
form_of (Some verb.Report) = codes "wanted: report"
form_of (Some verb.Journal) = codes "wanted: journal"

-- the notes of a request: only those with a key have some
abbrev pub asked_notes : Stock → ℕ → Request → List ℕ
asked_notes s number (Arrive k) = key_notes s number k (version_in s k.source)
asked_notes s number (Row k) = key_notes s number k (version_in s k.source)
asked_notes s number (Undo n) = []
asked_notes s number Sweep = []
asked_notes s number (Entry n) = []
asked_notes s number Report = []
asked_notes s number Journal = []

-- the notes of a command, or of a line that is none
abbrev pub typed_notes : Stock → List ℕ → ℕ → List ℕ → Result CommandParts CommandFault → List ℕ
typed_notes s suite number line (Ok c) = flat_map (package_notes s number) c.packages
typed_notes s suite number line (Err (faults.Wrong fault place)) =
    note number (fault_said s.table suite line fault place)
typed_notes s suite number line (Err faults.NoMemory) = []

-- the notes of a line by what it is
abbrev pub notes_by : Stock → List ℕ → ℕ → List ℕ → Said → List ℕ
notes_by s suite number line Skipped = []
notes_by s suite number line (Asked r) = asked_notes s number r
notes_by s suite number line Bad = note number (form_of (verb_at (first_word line)))
notes_by s suite number line Typed =
    typed_notes s suite number line (command_at s.table (suite ∷ []) line)

-- the notes of the line with this number
abbrev pub line_notes : Stock → List ℕ → ℕ → List ℕ → List ℕ
line_notes s suite number line = notes_by s suite number line (said_at line)

-- ---- 3. a script

-- the notes of lines, of which the first has this number
unfoldable pub notes_from : Stock → List ℕ → ℕ → List (List ℕ) → List ℕ
notes_from s suite number [] = []
notes_from s suite number (line ∷ lines) =
    line_notes s suite number line ++ notes_from s suite (number + 1) lines

-- the notes of a script
abbrev pub notes : Stock → List ℕ → List ℕ → List ℕ
notes s suite script = notes_from s suite 1 (lines_of script)

-- a script is told by its notes; no history counts, nor how many refusals are told
abbrev pub IsNoted : Telling
IsNoted s h script text refused =
    (suite : List ℕ) × (s.suites ≡ suite ∷ []) × (text ≡ notes s.stock suite script)
