-- How the lines of a plan are read. This project's own, in the style of wanna-build.
use Rattle.std.specs.Prelude.{◌≡◌, ◌⊎◌, ℕ, ◌<◌, ◌≤◌, ◌^◌, ◌==◌, Bool, IsTrue, true, false, List, []}
use Rattle.std.specs.Prelude.{◌∷◌}
use Rattle.std.specs.Prelude.{Some, None, Ok, filter, length, map, if◌then◌else◌}
use Rattle.std.specs.List.{AllByRecursion, Contains, list_any}
use Rattle.td_text.specs.Limits.{max_rebuild}
use Rattle.td_text.specs.Words.{is_name}
use Rattle.td_version.specs.Base.{base_of}
use Rattle.td_version.specs.Grammar.{IsVersion}
use Rattle.td_version.specs.Version.{Parts}
use Rattle.td_relation.specs.declared.relation.Operator.TheVariants.{LaterOrEqual}
use Rattle.td_relation.specs.Arch.{ArchFits, ArchWords}
use Rattle.td_relation.specs.Asked.{Asked}
use Rattle.td_relation.specs.RelationGrammar.{relation_at}
use Rattle.td_rows.specs.declared.key.Key.{Key}
use Rattle.td_rows.specs.declared.row.Row.{Row}
use Rattle.td_rows.specs.KeyText.{KeyFits}
use Rattle.td_rows.specs.StateWord.{StateFits}
use Rattle.td_rows.specs.Text.{has_newline}
use Rattle.td_supply.specs.Supplied.{with_rebuild}
use Rattle.td_supply.specs.VersionTexts.{IsVersionText}
use Rattle.td_indices.specs.Opening.{rebuild_number}
use Rattle.td_indices.specs.Sources.{KeptSource}
use Rattle.td_query.specs.declared.status.Status.{Status}
use Rattle.td_wbread.specs.Command.{CommandParts, command_at}
use Rattle.td_wbread.specs.Packages.{PackageText}
use Rattle.td_wbread.specs.Tail.{is_suite as is_known_suite}
use Rattle.td_wbread.specs.declared.command.Verb.{Verb}
use Rattle.td_wbread.specs.declared.command.Verb.TheVariants.{Dw, Nmu}
use Rattle.td_plan.specs.Lines.{Words, check_line, dw_line, left_line, nmu_line, no_wait_line}
use Rattle.td_plan.specs.Lines.{part_line, step_line, title_of}
use Rattle.td_plan.specs.Message.{can_be_quoted, is_suite}
use Rattle.td_plan.specs.Packages.{is_written, rebuilt_text}
use Rattle.td_plan.specs.Reasons.{Reason}
use Rattle.td_plan.specs.Relations.{relation_of}
use Rattle.td_plan.specs.Waits.{Wait}

-- ---- 1. commands

-- the source that a command names: with its version, unless that ends in `+bN`
abbrev pub package_of : KeptSource → PackageText
package_of s = record {
  source = s.head.name;
  version = if rebuild_number s.head.version == 0 then Some s.head.version else None;
}

-- a command of a plan: a verb, one source, architectures, and a text
abbrev pub command_with : Verb → KeptSource → List (List ℕ) → List ℕ → CommandParts
command_with verb s archs text = record {
  verb = verb;
  packages = package_of s ∷ [];
  archs = archs;
  message = text;
  extra = [];
}

-- names of architectures of a table, each once and in its order: those of it that pass some test
abbrev pub AreOfTable : List ArchWords → List (List ℕ) → Type 0
AreOfTable table archs = (test : List ℕ → Bool)
    × (archs ≡ filter test (map (λ a. a.name) table))

-- a text is a relation, on one line and without `"`
pub record IsQuotable (text : List ℕ) : Type 0 where
  pub members : List (List Asked)
  pub read : relation_at text ≡ Ok members
  pub one_line : has_newline text ≡ false
  pub unquoted : list_any (λ c. c == 34) text ≡ false

-- a table of architectures, a source, a message and a suite that lines can have; and architectures
-- of the table, in its order
pub record IsSayable (table : List ArchWords) (s : KeptSource) (words : Words)
    (archs : List (List ℕ)) : Type 0 where
  pub table_fits : (a : ArchWords) → Contains table a → ArchFits a
  pub name : IsTrue (is_name s.head.name)
  pub version : IsVersionText s.head.version
  pub message : IsTrue (can_be_quoted words.message)
  pub suite : IsTrue (is_suite words.suite)
  pub some : 0 < length archs
  pub chosen : AreOfTable table archs

-- an `nmu` line is read as the rebuild of those rows under the number, if its suite is known
abbrev pub NmuLinesAreRead : Type 0
NmuLinesAreRead = (table : List ArchWords) (suites : List (List ℕ)) (s : KeptSource)
    (words : Words) (number : ℕ) (archs : List (List ℕ)) → IsSayable table s words archs
    → IsTrue (is_known_suite suites words.suite) → 0 < number → number ≤ max_rebuild
    → command_at table suites (nmu_line words s number archs)
    ≡ Ok (command_with (Nmu (Some number)) s archs words.message)

-- a `dw` line is read as the order to wait for that relation
abbrev pub DwLinesAreRead : Type 0
DwLinesAreRead = (table : List ArchWords) (suites : List (List ℕ)) (s : KeptSource)
    (words : Words) (relation : List ℕ) (archs : List (List ℕ)) → IsSayable table s words archs
    → IsTrue (is_known_suite suites words.suite) → IsQuotable relation
    → command_at table suites (dw_line words s archs relation)
    ≡ Ok (command_with Dw s archs relation)

-- ---- 2. relations

-- a wait that can be written: a package's name (Debian Policy 5.6.1), and a version as the text
-- that it is (deb-version(7))
pub record CanBeWritten (w : Wait) : Type 0 where
  pub name : IsTrue (is_name w.name)
  pub version : IsVersion w.version w.parts

-- what a wait asks: its package, in its version or a later one, whatever the architecture
abbrev pub asked_for : Wait → Asked
asked_for w = record {
  name = w.name;
  restriction = Some (record { operator = LaterOrEqual; version = w.parts });
  archs = None;
  unprofiled = true;
}

-- the relation of some waits is read as each of them, a member each and in their order; and it can
-- be put between the quotes of a `dw` line
abbrev pub RelationsAreRead : Type 0
RelationsAreRead = (waits : List Wait) → 0 < length waits → AllByRecursion CanBeWritten waits
    → (relation_at (relation_of waits) ≡ Ok (map (λ w. asked_for w ∷ []) waits))
    × IsQuotable (relation_of waits)

-- the version of a rebuild of one that was read, or of its base, is read as it was meant, if it can
-- be written
abbrev pub RebuiltVersionsAreRead : Type 0
RebuiltVersionsAreRead = (text : List ℕ) (p base : Parts) (number : ℕ) → number ≤ max_rebuild
    → IsVersion text p → ((base ≡ p) ⊎ (base ≡ base_of p)) → IsTrue (is_written base number)
    → IsVersion (rebuilt_text base number) (with_rebuild base number)

-- ---- 3. comments

-- a line that begins with `#`, by which a script skips it, and that ends at its own newline
pub record IsComment (line : List ℕ) : Type 0 where
  pub rest : List ℕ
  pub begins : line ≡ 35 ∷ rest
  pub one_line : has_newline line ≡ false

-- each line of a plan that is no command is a comment, if its names are names
pub record CommentsAreSkipped : Type 0 where
  pub title : (title : List ℕ) → AllByRecursion IsComment (title_of title)
  pub step : (step : ℕ) → step < 2 ^ 64 → IsComment (step_line step)
  pub part : (sources : List (List ℕ)) → AllByRecursion (λ name. IsTrue (is_name name)) sources
      → IsComment (part_line sources)
  pub check : (k : Key) (name on : List ℕ) → KeyFits k → IsTrue (is_name name)
      → IsTrue (is_name on) → IsComment (check_line k name on)
  pub no_wait : (k : Key) (on : List ℕ) → KeyFits k → IsTrue (is_name on)
      → IsComment (no_wait_line k on)
  pub left : (k : Key) (status : Status) (row : Row) (reason : Reason) → KeyFits k
      → StateFits row.state → row.number ≤ max_rebuild → IsComment (left_line k status row reason)
