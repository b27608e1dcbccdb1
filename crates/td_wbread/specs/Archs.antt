-- The architectures of a command line. This project's own, in the style of wanna-build.
use Rattle.std.specs.Prelude.{ℕ, ◌||◌, Bool, true, false, List, [], ◌∷◌, Option, Some, None}
use Rattle.std.specs.Prelude.{is_some, Result, Ok, Err, codes, fold, filter, map, if◌then◌else◌}
use Rattle.std.specs.Str.{bytes_eq}
use Rattle.td_text.specs.Cut.{strip}
use Rattle.td_text.specs.Lines.{on_ok}
use Rattle.td_relation.specs.Arch.{ArchWords}
use Rattle.td_relation.specs.Table.{place_of}
use Rattle.td_wbread.specs.declared.fault.CommandFault.{CommandFault}
use Rattle.td_wbread.specs.declared.fault.CommandFault.TheVariants.{Wrong}
use Rattle.td_wbread.specs.declared.fault.LineFault.TheVariants.{NoArch, UnknownArch}
use Rattle.td_wbread.specs.declared.word.Word.{Word}
use Rattle.td_wbread.specs.declared.word.End.{End}
use Rattle.td_wbread.specs.Faults.{all_pass, before_dot, behind_dot, filled}

-- an architecture of the table
abbrev pub is_known : List ArchWords → List ℕ → Bool
is_known table name = is_some (place_of table name)

-- every architecture
abbrev pub is_all : List ℕ → Bool
is_all text = bytes_eq text (codes "ANY") || bytes_eq text (codes "ALL")

-- what passes a test, where it is there
abbrev pub passes : (List ℕ → Bool) → Option (List ℕ) → Bool
passes test None = false
passes test (Some text) = test text

-- a name, `ANY` or `ALL`
abbrev pub is_choice : List ArchWords → List ℕ → Bool
is_choice table text = is_all text || is_known table text

-- `-name`
abbrev pub is_removal : List ArchWords → List ℕ → Bool
is_removal table text = passes (is_known table) (strip (codes "-") text)

-- any of these
abbrev pub is_arch_word : List ArchWords → List ℕ → Bool
is_arch_word table text = is_choice table text || is_removal table text

-- the first word chooses, each further one chooses or takes away
abbrev pub archs_checked : List ArchWords → List Word → Result Unit CommandFault
archs_checked table [] = Ok tt
archs_checked table (word ∷ words) =
    if is_choice table word.text then all_pass (is_arch_word table) UnknownArch words
    else Err (Wrong UnknownArch word.place)

-- the words that name architectures, up to a dot or the end, and those after the dot, if it is
-- there
abbrev pub archs_at : List ArchWords → End → List Word
    → Result (List Word × Option (List Word)) CommandFault
archs_at table end words =
    on_ok (filled end NoArch words) (λ _.
    on_ok (archs_checked table (before_dot words)) (λ _.
    Ok (before_dot words, behind_dot words)))

-- whether a name is chosen with this word more
abbrev pub chosen_with : List ℕ → Bool → List ℕ → Bool
chosen_with name chosen text =
    if is_all text || bytes_eq text name then true
    else (if passes (λ t. bytes_eq t name) (strip (codes "-") text) then false else chosen)

-- whether words choose a name: from left to right, the last that speaks of it decides
abbrev pub is_chosen : List Word → List ℕ → Bool
is_chosen words name = fold (λ chosen w. chosen_with name chosen w.text) false words

-- the names that words choose, in the order of the table
abbrev pub chosen_names : List ArchWords → List Word → List (List ℕ)
chosen_names table words = filter (is_chosen words) (map (λ a. a.name) table)
