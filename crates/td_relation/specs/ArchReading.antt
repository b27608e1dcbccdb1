-- How a table of architectures is read: line by line, the first fault decides. This project's own.
use Rattle.std.specs.Prelude.{ℕ, ◌==◌, ◌&&◌, List, [], ◌∷◌, ◌++◌, Option, Some, None, Result, Ok}
use Rattle.std.specs.Prelude.{Err, length, not, if◌then◌else◌}
use Rattle.std.specs.List.{find}
use Rattle.td_text.specs.Chain.{◌>>=◌}
use Rattle.td_text.specs.Cut.{cut}
use Rattle.td_text.specs.Lines.{lines_of, over_lines}
use Rattle.td_relation.specs.declared.archs.ArchsFault.{ArchsFault}
use Rattle.td_relation.specs.declared.archs.ArchsFault.TheVariants.{BadLine, Twice, TooMany}
use Rattle.td_relation.specs.Arch.{ArchWords, is_table_name, is_machine_word}
use Rattle.td_relation.specs.Table.{is_named, is_skipped}

-- the architecture whose line this is
unfoldable pub arch_at : List ℕ → Option ArchWords
arch_at line = do
  a ← cut 32 line
  b ← cut 32 a.1
  if is_table_name a.0 && (is_machine_word b.0 && is_machine_word b.1) then Some (record {
    name =
        a.0;
    os = b.0;
    cpu = b.1;
  }) else None

-- the first line that isn't skipped
abbrev pub first_kept : List (List ℕ) → Option (List ℕ)
first_kept lines = find (λ line. not (is_skipped line)) lines

-- the architectures seen and that of a line, if it is one
abbrev pub add_arch : ℕ → List ArchWords → Option ArchWords → Result (List ArchWords) ArchsFault
add_arch number seen None = Err (BadLine number)
add_arch number seen (Some a) =
    if is_named seen a.name then Err (Twice number)
    else (if length seen == 32 then Err TooMany else Ok (seen ++ a ∷ []))

-- the architectures seen with a line
abbrev pub arch_step : ℕ → List ArchWords → List ℕ → Result (List ArchWords) ArchsFault
arch_step number seen line = if is_skipped line then Ok seen
    else add_arch number seen (arch_at line)

-- the architectures of a text, in the order of its lines
abbrev pub archs_at : List ℕ → Result (List ArchWords) ArchsFault
archs_at text = over_lines arch_step 1 [] (lines_of text)
