-- Architectures as the table names them, and the words that match them.
use Rattle.std.specs.Prelude.{ℕ, nat_eq, nat_lt, ◌&&◌, ◌||◌, not, Bool, IsTrue, List, ◌∷◌, ◌++◌}
use Rattle.std.specs.Prelude.{length, codes}
use Rattle.std.specs.List.{list_all, starts_with, ends_with}
use Rattle.std.specs.Str.{bytes_eq}
use Rattle.td_text.specs.Words.{is_alphanumeric, is_arch}
use Rattle.td_relation.specs.declared.arch.Arch.{Arch}

-- an architecture's name, operating system and processor
pub record ArchWords : Type 0 where
  pub name : List ℕ
  pub os : List ℕ
  pub cpu : List ℕ

-- the name, operating system and processor that an `Arch` holds
abbrev pub words_of : Arch → ArchWords
words_of a = record { name = a.name.now; os = a.os.now; cpu = a.cpu.now }

-- an operating system or a processor:
-- lower-case letters and digits, and not `any` (this project's own)
abbrev pub is_machine_word : List ℕ → Bool
is_machine_word text = nat_lt 0 (length text)
    && (list_all is_alphanumeric text && not (bytes_eq text (codes "any")))

-- a word that an Architecture field uses for something else (Policy 5.6.8)
abbrev pub is_reserved : List ℕ → Bool
is_reserved text = bytes_eq text (codes "all")
    || (bytes_eq text (codes "any") || bytes_eq text (codes "source"))

-- a name that the table may give: none with `any` as its first or its last part (this project's
-- own)
abbrev pub is_table_name : List ℕ → Bool
is_table_name text =
    is_arch text
    && (not (is_reserved text)
    && (not (starts_with nat_eq text (codes "-"))
    && (not (starts_with nat_eq text (codes "any-"))
    && not (ends_with nat_eq text (codes "-any")))))

-- a line of the table: `NAME OS CPU` (this project's own)
abbrev pub arch_line : ArchWords → List ℕ
arch_line a = a.name ++ 32 ∷ (a.os ++ 32 ∷ a.cpu)

-- what the table may hold
pub record ArchFits (a : ArchWords) : Type 0 where
  pub name : IsTrue (is_table_name a.name)
  pub os : IsTrue (is_machine_word a.os)
  pub cpu : IsTrue (is_machine_word a.cpu)

-- the words that match an architecture: its name, `any`, `os-any` and `any-cpu` (Policy 11.1.1;
-- other wildcards match nothing but a name that is spelled so, this project's own)
abbrev pub matches : ArchWords → List ℕ → Bool
matches a word = bytes_eq word a.name || (bytes_eq word (codes "any")
    || (bytes_eq word (a.os ++ codes "-any") || bytes_eq word (codes "any-" ++ a.cpu)))
