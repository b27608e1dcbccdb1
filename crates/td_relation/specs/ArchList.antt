-- Architecture lists: `[amd64 i386]`, `[!hurd-any]` (Policy 7.1).
use Rattle.std.specs.Prelude.{ℕ, ◌==◌, not, Bool, List, [], ◌∷◌, length, slice_index, if◌then◌else◌}
use Rattle.std.specs.List.{filter, list_any, slice_split}
use Rattle.td_text.specs.Runs.{is_space}
use Rattle.td_relation.specs.Arch.{ArchWords, matches}

-- the words of a text: its pieces between whitespace that aren't empty
abbrev pub words : List ℕ → List (List ℕ)
words text = filter (λ w. not (length w == 0)) (slice_split is_space text)

-- a word that begins with `!`
abbrev pub is_negated : List ℕ → Bool
is_negated word = slice_index word 0 == 33

-- a word without the `!` at its beginning
abbrev pub bare : List ℕ → List ℕ
bare [] = []
bare (b ∷ word) = if b == 33 then word else b ∷ word

-- on an architecture a plain list counts where some word matches it,
-- a negated one where none does (Policy 7.1)
abbrev pub counts : ArchWords → List (List ℕ) → Bool
counts a list = if list_any is_negated list then not (list_any (λ w. matches a (bare w)) list)
    else list_any (λ w. matches a (bare w)) list
