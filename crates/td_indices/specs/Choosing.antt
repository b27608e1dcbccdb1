-- The rows with which some of an archive's sources open. This project's own.
use Rattle.std.specs.Prelude.{◌≡◌, ℕ, Bool, true, false, List, [], ◌∷◌, Option, Some, None, filter}
use Rattle.std.specs.Prelude.{slice_get, if◌then◌else◌}
use Rattle.std.specs.List.{list_any}
use Rattle.std.specs.Option.{option_map_or}
use Rattle.std.specs.Str.{bytes_eq}
use Rattle.td_rows.specs.declared.key.Key.{Key}
use Rattle.td_rows.specs.Keys.{ascending}
use Rattle.td_rows.specs.Table.{Table, keys_of, row_of}
use Rattle.td_indices.specs.Archive.{Contents}
use Rattle.td_indices.specs.Opening.{opening_row}
use Rattle.td_indices.specs.Sources.{KeptSource}

-- the sources whose flag is set; the first flag is that of the first source, and beyond the flags
-- no source is chosen
abbrev pub flagged : List Bool → List KeptSource → List KeptSource
flagged [] sources = []
flagged (flag ∷ flags) [] = []
flagged (flag ∷ flags) (s ∷ sources) =
    if flag then s ∷ flagged flags sources else flagged flags sources

-- the sources that the flags choose; without flags each is chosen
abbrev pub chosen : Option (List Bool) → List KeptSource → List KeptSource
chosen None sources = sources
chosen (Some flags) sources = flagged flags sources

-- whether the source with a number is chosen
abbrev pub is_chosen : Option (List Bool) → ℕ → Bool
is_chosen None number = true
is_chosen (Some flags) number = option_map_or (λ flag. flag) (slice_get flags number) false

-- whether a key is one of these sources
abbrev pub is_of_one : List KeptSource → Key → Bool
is_of_one sources k = list_any (λ s. bytes_eq k.source s.head.name) sources

-- the rows with which these sources open: their own among those with which all open
pub record AreOpenedOf (a : Contents) (sources : List KeptSource) (rows : Table) : Type 0 where
  pub all : Table
  pub opened : (k : Key) → row_of all k ≡ opening_row a k
  pub rising : ascending (keys_of all) ≡ true
  pub own : rows ≡ filter (λ p. is_of_one sources p.0) all
