-- The rows that a command names, and those of them whose version matches. This project's own, in
-- the style of wanna-build.
use Rattle.std.specs.Prelude.{◌≡◌, ℕ, Bool, false, ◌&&◌, ◌||◌, List, Option, Some, None, is_some}
use Rattle.std.specs.Prelude.{filter, slice_get}
use Rattle.std.specs.List.{filter_map}
use Rattle.std.specs.Option.{option_and_then}
use Rattle.std.specs.Result.{result_ok}
use Rattle.td_rows.specs.declared.key.Key.{Key}
use Rattle.td_rows.specs.Keys.{names}
use Rattle.td_rows.specs.Table.{Table, row_of, keys_of}
use Rattle.td_supply.specs.Supply.{SupplyView, version_of}
use Rattle.td_version.specs.Reading.{reading}
use Rattle.td_version.specs.Version.{Parts}
use Rattle.td_wbread.specs.Command.{CommandParts}
use Rattle.td_wbread.specs.Naming.{is_named, is_matched, is_bare}

-- ---- 1. the rows that are named

-- the keys of the rows that the command names, in order
abbrev pub named_in : CommandParts → Table → List Key
named_in c t = filter (λ k. is_named c k.source k.arch) (keys_of t)

-- the keys of the rows with these numbers
unfoldable pub keys_at : Table → List ℕ → List Key
keys_at t numbers = filter_map (slice_get (keys_of t)) numbers

-- to the keys came those of the rows whose keys pass a test
abbrev pub Adds : Table → List Key → List Key → (Key → Bool) → Type 0
Adds t old new p = (k : Key) → names new k ≡ (names old k || (p k && is_some (row_of t k)))

-- ---- 2. their versions

-- the version of a source by its parts, none where the supply has none; each that it has can be
-- read
abbrev pub version_in : SupplyView → List ℕ → Option Parts
version_in s source = option_and_then (λ text. result_ok (reading text)) (version_of s source)

-- whether the version of a row matches: its source's, and the row's number; a source without a
-- version matches where some package word has it without a version
abbrev pub is_matched_as : CommandParts → List ℕ → ℕ → Option Parts → Bool
is_matched_as c source number (Some version) = is_matched c source version number
is_matched_as c source number None = is_bare c source

-- whether the key has a row, and the row's version matches
abbrev pub is_matched_at : CommandParts → SupplyView → Table → Key → Bool
is_matched_at c s t k =
    elim (row_of t k) [
      | Some row ↦ is_matched_as c k.source row.number
          (version_in s k.source)
      | None ↦ false
    ]
