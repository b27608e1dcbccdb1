-- The lines of a report. This project's own.
use Rattle.std.specs.Prelude.{ℕ, ◌==◌, ◌∷◌, ◌++◌, [], List, Bool, true, false, Option, Some, None}
use Rattle.std.specs.Prelude.{map, filter, length, count_by, codes, decimal, if◌then◌else◌}
use Rattle.std.specs.Fmt.{signed_decimal}
use Rattle.std.specs.List.{flat_map, range_with_len}
use Rattle.std.specs.Str.{bytes_eq}
use Rattle.td_rows.specs.declared.key.Key.{Key}
use Rattle.td_rows.specs.declared.row.Row.{Row}
use Rattle.td_rows.specs.KeyText.{key_text}
use Rattle.td_rows.specs.States.{is_installed as is_installed_state}
use Rattle.td_rows.specs.StateWord.{state_word}
use Rattle.td_waves.specs.declared.level.Level.{Level}
use Rattle.td_waves.specs.declared.level.Level.TheVariants.{At, Cyclic}
use Rattle.td_query.specs.declared.status.Status.{Status}
use Rattle.td_query.specs.declared.status.Status.TheVariants.{Good, Bad, Partial, Unknown}
use Rattle.td_query.specs.Statuses.{status_name}
use Rattle.td_report.specs.declared.shown.Shown.{Shown}

-- ---- 1. the affected rows

-- an affected row, and the level of its source
pub record AffectedRow : Type 0 where
  pub key : Key
  pub row : Row
  pub status : Status
  pub level : Option Level

-- whether a row is at a level; if its source has no level, it is at none
abbrev pub is_level : Level → Option Level → Bool
is_level level None = false
is_level (At k) (Some (At n)) = n == k
is_level (At k) (Some Cyclic) = false
is_level Cyclic (Some (At n)) = false
is_level Cyclic (Some Cyclic) = true

-- whether an affected row is at a level
abbrev pub stands_at : Level → AffectedRow → Bool
stands_at level r = is_level level r.level

-- whether an affected row is Installed
abbrev pub is_installed : AffectedRow → Bool
is_installed r = is_installed_state r.row.state

-- whether two statuses are one
abbrev pub same_status : Status → Status → Bool
same_status Good Good = true
same_status Bad Bad = true
same_status Partial Partial = true
same_status Unknown Unknown = true
same_status s t = false

-- whether an affected row has this status
abbrev pub has_status : Status → AffectedRow → Bool
has_status status r = same_status status r.status

-- whether rows of a status are shown
abbrev pub shows : Shown → Status → Bool
shows shown Good = shown.good
shows shown Bad = shown.bad
shows shown Partial = shown.partial
shows shown Unknown = shown.unknown

-- whether an affected row is shown
abbrev pub is_shown : Shown → AffectedRow → Bool
is_shown shown r = shows shown r.status

-- rows of each status are shown
abbrev pub all_shown : Shown
all_shown = record { good = true; bad = true; partial = true; unknown = true }

-- ---- 2. the lines

-- the first line
abbrev pub title_line : List ℕ → List ℕ
title_line title = codes "tracker " ++ title

-- how a level is named
abbrev pub level_words : Level → List ℕ
level_words (At k) = codes "level " ++ decimal k
level_words Cyclic = codes "cyclic"

-- the line over the rows of a level: how many are affected, and how many of these are Installed
abbrev pub head_line : Level → ℕ → ℕ → List ℕ
head_line level rows installed = level_words level
    ++ (codes " rows " ++ (decimal rows ++ (codes " installed " ++ decimal installed)))

-- an affected row's line: its key, status, state, priority and rebuild number
abbrev pub row_line : AffectedRow → List ℕ
row_line r = key_text r.key ++ 32 ∷ (status_name r.status ++ 32 ∷
    (state_word r.row.state ++ 32 ∷ (signed_decimal r.row.priority ++ 32 ∷ decimal r.row.number)))

-- the lines of a level with these affected rows, some of which are shown: none if there are no rows
abbrev pub block_of : Shown → Level → List AffectedRow → List (List ℕ)
block_of shown level mine = if length mine == 0 then []
    else head_line level (length mine) (count_by is_installed mine)
    ∷ map row_line (filter (is_shown shown) mine)

-- the last line: how many rows are affected, and how many of these have each status
abbrev pub last_line : List AffectedRow → List ℕ
last_line rows =
    codes "affected " ++ (decimal (length rows)
    ++ (codes " good " ++ (decimal (count_by (has_status Good) rows)
    ++ (codes " bad " ++ (decimal (count_by (has_status Bad) rows)
    ++ (codes " partial " ++ (decimal (count_by (has_status Partial) rows)
    ++ (codes " unknown " ++ decimal (count_by (has_status Unknown) rows)))))))))

-- ---- 3. the report

-- the lines of the affected rows at a level, in their order, under the line of the level
abbrev pub block_at : Shown → List AffectedRow → Level → List (List ℕ)
block_at shown rows level = block_of shown level (filter (stands_at level) rows)

-- the levels from 1 on, and after them what is cyclic
abbrev pub levels : ℕ → List Level
levels depth = map At (range_with_len 1 depth) ++ Cyclic ∷ []

-- all lines of a report with this title that shows some rows, for this many levels and these
-- affected rows, which are in the order of their keys
abbrev pub lines_showing : Shown → List ℕ → ℕ → List AffectedRow → List (List ℕ)
lines_showing shown title depth rows = title_line title ∷
    (flat_map (block_at shown rows) (levels depth) ++ last_line rows ∷ [])

-- all lines of a report that shows each row
abbrev pub report_lines : List ℕ → ℕ → List AffectedRow → List (List ℕ)
report_lines title depth rows = lines_showing all_shown title depth rows

-- ---- 4. the waves

-- whether a text is the last one
abbrev pub is_last : Option (List ℕ) → List ℕ → Bool
is_last None text = false
is_last (Some last) text = bytes_eq last text

-- texts after a last one, each once if it comes several times on end
abbrev pub each_once : Option (List ℕ) → List (List ℕ) → List (List ℕ)
each_once last [] = []
each_once last (text ∷ texts) = (if is_last last text then [] else text ∷ [])
    ++ each_once (Some text) texts

-- the name of a level with these affected rows, and under it their sources;
-- nothing if there are none
abbrev pub wave_of : Level → List AffectedRow → List (List ℕ)
wave_of level mine = if length mine == 0 then []
    else level_words level ∷ each_once None (map (λ r. r.key.source) mine)

-- the wave of a level: that of the affected rows at it
abbrev pub wave_at : List AffectedRow → Level → List (List ℕ)
wave_at rows level = wave_of level (filter (stands_at level) rows)

-- all lines of the waves, for this many levels and these affected rows,
-- which are in the order of their keys
abbrev pub waves_lines : ℕ → List AffectedRow → List (List ℕ)
waves_lines depth rows = flat_map (wave_at rows) (levels depth)
