-- Which rows of a report the words ask for, and how affected sources are listed. This project's own.
use Rattle.std.specs.Prelude.{◌||◌, ℕ, Bool, true, false, List, Option, Some, None, codes}
use Rattle.std.specs.Prelude.{if◌then◌else◌}
use Rattle.std.specs.List.{list_all, list_any}
use Rattle.std.specs.Option.{option_map_or}
use Rattle.std.specs.Str.{bytes_eq}
use Rattle.clap.specs.Walk.{Row, first_of}
use Rattle.td_text.specs.Lines.{pieces_of}
use Rattle.td_query.specs.declared.status.Status.TheVariants.{Good, Bad, Partial, Unknown}
use Rattle.td_query.specs.Statuses.{status_name}
use Rattle.td_report.specs.Report.{all_shown}
use Rattle.td_report.specs.declared.shown.Shown.{Shown}
use Rattle.td_words.specs.declared.request.WavesForm.{WavesForm}

-- whether an option without a value is among these; `clap` has its value as text
abbrev pub is_set : List ℕ → List Row → Bool
is_set name options =
    option_map_or (λ v. bytes_eq v (codes "true")) (first_of name options) false

-- affected sources by levels, each by its name alone
abbrev pub by_levels : WavesForm
by_levels = record { steps = false; why = false }

-- how affected sources are listed: by steps with `--steps`, with what each builds on with `--why`
abbrev pub form_in : List Row → WavesForm
form_in options =
    record { steps = is_set (codes "steps") options; why = is_set (codes "why") options }

-- a name is among those of a list with commas between
abbrev pub is_listed : List ℕ → List ℕ → Bool
is_listed list name = list_any (bytes_eq name) (pieces_of 44 list)

-- a name is that of a status
abbrev pub is_status_name : List ℕ → Bool
is_status_name name = bytes_eq name (status_name Good) || (bytes_eq name (status_name Bad)
    || (bytes_eq name (status_name Partial) || bytes_eq name (status_name Unknown)))

-- the statuses that a list names, if it names no other thing
abbrev pub statuses_at : List ℕ → Option Shown
statuses_at list = if list_all is_status_name (pieces_of 44 list)
    then Some (record {
      good = is_listed list (status_name Good);
      bad = is_listed list (status_name Bad);
      partial = is_listed list (status_name Partial);
      unknown = is_listed list (status_name Unknown);
    })
    else None

-- no row
abbrev pub none_shown : Shown
none_shown = record { good = false; bad = false; partial = false; unknown = false }

-- the rows that are asked for by what `--only` lists, and by whether `--summary` is there: every
-- row if neither is, and no answer if both are
abbrev pub shown_by : Option (List ℕ) → Bool → Option Shown
shown_by None false = Some all_shown
shown_by None true = Some none_shown
shown_by (Some list) false = statuses_at list
shown_by (Some list) true = None

-- by the options
abbrev pub shown_in : List Row → Option Shown
shown_in options = shown_by (first_of (codes "only") options) (is_set (codes "summary") options)

-- what is said of other lists, and of both options
abbrev pub shown_said : List ℕ
shown_said = codes
    "error: --only takes good, bad, partial and unknown, with commas between, and no --summary\n"
