-- The lines of a plan: command lines and comments. This project's own, in the style of wanna-build.
use Rattle.std.specs.Prelude.{ℕ, ◌==◌, List, [], ◌∷◌, ◌++◌, codes, decimal, map}
use Rattle.std.specs.Prelude.{if◌then◌else◌}
use Rattle.std.specs.List.{join_by}
use Rattle.td_text.specs.Lines.{lines_of}
use Rattle.td_rows.specs.declared.key.Key.{Key}
use Rattle.td_rows.specs.declared.row.Row.{Row}
use Rattle.td_rows.specs.KeyText.{key_text}
use Rattle.td_rows.specs.StateWord.{state_word}
use Rattle.td_indices.specs.Opening.{rebuild_number}
use Rattle.td_indices.specs.Sources.{KeptSource}
use Rattle.td_query.specs.declared.status.Status.{Status}
use Rattle.td_query.specs.Statuses.{status_name}
use Rattle.td_plan.specs.Message.{between, quoted}
use Rattle.td_plan.specs.Reasons.{Reason, reason_name}

-- ---- 1. commands

-- what else a plan's lines say: the message of each rebuild, and the suite
pub record Words : Type 0 where
  pub message : List ℕ
  pub suite : List ℕ

-- a source as a command names it: with its version, unless that ends in `+bN`, by which a command
-- would mean the row's number
abbrev pub named_with : List ℕ → List ℕ → List ℕ
named_with name version = if rebuild_number version == 0 then name ++ 95 ∷ version else name

-- a source of the archive as a command names it
abbrev pub source_word : KeptSource → List ℕ
source_word s = named_with s.head.name s.head.version

-- words with a space between two
abbrev pub spaced : List (List ℕ) → List ℕ
spaced words = join_by (λ word. word) (codes " ") words

-- a verb, a source, architectures, the suite, and a text in its quotes
abbrev pub command_line : List ℕ → List ℕ → List (List ℕ) → List ℕ → List ℕ → List ℕ
command_line verb source archs suite text =
    verb ++ 32 ∷ (source ++ (codes " . " ++ (spaced archs
    ++ (codes " . " ++ (suite ++ (codes " . -m " ++ text))))))

-- `nmu N SOURCE . ARCH.. . SUITE . -m "MESSAGE"`
abbrev pub nmu_line : Words → KeptSource → ℕ → List (List ℕ) → List ℕ
nmu_line words s number archs =
    command_line (codes "nmu " ++ decimal number) (source_word s) archs words.suite
    (quoted words.message)

-- `dw SOURCE . ARCH.. . SUITE . -m "RELATION"`
abbrev pub dw_line : Words → KeptSource → List (List ℕ) → List ℕ → List ℕ
dw_line words s archs relation =
    command_line (codes "dw") (source_word s) archs words.suite (between 34 relation)

-- ---- 2. comments

-- a line after `# `
abbrev pub comment : List ℕ → List ℕ
comment text = codes "# " ++ text

-- a title, each line of it after `# `, and the first after `# tracker `
abbrev pub title_lines : List (List ℕ) → List (List ℕ)
title_lines [] = []
title_lines (line ∷ lines) = comment (codes "tracker " ++ line) ∷ map comment lines

-- the lines of a title that is one text
abbrev pub title_of : List ℕ → List (List ℕ)
title_of title = title_lines (lines_of title)

-- the comment before the lines of a step
abbrev pub step_line : ℕ → List ℕ
step_line step = comment (codes "step " ++ decimal step)

-- the comment before the lines of a part of several sources
abbrev pub part_line : List (List ℕ) → List ℕ
part_line sources = comment (spaced sources ++ codes " build on one another")

-- the comment after a line by which a row waits for a package of an older version of a source
abbrev pub check_line : Key → List ℕ → List ℕ → List ℕ
check_line k name on = comment (codes "check: "
    ++ (key_text k ++ (codes " waits for " ++ (name ++ (codes " of an older " ++ on)))))

-- the comment on a row that can't be told to wait for a source
abbrev pub no_wait_line : Key → List ℕ → List ℕ
no_wait_line k on = comment (codes "no wait: " ++ (key_text k ++ (codes " for " ++ on)))

-- the comment on a wanted row that isn't due
abbrev pub left_line : Key → Status → Row → Reason → List ℕ
left_line k status row reason = comment (codes "not planned: "
    ++ (key_text k ++ 32 ∷ (status_name status ++ 32 ∷ (state_word row.state
    ++ 32 ∷ (decimal row.number ++ 32 ∷ reason_name reason)))))
