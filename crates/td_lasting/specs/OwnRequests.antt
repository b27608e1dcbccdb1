-- The five lines that a desk in a file has beside those of a script. This project's own.
use Rattle.std.specs.Prelude.{ℕ, List, ◌∷◌, ◌++◌, Some, None, IsTrue, length, ◌<◌, codes}
use Rattle.std.specs.Prelude.{decimal}
use Rattle.td_text.specs.Words.{is_arch}
use Rattle.td_rows.specs.KeyText.{KeyFits}
use Rattle.td_rows.specs.declared.outcome.Outcome.{Outcome}
use Rattle.td_rows.specs.declared.outcome.Outcome.TheVariants.{Waits}
use Rattle.td_journal.specs.Endings.{ending_text}
use Rattle.td_journal.specs.EntryFits.{IsBuilder}
use Rattle.td_script.specs.Requests.{two_words}
use Rattle.td_lasting.specs.declared.own_request.OwnRequest.{OwnRequest}
use Rattle.td_lasting.specs.declared.own_request.OwnRequest.TheVariants.{Ready, Claim, Finish, Rows}
use Rattle.td_lasting.specs.declared.own_request.OwnRequest.TheVariants.{Lines}

-- the line of such a request
abbrev pub own_line : OwnRequest → List ℕ
own_line (Ready None) = codes "ready"
own_line (Ready (Some arch)) = codes "ready " ++ arch
own_line (Claim b k) = codes "claim " ++ (decimal b ++ 32 ∷ two_words k)
own_line (Finish b o) = codes "finish " ++ (decimal b ++ 32 ∷ ending_text o)
own_line Rows = codes "rows"
own_line Lines = codes "lines"

-- a build that waits says what for
abbrev pub SaysFor : Outcome → Type 0
SaysFor (Waits t) = 0 < length t
SaysFor o = Unit {0}

-- one that can be written: builders have the numbers from 1 to 64
abbrev pub OwnFits : OwnRequest → Type 0
OwnFits (Ready None) = Unit {0}
OwnFits (Ready (Some arch)) = IsTrue (is_arch arch)
OwnFits (Claim b k) = IsBuilder b × KeyFits k
OwnFits (Finish b o) = IsBuilder b × SaysFor o
OwnFits Rows = Unit {0}
OwnFits Lines = Unit {0}
