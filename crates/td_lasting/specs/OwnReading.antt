-- What a line of a desk in a file is. This project's own.
use Rattle.std.specs.Prelude.{◌≡◌, ◌↔◌, ℕ, ◌==◌, Bool, ◌||◌, List, Option, Some, None, length}
use Rattle.std.specs.Prelude.{codes}
use Rattle.std.specs.Prelude.{if◌then◌else◌}
use Rattle.std.specs.Str.{bytes_eq}
use Rattle.td_text.specs.Chain.{◌>>=◌}
use Rattle.td_text.specs.Cut.{cut, part, strip}
use Rattle.td_text.specs.Exact.{Exact}
use Rattle.td_text.specs.Words.{is_arch}
use Rattle.td_rows.specs.declared.outcome.Outcome.{Outcome}
use Rattle.td_rows.specs.declared.outcome.Outcome.TheVariants.{Waits}
use Rattle.td_journal.specs.Endings.{ending_at}
use Rattle.td_journal.specs.EntryReading.{builder_at}
use Rattle.td_script.specs.Reading.{first_word, spaced_key_at}
use Rattle.td_lasting.specs.declared.own_request.OwnVerb.{OwnVerb}
use Rattle.td_lasting.specs.declared.own_request.OwnVerb.TheVariants as verb
use Rattle.td_lasting.specs.declared.own_request.OwnRequest.{OwnRequest}
use Rattle.td_lasting.specs.declared.own_request.OwnRequest.TheVariants.{Ready, Claim, Finish, Rows}
use Rattle.td_lasting.specs.declared.own_request.OwnRequest.TheVariants.{Lines}
use Rattle.td_lasting.specs.declared.hearing.Heard.{Heard}
use Rattle.td_lasting.specs.declared.hearing.Heard.TheVariants.{Own, Bad, Scripted}
use Rattle.td_lasting.specs.OwnRequests.{OwnFits, own_line}

-- the verb that a word is
unfoldable pub own_verb_at : List ℕ → Option OwnVerb
own_verb_at word =
    if bytes_eq word (codes "ready") then Some verb.Ready
    else (if bytes_eq word (codes "claim") then Some verb.Claim
    else (if bytes_eq word (codes "finish") then Some verb.Finish
    else (if bytes_eq word (codes "rows") then Some verb.Rows
    else (if bytes_eq word (codes "lines") then Some verb.Lines else None))))

-- nothing may follow
abbrev pub own_alone : OwnRequest → List ℕ → Option OwnRequest
own_alone r rest = if length rest == 0 then Some r else None

-- the architecture behind a space
abbrev pub arch_behind : List ℕ → Option (List ℕ)
arch_behind rest = strip (codes " ") rest >>= λ arch. if is_arch arch then Some arch else None

-- `ready` alone, or with an architecture
abbrev pub ready_at : List ℕ → Option OwnRequest
ready_at rest =
    if length rest == 0 then Some (Ready None)
    else (arch_behind rest >>= λ arch. Some (Ready (Some arch)))

-- the builder's number behind a space, and what follows the space after it
abbrev pub builder_behind : List ℕ → Option (ℕ × List ℕ)
builder_behind rest = do
  text ← strip (codes " ") rest
  words ← cut 32 text
  builder ← builder_at words.0
  Some (builder, words.1)

-- how a build ended, where one that waits says what for
abbrev pub spoken_ending : Outcome → Option Outcome
spoken_ending (Waits t) = if length t == 0 then None else Some (Waits t)
spoken_ending o = Some o

-- a request by its verb, and what follows that
abbrev pub own_by_verb : OwnVerb → List ℕ → Option OwnRequest
own_by_verb verb.Ready rest = ready_at rest
own_by_verb verb.Claim rest =
    builder_behind rest >>= λ p. spaced_key_at p.1 >>= λ k. Some (Claim p.0 k)
own_by_verb verb.Finish rest =
    builder_behind rest >>= λ p. ending_at p.1 >>= λ o. spoken_ending o >>= λ end.
    Some (Finish p.0 end)
own_by_verb verb.Rows rest = own_alone Rows rest
own_by_verb verb.Lines rest = own_alone Lines rest

-- the request whose line it is
unfoldable pub own_at : List ℕ → Option OwnRequest
own_at line = own_verb_at (part 32 line).0 >>= λ v. own_by_verb v (part 32 line).1

-- a line is read as such a request exactly where it is the request's
abbrev pub OwnRequestsAreExact : Type 0
OwnRequestsAreExact = Exact own_at own_line OwnFits

-- whether a word is such a verb
abbrev pub is_own_verb : List ℕ → Bool
is_own_verb word =
    bytes_eq word (codes "ready")
    || (bytes_eq word (codes "claim")
    || (bytes_eq word (codes "finish")
    || (bytes_eq word (codes "rows") || bytes_eq word (codes "lines"))))

-- a line that is no such request: a faulty one where its first word is such a verb, and else what a
-- script takes it for
abbrev pub not_own : List ℕ → Heard
not_own line = if is_own_verb (first_word line) then Bad else Scripted

-- what a line is
unfoldable pub heard_at : List ℕ → Heard
heard_at line = elim (own_at line) [ Some r ↦ Own r | None ↦ not_own line ]

-- a line is heard as such a request exactly where it is that request's
abbrev pub OwnLinesAreHeard : Type 0
OwnLinesAreHeard =
    (line : List ℕ) (r : OwnRequest) → (heard_at line ≡ Own r) ↔ ((line ≡ own_line r) × OwnFits r)
