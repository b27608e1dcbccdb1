-- What a line of a script is. This project's own.
use Rattle.std.specs.Prelude.{◌≡◌, ◌↔◌, ℕ, ◌==◌, ◌^◌, ◌-◌, Bool, true, not, ◌||◌, List, []}
use Rattle.std.specs.Prelude.{◌∷◌, Option, Some, None, length, if◌then◌else◌, codes}
use Rattle.std.specs.Str.{bytes_eq}
use Rattle.td_text.specs.Chain.{◌>>=◌}
use Rattle.td_text.specs.Cut.{part, strip}
use Rattle.td_text.specs.Exact.{Exact}
use Rattle.td_text.specs.Numbers.{number_at}
use Rattle.td_rows.specs.declared.key.Key.{Key}
use Rattle.td_rows.specs.KeyText.{key_apart}
use Rattle.td_text.specs.Runs.{behind, is_space, run}
use Rattle.td_script.specs.declared.request.Verb.{Verb}
use Rattle.td_script.specs.declared.request.Verb.TheVariants as verb
use Rattle.td_script.specs.declared.request.Request.{Request}
use Rattle.td_script.specs.declared.request.Request.TheVariants.{Undo, Arrive, Sweep, Row, Entry}
use Rattle.td_script.specs.declared.request.Request.TheVariants.{Report, Journal}
use Rattle.td_script.specs.declared.line.Said.{Said}
use Rattle.td_script.specs.declared.line.Said.TheVariants.{Skipped, Asked, Bad, Typed}
use Rattle.td_script.specs.Requests.{request_line, RequestFits}

-- the verb that a word is
unfoldable pub verb_at : List ℕ → Option Verb
verb_at word =
    if bytes_eq word (codes "undo") then Some verb.Undo
    else (if bytes_eq word (codes "arrive") then Some verb.Arrive
    else (if bytes_eq word (codes "sweep") then Some verb.Sweep
    else (if bytes_eq word (codes "row") then Some verb.Row
    else (if bytes_eq word (codes "entry") then Some verb.Entry
    else (if bytes_eq word (codes "report") then Some verb.Report
    else (if bytes_eq word (codes "journal") then Some verb.Journal else None))))))

-- a source and an architecture, a space between them
unfoldable pub spaced_key_at : List ℕ → Option Key
spaced_key_at text = key_apart 32 text

-- the request, if nothing follows its word
abbrev pub alone : Request → List ℕ → Option Request
alone r rest = if length rest == 0 then Some r else None

-- the number after a space
abbrev pub number_behind : List ℕ → Option ℕ
number_behind rest = strip (codes " ") rest >>= number_at (2 ^ 64 - 1)

-- the key after a space
abbrev pub key_behind : List ℕ → Option Key
key_behind rest = strip (codes " ") rest >>= spaced_key_at

-- a request by its verb, and what follows that
abbrev pub by_verb : Verb → List ℕ → Option Request
by_verb verb.Undo rest = number_behind rest >>= λ n. Some (Undo n)
by_verb verb.Arrive rest = key_behind rest >>= λ k. Some (Arrive k)
by_verb verb.Sweep rest = alone Sweep rest
by_verb verb.Row rest = key_behind rest >>= λ k. Some (Row k)
by_verb verb.Entry rest = number_behind rest >>= λ n. Some (Entry n)
by_verb verb.Report rest = alone Report rest
by_verb verb.Journal rest = alone Journal rest

-- the request whose line this is
unfoldable pub request_at : List ℕ → Option Request
request_at line = verb_at (part 32 line).0 >>= λ v. by_verb v (part 32 line).1

-- a line is read as a request if and only if it is the request's
abbrev pub RequestsAreExact : Type 0
RequestsAreExact = Exact request_at request_line RequestFits

-- a line is empty, or a comment
abbrev pub is_skipped : List ℕ → Bool
is_skipped [] = true
is_skipped (b ∷ line) = b == 35

-- whether a word is a verb
abbrev pub is_verb : List ℕ → Bool
is_verb word =
    bytes_eq word (codes "undo")
    || (bytes_eq word (codes "arrive")
    || (bytes_eq word (codes "sweep")
    || (bytes_eq word (codes "row")
    || (bytes_eq word (codes "entry")
    || (bytes_eq word (codes "report") || bytes_eq word (codes "journal"))))))

-- a byte of a word
abbrev pub is_word_byte : ℕ → Bool
is_word_byte b = not (is_space b)

-- the first word of a line, up to whitespace
abbrev pub first_word : List ℕ → List ℕ
first_word line = run is_word_byte (behind is_space line)

-- a line that is no request's: a faulty one if its first word is a verb
abbrev pub unasked : List ℕ → Said
unasked line = if is_verb (first_word line) then Bad else Typed

-- what a line is
unfoldable pub said_at : List ℕ → Said
said_at line =
    if is_skipped line then Skipped
    else elim (request_at line) [ Some r ↦ Asked r | None ↦ unasked line ]

-- a request with a key: to read its line takes memory, which no other line does
abbrev pub HasKey : Request → Type 0
HasKey (Arrive k) = Unit {0}
HasKey (Row k) = Unit {0}
HasKey r = ⊥

-- a line that is a request with a key
abbrev pub AsksByKey : Said → Type 0
AsksByKey (Asked r) = HasKey r
AsksByKey said = ⊥

-- a line is read as a request if and only if it is that request's
abbrev pub LinesAreSaid : Type 0
LinesAreSaid =
    (line : List ℕ) (r : Request)
    → (said_at line ≡ Asked r) ↔ ((line ≡ request_line r) × RequestFits r)
