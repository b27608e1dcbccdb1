-- How the line of a step is read. This project's own.
use Rattle.std.specs.Prelude.{ℕ, ◌^◌, ◌-◌, ◌==◌, List, length, Option, Some, None, if◌then◌else◌}
use Rattle.std.specs.Prelude.{codes}
use Rattle.std.specs.Str.{bytes_eq}
use Rattle.td_text.specs.Chain.{◌>>=◌}
use Rattle.td_text.specs.Cut.{cut, part, strip}
use Rattle.td_text.specs.Exact.{Exact}
use Rattle.td_text.specs.Numbers.{number_at}
use Rattle.td_rows.specs.declared.key.Key.{Key}
use Rattle.td_rows.specs.KeyText.{key_at}
use Rattle.td_rows.specs.Notes.{notes_at}
use Rattle.td_journal.specs.Commands.{is_command}
use Rattle.td_journal.specs.Endings.{ending_at}
use Rattle.td_journal.specs.EntryReading.{kind_at, keys_at, told}
use Rattle.td_core.specs.declared.step.Step.{Step}
use Rattle.td_core.specs.declared.step.Step.TheVariants as steps
use Rattle.td_simulate.specs.declared.verb.Verb.{Verb}
use Rattle.td_simulate.specs.declared.verb.Verb.TheVariants.{Offer, Withdraw, Claim, Note, Undo}
use Rattle.td_simulate.specs.declared.verb.Verb.TheVariants.{Finish, Settle, Release, Arrive}
use Rattle.td_simulate.specs.StepLines.{step_line, StepFits}

-- the verb that a word is
unfoldable pub verb_at : List ℕ → Option Verb
verb_at word =
    if bytes_eq word (codes "offer") then Some Offer
    else (if bytes_eq word (codes "withdraw") then Some Withdraw
    else (if bytes_eq word (codes "claim") then Some Claim
    else (if bytes_eq word (codes "note") then Some Note
    else (if bytes_eq word (codes "undo") then Some Undo
    else (if bytes_eq word (codes "finish") then Some Finish
    else (if bytes_eq word (codes "settle") then Some Settle
    else (if bytes_eq word (codes "release") then Some Release
    else (if bytes_eq word (codes "arrive") then Some Arrive else None))))))))

-- a builder's number, and what follows the space after it
unfoldable pub builder_at : List ℕ → Option (ℕ × List ℕ)
builder_at rest = do
  p ← cut 32 rest
  b ← number_at (2 ^ 64 - 1) p.0
  Some (b, p.1)

-- a claim: builder and key
unfoldable pub claim_at : List ℕ → Option Step
claim_at rest = do
  p ← builder_at rest
  key ← key_at p.1
  Some (steps.Claim p.0 key)

-- the end of a build: builder, outcome and its text
unfoldable pub finish_at : List ℕ → Option Step
finish_at rest = do
  p ← builder_at rest
  outcome ← ending_at p.1
  Some (steps.Finish p.0 outcome)

-- a step by its verb, and what follows the space after that
abbrev pub by_verb : Verb → List ℕ → Option Step
by_verb Offer rest = key_at rest >>= λ k. Some (steps.Offer k)
by_verb Withdraw rest = key_at rest >>= λ k. Some (steps.Withdraw k)
by_verb Claim rest = claim_at rest
by_verb Note rest = key_at rest >>= λ k. Some (steps.Note k)
by_verb Undo rest = number_at (2 ^ 64 - 1) rest >>= λ n. Some (steps.Undo n)
by_verb Finish rest = finish_at rest
by_verb Settle rest = key_at rest >>= λ k. Some (steps.Settle k)
by_verb Release rest = number_at (2 ^ 64 - 1) rest >>= λ b. Some (steps.Release b)
by_verb Arrive rest = key_at rest >>= λ k. Some (steps.Arrive k)

-- keys, where there is one
abbrev pub some_keys : List Key → Option (List Key)
some_keys keys = if length keys == 0 then None else Some keys

-- a command by its first word, and what follows that
unfoldable pub commit_at : List ℕ → List ℕ → Option Step
commit_at word rest = do
  bare ← kind_at word
  keys ← some_keys (keys_at rest).0
  texts ← notes_at (keys_at rest).1
  kind ← told bare texts.0 texts.1
  if is_command kind then Some (steps.Commit kind keys) else None

-- a step by its first word, which is a verb's or not, and what follows that
abbrev pub by_word : Option Verb → List ℕ → List ℕ → Option Step
by_word (Some verb) word rest = strip (codes " ") rest >>= by_verb verb
by_word None word rest = commit_at word rest

-- the step whose line this is: a sweep has one word and nothing after it
unfoldable pub step_at : List ℕ → Option Step
step_at line = if bytes_eq line (codes "sweep") then Some steps.Sweep
    else by_word (verb_at (part 32 line).0) (part 32 line).0 (part 32 line).1

-- a line is read as a step if and only if it is the step's
abbrev pub StepsAreExact : Type 0
StepsAreExact = Exact step_at step_line StepFits
