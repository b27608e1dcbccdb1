-- When one call of a reader or a writer may fail. This project's own.
use Rattle.std.specs.Prelude.{◌≡◌, ◌⊎◌, ℕ, ◌-◌, ◌^◌, ◌<◌, Bool, true, Result, IfErr, MatchResult}
use Rattle.std.specs.IoError.{error_kind}
use Rattle.std.specs.declared.io.Error.{Error}
use Rattle.std.specs.declared.io.ErrorKind.TheVariants.{Interrupted}

-- how often a call is tried if signals interrupt it
abbrev pub most_tries : ℕ
most_tries = 2 ^ 64 - 1

-- a signal interrupts a call. Fewer interruptions are left than were before, which are fewer than
-- the tries
abbrev pub IsInterruption : ℕ → ℕ → Error → Type 0
IsInterruption before after error =
    (error_kind error ≡ Interrupted) × (after < before) × (before < most_tries)

-- a call that may fail fails by whatever, and any other only by a signal
abbrev pub IsDue : {T : Type 0} → Bool → ℕ → ℕ → Result T Error → Type 0
IsDue can_fail before after result =
    IfErr result (λ error. (can_fail ≡ true) ⊎ IsInterruption before after error)

-- whether calls may fail is as before, unless this one failed by anything but a signal
abbrev pub StaysUnlessFailed : {T : Type 0} → Bool → Bool → Result T Error → Type 0
StaysUnlessFailed before after result =
    MatchResult result (λ _. after ≡ before) (λ error.
    error_kind error ≡ Interrupted → after ≡ before)

-- whether calls may fail is as before, unless a write takes no byte, or fails by no signal
abbrev pub StaysUnlessFull : Bool → Bool → Result ℕ Error → Type 0
StaysUnlessFull before after result =
    MatchResult result (λ count. 0 < count → after ≡ before) (λ error.
    error_kind error ≡ Interrupted → after ≡ before)
