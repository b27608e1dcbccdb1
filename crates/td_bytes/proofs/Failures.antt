-- Calls that signals interrupt come to an end.
use Rattle.std.proofs.Common.{◌≡◌, ◌⊎◌, ◌+◌, ◌<◌, ◌≤◌, ℕ, Bool, true}
use Rattle.td_bytes.specs.Failures.{most_tries}

-- what the loops keep that try a call again: this many tries were interrupted, or calls may fail
abbrev pub AreBorne : Bool → ℕ → ℕ → ℕ → Type 0
AreBorne can_fail tries before after =
    (can_fail ≡ true)
    ⊎ (((tries ≡ 0) × (after ≡ before)) ⊎ ((tries + after ≤ before) × (before < most_tries)))
