-- The phase of a row, and the word that shows it. This project's own.
use Rattle.std.specs.Prelude.{ℕ, ◌+◌, ◌*◌}
use Rattle.td_board.specs.declared.outcome.OutcomeCode.{OutcomeCode}
use Rattle.td_board.specs.OutcomeCode.{code_of}

-- Closed: the row isn't offered. Open: it is. Held by b: builder b claimed it. Noted for b: the
-- desk noted that claim. Done by b: b finished it with this outcome, and the desk hasn't settled it
pub data Phase : Type 0 where
  closed : Phase
  opened : Phase
  held : ℕ → Phase
  noted : ℕ → Phase
  done : ℕ → OutcomeCode → Phase

-- the word of a row in this phase
abbrev pub word_of : Phase → ℕ
word_of closed = 0
word_of opened = 1
word_of (held b) = 2 + 256 * b
word_of (noted b) = 4 + 256 * b
word_of (done b c) = 3 + 8 * code_of c + 256 * b

-- the builder whose number the phase names, or 0
abbrev pub builder_of : Phase → ℕ
builder_of closed = 0
builder_of opened = 0
builder_of (held b) = b
builder_of (noted b) = b
builder_of (done b c) = b
