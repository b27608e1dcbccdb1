-- What a script may be answered with. This project's own.
use Rattle.std.specs.Prelude.{ℕ, List}
use Rattle.td_core.specs.History.{History}
use Rattle.td_script.specs.Replies.{Setting}

-- whether these lines, from a history, may be answered with this text and this many refusals
abbrev pub Telling : Type 1
Telling = Setting → History → List ℕ → List ℕ → ℕ → Type 0
