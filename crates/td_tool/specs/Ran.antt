-- What the program answers and says of a run. This project's own.
use Rattle.std.specs.Prelude.{◌≡◌, ℕ, Bool, List, Option, IfSome}
use Rattle.td_tool.specs.Ending.{status_of}
use Rattle.td_tool.specs.Explained.{Given, SaysOf}
use Rattle.td_inputs.specs.declared.role.Role.{Role}
use Rattle.td_tool.specs.declared.ending.Ending.{Ending}

-- nothing is noted
abbrev pub NoNotes : List ℕ → Type 0
NoNotes notes = ⊥

-- the status and the lines on standard error are those of one ending, and the run ends with it; the
-- ending is explained, by the texts that are known and what is noted of lines, or not
pub record Ran (EndsSo : Ending → Type 0) (Notes : List ℕ → Type 0) (explained : Bool)
    (known : Role → Given) (said_before said : Option (List ℕ)) (status : ℕ) : Type 0 where
  pub ending : Ending
  pub notes : Option (List ℕ)
  pub answered : status ≡ status_of ending
  pub ends : EndsSo ending
  pub noted : IfSome notes Notes
  pub says : SaysOf explained known notes ending said_before said
