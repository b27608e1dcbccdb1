-- Which endings say that a stream may fail. This project's own.
use Rattle.std.specs.Prelude.{◌≡◌, Bool, true}
use Rattle.td_inputs.specs.declared.role.Role.TheVariants.{Input}
use Rattle.td_tool.specs.declared.ending.Ending.{Ending}
use Rattle.td_tool.specs.declared.ending.Ending.TheVariants.{Done, Refused, BadInput, NoMemory}
use Rattle.td_tool.specs.declared.ending.Ending.TheVariants.{CannotRead, CannotWrite}
use Rattle.td_tool.specs.declared.ending.Ending.TheVariants.{Locked, CannotKeep}

-- a run tells of a failed read of standard input, or of a failed write of standard output, only
-- if that stream may fail: whether it may is given for both
abbrev pub IsDue : Bool → Bool → Ending → Type 0
IsDue input output Done = Unit {0}
IsDue input output Refused = Unit {0}
IsDue input output (BadInput role e) = Unit {0}
IsDue input output NoMemory = Unit {0}
IsDue input output (CannotRead Input) = input ≡ true
IsDue input output (CannotRead role) = Unit {0}
IsDue input output CannotWrite = output ≡ true
IsDue input output Locked = Unit {0}
IsDue input output CannotKeep = Unit {0}

-- a run ends so, and for no stream that can't fail
abbrev pub DueTo : Bool → Bool → (Ending → Type 0) → Ending → Type 0
DueTo input output EndsSo ending = EndsSo ending × IsDue input output ending
