-- What a refused start or finish stops a builder for. This project's own.
use Rattle.td_book.specs.declared.starting.StartRefusal.{StartRefusal}
use Rattle.td_book.specs.declared.starting.StartRefusal.TheVariants as start
use Rattle.td_book.specs.declared.finishing.FinishRefusal.{FinishRefusal}
use Rattle.td_book.specs.declared.finishing.FinishRefusal.TheVariants as finish
use Rattle.td_builder.specs.declared.stop.WorkStop.{WorkStop}
use Rattle.td_builder.specs.declared.stop.WorkStop.TheVariants.{NoMemory, Mismatch}

-- a builder starts only what it holds, so a start that finds nothing held differs from the seat
abbrev pub start_stop : StartRefusal → WorkStop
start_stop start.NothingHeld = Mismatch
start_stop start.NoMemory = NoMemory
start_stop start.Mismatch = Mismatch

-- a builder finishes only what it holds, so a finish that finds nothing held differs from the seat
abbrev pub finish_stop : FinishRefusal → WorkStop
finish_stop finish.NothingHeld = Mismatch
finish_stop finish.NoMemory = NoMemory
finish_stop finish.Mismatch = Mismatch
