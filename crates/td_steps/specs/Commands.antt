-- The moves of a command. This project's own.
use Rattle.std.specs.Prelude.{◌≡◌, ℕ, List, [], ◌++◌, Result, Ok, Err, filter}
use Rattle.td_rows.specs.declared.key.Key.{Key}
use Rattle.td_rows.specs.declared.kind.Kind.{Kind}
use Rattle.td_wbread.specs.Command.{CommandParts}
use Rattle.td_core.specs.declared.step.Answer.TheVariants.{Entry}
use Rattle.td_core.specs.Committing.{takes}
use Rattle.td_core.specs.History.{History, rows_of}
use Rattle.td_core.specs.Worlds.{WorldView}
use Rattle.td_book.specs.declared.commanding.CommandRefusal.{CommandRefusal}
use Rattle.td_book.specs.declared.commanding.CommandRefusal.TheVariants.{NothingApplies, NoMemory}
use Rattle.td_book.specs.declared.commanding.Taken.{Taken}
use Rattle.td_book.specs.Calls.{noting, Choices, off_for, entered}
use Rattle.td_book.specs.Commands.{named_by, is_matched_in, IsDone}
use Rattle.td_book.specs.Desk.{BookModel}
use Rattle.td_wbread.specs.Kinds.{kind_of}
use Rattle.td_steps.specs.Sees.{Sees, resting}
use Rattle.td_steps.specs.Moves.{Move}
use Rattle.td_steps.specs.Runs.{LeadsOn}
use Rattle.td_steps.specs.Parts.{withdrawing, offering, committing, Tells}
use Rattle.td_steps.specs.Tries.{AreMade}

-- the named rows are withdrawn, where the kind has their state, or the claims of faster builders
-- noted; an entry on those of the matched keys on which the kind applies then, if there are any;
-- what was withdrawn and needs a build is offered again
abbrev pub entering_moves : Kind → List Key → List Key → History → List ℕ → List Move
entering_moves kind named matched h choices =
    let off = off_for kind named in
    let now = noting h off choices in
    let taken = takes (rows_of now) kind matched in
    withdrawing h off choices
    ++ (committing kind taken ++ offering (rows_of (entered now kind taken)) off)

-- the keys whose rows a command may withdraw in a book
abbrev pub off_in : CommandParts → BookModel → List Key
off_in c b = off_for (kind_of c) (named_by c b)

-- the moves of a command in a book, by who was faster at each of the rows that it may withdraw
abbrev pub command_moves : CommandParts → BookModel → List ℕ → List Move
command_moves c b choices =
    entering_moves (kind_of c) (named_by c b)
    (filter (is_matched_in c b) (named_by c b)) b.history choices

-- what a command that is answered so may have made: if memory runs out no move; else its moves with
-- some choices, one of which is answered with the number of its entry, if it made one
abbrev pub CommandMoves : CommandParts → BookModel → Result Taken CommandRefusal → List Move
    → Type 0
CommandMoves c old (Ok taken) moves =
    (choices : List ℕ) × Choices old.fixed.builders (off_in c old) choices
    × (moves ≡ command_moves c old choices) × Tells (resting old) moves (Entry taken.number)
CommandMoves c old (Err (NothingApplies skips)) moves =
    (choices : List ℕ) × Choices old.fixed.builders (off_in c old) choices
    × (moves ≡ command_moves c old choices)
CommandMoves c old (Err NoMemory) moves = moves ≡ []

-- whatever a book does of a command is a list of moves as `CommandMoves` says, from any world that
-- the book sees to one that it sees afterwards
abbrev pub CommandsAreSteps : Type 0
CommandsAreSteps =
    (w : WorldView) (c : CommandParts) (old new : BookModel)
    (result : Result Taken CommandRefusal) →
    Sees w (resting old) → IsDone c old new result
    → (moves : List Move) × CommandMoves c old result moves × AreMade old new moves
    × LeadsOn w (resting old) moves (resting new)
