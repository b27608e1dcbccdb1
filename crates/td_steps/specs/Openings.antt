-- The moves of an opening. This project's own.
use Rattle.std.specs.Prelude.{◌≡◌, ℕ, true, length, replicate}
use Rattle.td_board.specs.Knowledge.{new_desk}
use Rattle.td_rows.specs.Keys.{ascending}
use Rattle.td_rows.specs.Table.{Table, keys_of}
use Rattle.td_supply.specs.Supply.{Stock}
use Rattle.td_journal.specs.Entries.{standing}
use Rattle.td_journal.specs.Journaled.{EachHasKeys}
use Rattle.td_journal.specs.Replay.{Lawful}
use Rattle.td_core.specs.declared.step.Phase.TheVariants.{Closed}
use Rattle.td_core.specs.declared.step.Hand.TheVariants.{Free}
use Rattle.td_core.specs.History.{History, rows_of, opened}
use Rattle.td_core.specs.Phases.{NoneBuilt}
use Rattle.td_core.specs.Worlds.{WorldView, world_of}
use Rattle.td_book.specs.Desk.{Fixed, BookModel}
use Rattle.td_book.specs.Tries.{first_offers}
use Rattle.td_steps.specs.Sees.{Desk, Sees, resting}
use Rattle.td_steps.specs.Runs.{LeadsOn}
use Rattle.td_steps.specs.Parts.{offering}
use Rattle.td_steps.specs.Tries.{tried_in, done_in}

-- the desk before its first offers, at a new board
abbrev pub first_desk : Table → Stock → ℕ → Desk
first_desk t stock builders =
    record {
      history = opened t;
      stock = stock;
      view = (new_desk (length t) builders).rows;
      builders = builders;
    }

-- the book that begins with a history: every row that needs a build is offered
abbrev pub begun : History → Fixed → BookModel
begun h fixed = record { history = h; fixed = fixed; tries = first_offers h }

-- the desk sees the world at its opening, in which no row is built, and offers each row that needs
-- a build; then the book is at rest
pub record OpensSo (t : Table) (fixed : Fixed) : Type 0 where
  pub sees : Sees (world_of t fixed.stock fixed.builders) (first_desk t fixed.stock fixed.builders)
  pub leads : LeadsOn (world_of t fixed.stock fixed.builders)
      (first_desk t fixed.stock fixed.builders) (offering t (keys_of t))
      (resting (begun (opened t) fixed))

-- every table of rows in order, none of which is built, opens so
abbrev pub OpeningsAreSteps : Type 0
OpeningsAreSteps =
    (t : Table) (fixed : Fixed) → ascending (keys_of t) ≡ true → NoneBuilt t → OpensSo t fixed

-- the world that opens with a history: all rows are closed, all hands free
abbrev pub world_from : History → Stock → ℕ → WorldView
world_from h s builders =
    record {
      history = h;
      supply = s;
      phases = replicate (length h.opening) Closed;
      hands = replicate builders Free;
    }

-- the desk before its offers, at a new board of these rows
abbrev pub desk_from : History → Stock → ℕ → Desk
desk_from h stock builders =
    record {
      history = h;
      stock = stock;
      view = (new_desk (length h.opening) builders).rows;
      builders = builders;
    }

-- a history that a world may open with: the opening rows rise, the standing entries are lawful over
-- them, each entry has keys, and no builder has a row
pub record MayOpen (h : History) : Type 0 where
  pub rising : ascending (keys_of h.opening) ≡ true
  pub lawful : Lawful h.opening (standing h.journal)
  pub keys : EachHasKeys h.journal
  pub idle : NoneBuilt (rows_of h)

-- the desk sees the world that opens with the history, which is sound, and offers each row that
-- needs a build, which is all that it has done at the board then; and the book is at rest
pub record OpensWith (h : History) (fixed : Fixed) : Type 0 where
  pub sees : Sees (world_from h fixed.stock fixed.builders) (desk_from h fixed.stock fixed.builders)
  pub leads : LeadsOn (world_from h fixed.stock fixed.builders)
      (desk_from h fixed.stock fixed.builders) (offering (rows_of h) (keys_of (rows_of h)))
      (resting (begun h fixed))
  pub made : done_in (begun h fixed).tries
      ≡ tried_in h.opening (offering (rows_of h) (keys_of (rows_of h)))

-- every history that a world may open with opens so; the one before the first entry is among them
abbrev pub HistoriesOpen : Type 0
HistoriesOpen = (h : History) (fixed : Fixed) → MayOpen h → OpensWith h fixed
