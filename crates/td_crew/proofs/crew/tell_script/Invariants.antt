-- What `tell_script` calls its callees with, for their ghost members.
use Rattle.std.specs.Prelude.{length, option_map, true}
use Rattle.td_supply.specs.Supply.{stock_of}
use Rattle.td_crew.specs.CrewText.{marks_begun}
use Rattle.td_crew.proofs.crew.tell_script.Given as goal

abbrev pub ghosts-tell_named-N-Named : goal.ghosts-tell_named-N-Named
ghosts-tell_named-N-Named g a =
    record {
      table = a.board.table;
      origin = record {
        rows = a.rows;
        stock = stock_of a.supply;
        builders = length a.seat.desk.noted;
        journal = option_map (λ s. s.now) a.lines.now.journal;
      };
      opened = marks_begun (option_map (λ s. s.now) a.lines.now.journal);
      may_shut = true;
    }

abbrev pub ghosts-tell_named-C-Ledger : goal.ghosts-tell_named-C-Ledger
ghosts-tell_named-C-Ledger g a = record { name = a.blank.name; parts = a.blank.parts }
