-- `arrivals_change_their_own`: what it answers.
use Rattle.td_supply.proofs.ArrivalLaws.{others_stay, offers_of_all_stay, rebuilds_are_offered}
use Rattle.td_supply.proofs.ArrivalLaws.{the_last_arrival_stands, the_stock_stays}
use Rattle.td_supply.proofs.laws.arrivals_change_their_own.Goals as goal

pub returns : goal.returns
returns c =
    record {
      others = others_stay;
      all = offers_of_all_stay;
      rebuilds = rebuilds_are_offered;
      last = the_last_arrival_stands;
      stock = the_stock_stays;
    }
