-- `read_back`: the clauses `begun`, `named` and `ticks`.
use Rattle.std.proofs.Common.{Some, length, subst, sym, arith}
use Rattle.td_supply.specs.Supply.{stock_of}
use Rattle.td_desk.specs.Marks.{marks_in}
use Rattle.td_desk.specs.inner.Begun.{IsBegun}
use Rattle.td_desk.proofs.Reopening.{begun_book, begun_named}
use Rattle.td_desk.proofs.desk.read_back.Goals as goal

pub returns-in-Ok-with_ticks-clause-begun : goal.returns-in-Ok-with_ticks-clause-begun
returns-in-Ok-with_ticks-clause-begun c =
    subst (IsBegun c.args.seat.table
    (record {
      rows = c.args.rows;
      stock = stock_of c.args.supply;
      builders = length c.args.seat.desk.noted;
      journal = Some c.args.text.now;
    }) (marks_in c.args.text.now))
    (sym c.in-Ok-with_ticks.ensures.book)
    (begun_book _ c.args.text.now _ _ _ c.in-Ok.book (omega arith) c.in-Ok.ensures.found)

pub returns-in-Ok-with_ticks-clause-named : goal.returns-in-Ok-with_ticks-clause-named
returns-in-Ok-with_ticks-clause-named c =
    begun_named _ c.args.text.now _ _ _ c.in-Ok.book (omega arith) c.in-Ok.ensures.found
