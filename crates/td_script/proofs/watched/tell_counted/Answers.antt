-- `tell_counted`: what its call asks.
use Rattle.td_script.proofs.watched.tell_counted.Goals as goal

pub tell-requires-clause-lent : goal.tell-requires-clause-lent
tell-requires-clause-lent c = record {
  board = c.requires.lent.board;
  alone = c.requires.lent.alone;
  fits = c.requires.lent.fits;
}
