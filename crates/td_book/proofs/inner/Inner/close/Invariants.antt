-- What `Inner::close` calls its callees with, for their ghost members.
use Rattle.td_book.specs.Building.{settling_of}
use Rattle.td_book.proofs.inner.Inner.close.Given as goal

abbrev pub ghost-settle : goal.ghost-settle
ghost-settle a = settling_of a.planned
