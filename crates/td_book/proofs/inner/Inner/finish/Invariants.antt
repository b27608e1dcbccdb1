-- What `Inner::finish` calls its callees with, for their ghost members.
use Rattle.td_book.specs.Building.{head_key}
use Rattle.td_book.proofs.inner.Inner.finish.Given as goal

abbrev pub ghost-know : goal.ghost-know
ghost-know a = head_key a.claim
