-- `Inner::withdraw_all`: what it answers where each row is withdrawn.
use Rattle.std.proofs.Common.{◌++◌, ap, ◌∙◌}
use Rattle.td_core.specs.History.{rows_of}
use Rattle.td_book.specs.Tries.{wins_for}
use Rattle.td_book.specs.Watching.{WatchedView}
use Rattle.td_book.proofs.Steps.{stays_more}
use Rattle.td_book.proofs.inner.Inner.withdraw_all.Goals as goal

pub returns-in-None : goal.returns-in-None
returns-in-None c =
    let room = c.claims_for_one.ensures in
    let u = c.in-None.ensures.none in
    record {
      history = ap (λ (b : WatchedView). b.history) u.books ∙ room.history;
      view = u.view;
      tries = u.tries ∙ (λ j. room.tries j ++ wins_for (rows_of (room.history j)) c.args.keys.now);
      stays = stays_more c.args.self.now c.claims_for_one.new.self c.withdraw_until.new.self
          room.stays u.stays;
    }
