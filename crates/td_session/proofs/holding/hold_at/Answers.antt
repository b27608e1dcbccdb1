-- `hold_at`: what the opening asks, and how the session ends.
use Rattle.std.proofs.Common.{ℕ, List, option_map, refl, string_bytes, subst}
use Rattle.std.proofs.lemmas.List.Elements.{recursion_from_All}
use Rattle.td_rows.specs.KeyText.{KeyFits}
use Rattle.td_rows.specs.Table.{keys_of}
use Rattle.td_supply.specs.Supply.{Stock, stock_of}
use Rattle.td_lasting.specs.Opened.{IsFaultOf, IsOpened, LosesNothing}
use Rattle.td_lasting.specs.Sessions.{IsTurn}
use Rattle.td_lasting.specs.Terms.{setting_of}
use Rattle.td_session.specs.inner.Holding.{AreServed}
use Rattle.td_session.proofs.Endings.{answered, keeps-same}
use Rattle.td_session.proofs.holding.hold_at.Goals as goal

pub open-requires-clause-keys : goal.open-requires-clause-keys
open-requires-clause-keys g c =
    recursion_from_All KeyFits (keys_of c.args.ground.rows) c.args.ground.keys

pub serve_at-requires-clause-turn : goal.serve_at-requires-clause-turn
serve_at-requires-clause-turn g c = λ r w turn.
    let found = g.D.Device.known c.args.device in
    let rows = c.args.ground.rows in
    let stock = stock_of c.args.ground.supply in
    let terms = c.args.terms.now in
    let desk = c.in-Ok.desk in
    c.requires.turn r w
    (record {
      opened = desk;
      opens = subst (λ (h : List ℕ). IsOpened h rows stock found desk) c.as_str.ensures.value
          c.in-Ok.ensures.opened;
      turn = subst (λ (k : Stock).
          IsTurn (setting_of k terms) desk.history (g.R.Turns.left c.args.reader.now)
          (g.R.Turns.left r) (g.W.Write.contents c.args.writer.now) (g.W.Write.contents w))
          c.in-Ok.ensures.opened.stock_is turn;
    })

pub returns-in-Ok-clause-ends : goal.returns-in-Ok-clause-ends
returns-in-Ok-clause-ends g c =
    let found = g.D.Device.known c.args.device in
    let rows = c.args.ground.rows in
    let stock = stock_of c.args.ground.supply in
    let terms = c.args.terms.now in
    let desk = c.in-Ok.desk in
    let last = option_map g.D.Device.known c.serve_at.result.file in
    let known = g.R.Turns.left c.args.reader.now in
    let old = g.W.Write.contents c.args.writer.now in
    let new = g.W.Write.contents c.serve_at.new.writer in
    answered (string_bytes c.args.ground.header) rows (setting_of stock terms) found known
    (g.R.Turns.left c.serve_at.new.reader) old new desk last c.serve_at.result.end
    (subst (λ (h : List ℕ). IsOpened h rows stock found desk) c.as_str.ensures.value
    c.in-Ok.ensures.opened)
    (λ honest. subst (λ (h : List ℕ). LosesNothing h rows found desk.device)
    c.as_str.ensures.value (c.in-Ok.ensures.any_moment honest))
    (subst (λ (k : Stock).
    AreServed (setting_of k terms) desk last known old new c.serve_at.result.end)
    c.in-Ok.ensures.opened.stock_is c.serve_at.ensures.served)

pub returns-clause-ends : goal.returns-clause-ends
returns-clause-ends g c =
    let found = g.D.Device.known c.args.device in
    let rows = c.args.ground.rows in
    let last = g.D.Device.known c.in-Err.device in (
      (
        last,
        refl,
        record {
          due = subst (λ (h : List ℕ). IsFaultOf h rows found c.in-Err.fault)
              c.as_str.ensures.value c.in-Err.ensures.fault;
          untouched = c.in-Err.ensures.refused;
          keeps = λ honest. subst (λ (h : List ℕ). LosesNothing h rows found last)
              c.as_str.ensures.value (c.in-Err.ensures.any_moment honest);
        },
      ),
      (
        keeps-same (g.R.Turns.left c.args.reader.now),
        keeps-same (g.W.Write.contents c.args.writer.now),
      ),
    )
