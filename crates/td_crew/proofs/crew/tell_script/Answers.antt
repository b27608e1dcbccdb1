-- The seats of a new board are those of its builders, as many as the crew has.
use Rattle.std.proofs.Common.{◌≡◌, ◌≤◌, ℕ, List, [], ◌∷◌, Bor, IfOk, length, map, option_map}
use Rattle.std.proofs.Common.{ap, rules, subst, sym, ◌∙◌}
use Rattle.std.proofs.lemmas.List.{length-replicate}
use Rattle.td_board.specs.Limits.{max_builders}
use Rattle.td_board.specs.Seats.{DeskModel, new_seats}
use Rattle.td_board.proofs.NewSeats.{desk_at, length-seats}
use Rattle.td_supply.specs.Supply.{Stock, stock_of}
use Rattle.td_script.proofs.OpeningLaws.{fresh_supply, stock-opened}
use Rattle.td_script.specs.Asking.{journal_asked, setting_asked}
use Rattle.td_indices.specs.Supplying.{supply_of}
use Rattle.td_script.specs.Reporting.{report_by}
use Rattle.td_crew.specs.CrewText.{EndsFrom}
use Rattle.td_crew.proofs.Endings.{taken_err, taken_ok, taken_on, told_ok}
use Rattle.td_crew.proofs.crew.tell_script.Goals as goal

pub tell_named-telling-requires-clause-seats : goal.tell_named-telling-requires-clause-seats
tell_named-telling-requires-clause-seats g c κs within =
    subst (λ (n : ℕ). c.in-Ok.seats.items ≡ new_seats c.in-Ok.board.table 1 n)
    (sym (length-seats c.in-Ok.board.table 1 c.args.crew.builders c.in-Ok.seats.items
    c.in-Ok.ensures.ok.builder_seats)) c.in-Ok.ensures.ok.builder_seats

pub tell_named-telling-requires-clause-few : goal.tell_named-telling-requires-clause-few
tell_named-telling-requires-clause-few g c κs within =
    subst (λ (n : ℕ). n ≤ max_builders)
    (sym (length-seats c.in-Ok.board.table 1 c.args.crew.builders c.in-Ok.seats.items
    c.in-Ok.ensures.ok.builder_seats)) c.args.crew.few

pub tell_named-telling-requires-clause-staffed : goal.tell_named-telling-requires-clause-staffed
tell_named-telling-requires-clause-staffed g c κs within =
    ap (λ (s : DeskModel). length s.desk.noted) c.in-Ok.ensures.ok.desk_seat
    ∙ length-replicate c.args.crew.builders []
    ∙ sym (length-seats c.in-Ok.board.table 1 c.args.crew.builders c.in-Ok.seats.items
    c.in-Ok.ensures.ok.builder_seats)

pub tell_named-telling-requires-clause-fresh_seat : goal.tell_named-telling-requires-clause-fresh_seat
tell_named-telling-requires-clause-fresh_seat g c κs within =
    desk_at c.in-Ok.board.table _ c.args.crew.builders (length c.args.asked.rows) c.in-Ok.seat
    c.in-Ok.ensures.ok.desk_seat c.len.ensures.len

pub tell_named-telling-requires-clause-fresh_supply : goal.tell_named-telling-requires-clause-fresh_supply
tell_named-telling-requires-clause-fresh_supply g c κs within = fresh_supply _ _ c.in-Ok-supply.ensures

pub returns : goal.returns
returns g c =
    let asked = c.args.asked in
    let count = length-seats c.in-Ok.board.table 1 c.args.crew.builders c.in-Ok.seats.items
    c.in-Ok.ensures.ok.builder_seats in
    let stock = stock-opened _ _ c.in-Ok-supply.ensures in
    let Ends = λ (n : ℕ) (k : Stock) (suites : List (List ℕ)).
    IfOk c.told_of.result (EndsFrom n
    (record {
      stock = k;
      suites = suites;
      report = option_map (λ r. report_by r.now) asked.reports;
    })
    (journal_asked asked) asked.rows asked.script.now) in
    let one : map (λ (s : Bor (List ℕ)). s.now) c.as_slice.result.now ≡ asked.suite.now ∷ [] =
    search rules in
    let ends = subst (λ (n : ℕ). Ends n (supply_of asked.archive.now) (asked.suite.now ∷ [])) count
    (subst (λ (k : Stock). Ends (length c.in-Ok.seats.items) k (asked.suite.now ∷ [])) stock
    (subst (λ (suites : List (List ℕ)).
    Ends (length c.in-Ok.seats.items) (stock_of c.in-Ok-supply.supply) suites) one
    (taken_ok c.tell_named-telling.result c.told_of.result (λ t. t.told) _ c.told_of.ensures
    c.tell_named-telling.ensures.told))) in
    record {
      told = told_ok c.args.crew.builders (setting_asked asked) (journal_asked asked)
          asked.rows asked.script.now c.told_of.result
          (taken_on c.tell_named-telling.result c.told_of.result (λ t. t.told) _ c.told_of.ensures
          c.tell_named-telling.ensures.begun)
          ends;
      fault = taken_err c.tell_named-telling.result c.told_of.result (λ t. t.told) _ c.told_of.ensures
          c.tell_named-telling.ensures.fault;
      only = taken_err c.tell_named-telling.result c.told_of.result (λ t. t.told) _ c.told_of.ensures
          c.tell_named-telling.ensures.only;
    }
