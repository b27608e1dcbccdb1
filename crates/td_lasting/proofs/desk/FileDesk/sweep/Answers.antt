-- `FileDesk::sweep`: nothing is freed, or the rows that are freed are entered.
use Rattle.std.proofs.Common.{◌≡◌, [], List, None, Ok, refl, sym, ap, subst, ◌∙◌, inl}
use Rattle.std.specs.String.{string_bytes}
use Rattle.td_rows.specs.declared.key.Key.{Key}
use Rattle.td_rows.specs.Keys.{ascending}
use Rattle.td_rows.specs.Table.{keys_of}
use Rattle.td_core.specs.History.{rows_of}
use Rattle.td_core.specs.Offers.{freed, supply_now}
use Rattle.td_script.specs.Replies.{Reply, enters, sweeps}
use Rattle.td_lasting.specs.DeskView.{DeskView, IsAtRest}
use Rattle.td_lasting.specs.inner.Answered.{IsAnswered}
use Rattle.td_lasting.proofs.AnswerLaws.{shown}
use Rattle.td_lasting.proofs.Shown.{sweeps_made}
use Rattle.td_lasting.proofs.Sweeping.{can_sweep, freed_none, freed_some, not_empty, sweep_on}
use Rattle.td_lasting.proofs.desk.FileDesk.sweep.Goals as goal

pub enter_told-requires-clause-applies : goal.enter_told-requires-clause-applies
enter_told-requires-clause-applies g c =
    let v = c.args.self.now in
    let these = freed (supply_now v.stock v.history) (rows_of v.history) in
    let f = freed_some c.in_ok-keys.field-0 these c.in-Some.keys c.in-Some.is c.in_ok-keys.ensures
    in
    (can_sweep v.stock v.history c.in-Some.keys
    (ap (λ (w : DeskView). ascending (keys_of w.history.opening)) (sym c.self.view_is)
    ∙ c.rows-rows.ensures.rising)
    f.0 (subst IsAtRest c.self.view_is c.self.invariant.rest).keys).applied

pub enter_told-requires-clause-line : goal.enter_told-requires-clause-line
enter_told-requires-clause-line g c =
    let v = c.args.self.now in
    let these = freed (supply_now v.stock v.history) (rows_of v.history) in
    let f = freed_some c.in_ok-keys.field-0 these c.in-Some.keys c.in-Some.is c.in_ok-keys.ensures
    in
    (can_sweep v.stock v.history c.in-Some.keys
    (ap (λ (w : DeskView). ascending (keys_of w.history.opening)) (sym c.self.view_is)
    ∙ c.rows-rows.ensures.rising)
    f.0 (subst IsAtRest c.self.view_is c.self.invariant.rest).keys).line
    f.1

pub returns-in-Some : goal.returns-in-Some
returns-in-Some g c =
    let v = c.args.self.now in
    let keys = c.in-Some.keys in
    let text = string_bytes c.args.out.now in
    let these = freed (supply_now v.stock v.history) (rows_of v.history) in
    let f = freed_some c.in_ok-keys.field-0 these keys c.in-Some.is c.in_ok-keys.ensures in
    let is : sweeps v.history these
    ≡ enters v.history (sweep_on keys) [] =
    ap (λ (l : List Key). sweeps v.history l) (sym f.0)
    ∙ sweeps_made v.history keys (not_empty keys f.1) in
    subst (λ (r : Reply).
    IsAnswered r None v c.enter_told.new.self text (string_bytes c.enter_told.new.out)
    c.enter_told.result) (sym is) c.enter_told.ensures

pub returns-in_ok-put_sweep-in-None : goal.returns-in_ok-put_sweep-in-None
returns-in_ok-put_sweep-in-None g c =
    let v = c.args.self.now in
    let before = string_bytes c.args.out.now in
    let now = string_bytes c.put_sweep.new.out in
    let these = freed (supply_now v.stock v.history) (rows_of v.history) in
    let refused = c.in_ok-put_sweep-in-None.field-0 in
    subst (λ (l : List Key). IsAnswered (sweeps v.history l) None v v before now (Ok refused))
    (sym (freed_none c.in_ok-keys.field-0 these c.in-None.is c.in_ok-keys.ensures))
    (shown (sweeps v.history []) None v before now refused
    (subst IsAtRest c.self.view_is c.self.invariant.rest) c.requires.running (refl, inl refl)
    c.in_ok-put_sweep-in-None.ensures.ok.text_is c.in_ok-put_sweep-in-None.ensures.ok.refusal)
