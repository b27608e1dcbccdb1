-- `motion_at`: what it answers.
use Rattle.std.proofs.Common.{◌≡◌, ◌∙◌, ◌&&◌, Bool, ℕ, ap, false, rules, sym, true, ap₂}
use Rattle.std.proofs.Common.{if◌then◌else◌}
use Rattle.std.specs.Option.{option_map_or}
use Rattle.std.proofs.lemmas.Bool.{and_left}
use Rattle.td_plan.specs.declared.due.Motion.TheVariants.{Due, Pending, Still}
use Rattle.td_plan.specs.Due.{arrival_number, asks_rebuild, is_due, is_pending, is_under_way}
use Rattle.td_plan.specs.Due.{is_wanted, number_of}
use Rattle.td_plan.specs.Premises.{row_at}
use Rattle.td_plan.specs.inner.Inputs.{kept_source}
use Rattle.td_plan.specs.inner.Motions.{motion_at, row_motion}
use Rattle.td_plan.proofs.OnInputs.{on_inputs, premises_of, status_numbered}
use Rattle.td_plan.proofs.due.motion_at.Goals as goal

pub returns-then-due : goal.returns-then-due
returns-then-due c = λ p of is.
    let s = kept_source c.args.source.now in
    let place = c.args.place in
    let yes : c.args.due ≡ true = search rules in
    sym (ap (λ (b : Bool). if b then Due
    else (if is_pending p s place then Pending (arrival_number p s place) else Still))
    (sym is ∙ yes))

pub returns-then-not-asks_rebuild : goal.returns-then-not-asks_rebuild
returns-then-not-asks_rebuild c =
    let x = c.args.inputs.now in
    let s = kept_source c.args.source.now in
    let place = c.args.place in
    let other : c.args.due ≡ false = search rules in
    let no : c.asks_rebuild.result ≡ false = search rules in
    on_inputs x (λ p. c.args.due ≡ is_due p s place → Still ≡ motion_at p s place) (λ t for is.
    let q = premises_of x t in
    let wanted : c.asks_rebuild.result ≡ is_wanted q s place =
    c.asks_rebuild.ensures ∙ ap asks_rebuild (c.status.ensures q for
    ∙ status_numbered q.archive t c.args.number place s c.requires.source) in
    let rests : is_pending q s place ≡ false = and_left (is_wanted q s place) _ (sym wanted ∙ no) in
    sym (ap (λ (b : Bool). if b then Due
    else (if is_pending q s place then Pending (arrival_number q s place) else Still))
    (sym is ∙ other)
    ∙ ap (λ (b : Bool). if b then Pending (arrival_number q s place) else Still) rests))

pub returns : goal.returns
returns c =
    let x = c.args.inputs.now in
    let s = kept_source c.args.source.now in
    let place = c.args.place in
    let other : c.args.due ≡ false = search rules in
    let yes : c.asks_rebuild.result ≡ true = search rules in
    on_inputs x (λ p. c.args.due ≡ is_due p s place → c.motion_of_row.result ≡ motion_at p s place)
    (λ t for is.
    let q = premises_of x t in
    let row = row_at q s place in
    let wanted : c.asks_rebuild.result ≡ is_wanted q s place =
    c.asks_rebuild.ensures ∙ ap asks_rebuild (c.status.ensures q for
    ∙ status_numbered q.archive t c.args.number place s c.requires.source) in
    let not_due : is_due q s place ≡ false = sym is ∙ other in
    let pending : is_pending q s place ≡ option_map_or (λ r. is_under_way r.state) row false =
    ap (λ (b : Bool). b && option_map_or (λ r. is_under_way r.state) row false)
    (sym wanted ∙ yes) in
    let number : arrival_number q s place ≡ option_map_or (λ r. r.number) row 0 =
    ap (λ (b : Bool). if b then number_of q s else option_map_or (λ r. r.number) row 0) not_due in
    c.motion_of_row.ensures ∙ ap row_motion c.row.ensures
    ∙ sym (ap (λ (b : Bool). if b then Due
    else (if is_pending q s place then Pending (arrival_number q s place) else Still)) not_due
    ∙ ap₂ (λ (b : Bool) (n : ℕ). if b then Pending n else Still) pending number))
