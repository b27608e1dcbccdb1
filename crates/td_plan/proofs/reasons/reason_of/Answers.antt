-- `reason_of`: what it answers.
use Rattle.std.proofs.Common.{◌≡◌, ◌∙◌, Bool, Option, ap, false, not, rules, sym, true}
use Rattle.std.proofs.Common.{if◌then◌else◌}
use Rattle.std.specs.Option.{option_map_or}
use Rattle.td_rows.specs.declared.row.Row.{Row}
use Rattle.td_rows.specs.States.{is_installed}
use Rattle.td_plan.specs.Due.{has_number}
use Rattle.td_plan.specs.Reasons.{Reason, all, is_exactly, is_of_all, number, old}
use Rattle.td_plan.specs.Reasons.{some_bad, source, state}
use Rattle.td_plan.specs.inner.Inputs.{kept_source}
use Rattle.td_plan.proofs.reasons.reason_of.Goals as goal

-- the reason by what holds
abbrev by : Bool → Bool → Bool → Bool → Reason
by installed numbered exactly of_all =
    if not installed then state
    else (if not numbered then number
    else (if exactly then old
    else (if of_all then all
    else source)))

-- whether the row is Installed
abbrev there : Option Row → Bool
there row = option_map_or (λ r. is_installed r.state) row false

pub returns-then-not-is_installed : goal.returns-then-not-is_installed
returns-then-not-is_installed c = λ p of motions row.
    let s = kept_source c.args.mover.now.source in
    let place = c.args.place in
    let no : c.is_installed.result ≡ false = search rules in
    sym (ap (λ (b : Bool). by b (has_number p s) (some_bad (is_exactly place) p s)
    (some_bad is_of_all p s)) (ap there row ∙ sym c.is_installed.ensures ∙ no))

pub returns-then-not-mover : goal.returns-then-not-mover
returns-then-not-mover c = λ p of motions row.
    let s = kept_source c.args.mover.now.source in
    let place = c.args.place in
    let yes : c.is_installed.result ≡ true = search rules in
    let no : c.args.mover.now.motions.is_numbered ≡ false = search rules in
    sym (ap (λ (b : Bool). by b (has_number p s) (some_bad (is_exactly place) p s)
    (some_bad is_of_all p s)) (ap there row ∙ sym c.is_installed.ensures ∙ yes)
    ∙ ap (λ (b : Bool). by true b (some_bad (is_exactly place) p s) (some_bad is_of_all p s))
    (sym motions.numbered ∙ no))

pub returns : goal.returns
returns c = λ p of motions row.
    let s = kept_source c.args.mover.now.source in
    let place = c.args.place in
    let yes : c.is_installed.result ≡ true = search rules in
    let left : c.args.mover.now.motions.is_numbered ≡ true = search rules in
    sym (ap (λ (b : Bool). by b (has_number p s) (some_bad (is_exactly place) p s)
    (some_bad is_of_all p s)) (ap there row ∙ sym c.is_installed.ensures ∙ yes)
    ∙ ap (λ (b : Bool). by true b (some_bad (is_exactly place) p s) (some_bad is_of_all p s))
    (sym motions.numbered ∙ left)
    ∙ ap (λ (b : Bool). by true true b (some_bad is_of_all p s))
    (sym (c.has_bad.ensures p of) ∙ c.if-has_bad.false)
    ∙ ap (λ (b : Bool). by true true false b)
    (sym (c.has_bad-2.ensures p of) ∙ c.if-has_bad-2.false))
