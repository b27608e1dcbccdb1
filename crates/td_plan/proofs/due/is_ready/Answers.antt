-- `is_ready`: what it answers.
use Rattle.std.proofs.Common.{◌≡◌, ◌&&◌, ◌∙◌, Option, ap, false, rules, sym, true}
use Rattle.std.specs.List.{list_any}
use Rattle.std.specs.Option.{option_map_or}
use Rattle.std.proofs.lemmas.Bool.{and_left, and_right}
use Rattle.td_rows.specs.declared.row.Row.{Row}
use Rattle.td_rows.specs.States.{is_installed}
use Rattle.td_plan.specs.Due.{asks_rebuild, is_present, is_ready, is_wanted}
use Rattle.td_plan.specs.Premises.{has_row_that, is_bad}
use Rattle.td_plan.specs.inner.Inputs.{kept_source}
use Rattle.td_plan.proofs.OnInputs.{on_inputs, premises_of, status_numbered}
use Rattle.td_plan.proofs.Seeing.{last-of}
use Rattle.td_plan.proofs.due.is_ready.Goals as goal

pub returns-then-not-asks_rebuild : goal.returns-then-not-asks_rebuild
returns-then-not-asks_rebuild c =
    let x = c.args.inputs.now in
    let s = kept_source c.args.source.now in
    let place = c.args.place in
    let no : c.asks_rebuild.result ≡ false = search rules in
    on_inputs x (λ p. false ≡ is_ready p s place) (λ t for.
    let q = premises_of x t in
    let wanted : c.asks_rebuild.result ≡ is_wanted q s place =
    c.asks_rebuild.ensures ∙ ap asks_rebuild (c.status.ensures q for
    ∙ status_numbered q.archive t c.args.number place s c.requires.source) in
    sym (and_left (is_wanted q s place) _ (sym wanted ∙ no)))

pub returns-then-not-is_installed : goal.returns-then-not-is_installed
returns-then-not-is_installed c =
    let x = c.args.inputs.now in
    let s = kept_source c.args.source.now in
    let place = c.args.place in
    let no : c.is_installed.result ≡ false = search rules in
    on_inputs x (λ p. false ≡ is_ready p s place) (λ t for.
    let q = premises_of x t in
    let installed : c.is_installed.result
    ≡ has_row_that (λ r. is_installed r.state) q s place =
    c.is_installed.ensures
    ∙ ap (λ (o : Option Row). option_map_or (λ r. is_installed r.state) o false) c.row.ensures in
    sym (and_right (is_wanted q s place) _ (and_left (has_row_that (λ r. is_installed r.state) q s
    place) _ (sym installed ∙ no))))

pub returns : goal.returns
returns c =
    let x = c.args.inputs.now in
    let s = kept_source c.args.source.now in
    let place = c.args.place in
    let yes : c.asks_rebuild.result ≡ true = search rules in
    let there : c.is_installed.result ≡ true = search rules in
    on_inputs x (λ p. c.has_bad_package.result ≡ is_ready p s place) (λ t for.
    let q = premises_of x t in
    let wanted : c.asks_rebuild.result ≡ is_wanted q s place =
    c.asks_rebuild.ensures ∙ ap asks_rebuild (c.status.ensures q for
    ∙ status_numbered q.archive t c.args.number place s c.requires.source) in
    let installed : c.is_installed.result
    ≡ has_row_that (λ r. is_installed r.state) q s place =
    c.is_installed.ensures
    ∙ ap (λ (o : Option Row). option_map_or (λ r. is_installed r.state) o false) c.row.ensures in
    c.has_bad_package.ensures q for
    ∙ sym (last-of (is_wanted q s place) (has_row_that (λ r. is_installed r.state) q s place)
    (list_any (λ b. is_present s place b && is_bad q b) q.archive.binaries) (sym wanted ∙ yes)
    (sym installed ∙ there)))
