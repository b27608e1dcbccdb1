-- `mover_by_name`: what it answers; an affected source has its name in the archive.
use Rattle.std.proofs.Common.{◌≡◌, ◌∙◌, None, Some, ap, option_map, slice_get, sym}
use Rattle.std.proofs.lemmas.Option.{same_Some}
use Rattle.std.proofs.lemmas.Result.{IfOk-weaker}
use Rattle.td_indices.specs.Archive.{Contents, number_named}
use Rattle.td_indices.specs.Seen.{shown_source}
use Rattle.td_plan.proofs.NamedMovers.{shown-made}
use Rattle.td_plan.proofs.OnInputs.{kept_found}
use Rattle.td_plan.proofs.movers.mover_by_name.Goals as goal

pub returns-in_err-number : goal.returns-in_err-number
returns-in_err-number c = λ p of named.
    absurd (let bad : None ≡ Some named.number = c.in_err-number.ensures.number
    ∙ ap (λ (a : Contents). number_named a c.args.name.now) of.archive ∙ named.named in cc)

pub returns-in_err-source : goal.returns-in_err-source
returns-in_err-source c = λ p of named.
    let number = c.in_ok-number.number in
    let one = same_Some number named.number (c.in_ok-number.ensures.number
    ∙ ap (λ (a : Contents). number_named a c.args.name.now) of.archive ∙ named.named) in
    absurd (let bad : None ≡ Some (shown_source named.source) = c.in_err-source.ensures.found
    ∙ ap (λ (a : Contents). option_map shown_source (slice_get a.sources number)) of.archive
    ∙ ap (λ k. option_map shown_source (slice_get p.archive.sources k)) one
    ∙ ap (option_map shown_source) named.at in cc)

pub returns : goal.returns
returns c = λ p of named.
    let number = c.in_ok-number.number in
    let source = c.in_ok-source.source in
    let name = c.args.name.now in
    shown-made p name c.mover_of.result source number c.mover_of.ensures.source
    (ap (λ (a : Contents). number_named a name) (sym of.archive)
    ∙ sym c.in_ok-number.ensures.number)
    (ap (λ (a : Contents). slice_get a.sources number) (sym of.archive)
    ∙ kept_found c.args.inputs.now.archive.now number source c.in_ok-source.ensures.found)
    (IfOk-weaker c.mover_of.result _ _ (λ m is. is p of) c.mover_of.ensures.mover) named
