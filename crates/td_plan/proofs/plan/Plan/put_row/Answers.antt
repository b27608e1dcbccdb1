-- `Plan::put_row`: nothing where the source isn't affected or the table hasn't the architecture.
use Rattle.std.proofs.Common.{◌≡◌, ◌∙◌, ◌++◌, List, None, Option, Some, ap, ap₂, false}
use Rattle.std.proofs.Common.{string_bytes}
use Rattle.std.proofs.Common.{subst, sym, ℕ}
use Rattle.std.proofs.lemmas.Result.{on_ok_weaker}
use Rattle.std.specs.Option.{option_to_list}
use Rattle.td_text.specs.Lines.{text_of}
use Rattle.td_relation.specs.Table.{place_of}
use Rattle.td_indices.specs.Archive.{Contents, source_named}
use Rattle.td_indices.specs.Sources.{KeptSource}
use Rattle.td_query.specs.Statuses.{is_affected}
use Rattle.td_plan.specs.inner.Waiters.{kept_of}
use Rattle.td_plan.proofs.LeftSteps.{left-nowhere, left-there, left-unaffected, row-is, there-low}
use Rattle.td_plan.proofs.PlanLines.{nothing-then}
use Rattle.td_plan.proofs.plan.Plan.put_row.Goals as goal

pub returns-in_default-clause-ok : goal.returns-in_default-clause-ok
returns-in_default-clause-ok c = λ p is are there.
    nothing-then (string_bytes c.args.out.now) _
    (left-unaffected p c.args.key.now c.args.row.now
    (subst (λ (n : List ℕ). (s : KeptSource) → source_named p.archive n ≡ Some s
    → is_affected p.archive p.tracker s ≡ false) c.source.ensures.text
    (c.in_default.ensures p is are)))

pub returns-in-Some-index-clause-ok : goal.returns-in-Some-index-clause-ok
returns-in-Some-index-clause-ok c =
    let key = c.args.key.now in
    let row = c.args.row.now in
    let start = string_bytes c.args.out.now in
    let m = c.in-Some.mover.now in
    let place = c.in-Some-index.place in
    on_ok_weaker c.put_left_at.result (λ more p is are there.
    let known = c.in-Some.ensures p is are in
    let named : source_named p.archive key.source ≡ Some (kept_of m) =
    ap (source_named p.archive) (sym c.source.ensures.text) ∙ known.0 in
    let at : Some place ≡ place_of p.archive.table key.arch = c.in-Some-index.ensures
    ∙ ap₂ place_of (c.archs.ensures ∙ ap (λ (a : Contents). a.table) is.inputs.archive)
    c.arch.ensures.text in
    more p is (there-low p key place at) known.1 (row-is p key row (kept_of m) place named at there)
    ∙ ap (λ (o : Option (List ℕ)). start ++ text_of (option_to_list o))
    (sym (left-there p key row (kept_of m) place named at))) c.put_left_at.ensures.ok

pub returns-in-None-clause-ok : goal.returns-in-None-clause-ok
returns-in-None-clause-ok c = λ p is are there.
    let key = c.args.key.now in
    let m = c.in-Some.mover.now in
    let known = c.in-Some.ensures p is are in
    let named : source_named p.archive key.source ≡ Some (kept_of m) =
    ap (source_named p.archive) (sym c.source.ensures.text) ∙ known.0 in
    let none : None ≡ place_of p.archive.table key.arch = c.in-None.ensures
    ∙ ap₂ place_of (c.archs.ensures ∙ ap (λ (a : Contents). a.table) is.inputs.archive)
    c.arch.ensures.text in
    nothing-then (string_bytes c.args.out.now) _
    (left-nowhere p key c.args.row.now (kept_of m) named none)
