-- `Inputs::row`: what it answers.
use Rattle.std.proofs.Common.{◌≡◌, List, Some, option_map, slice_get, subst, sym, ℕ}
use Rattle.td_relation.specs.Arch.{ArchWords}
use Rattle.td_rows.specs.declared.key.Key.{Key}
use Rattle.td_rows.specs.Table.{IsAt}
use Rattle.td_plan.specs.Premises.{arch_at}
use Rattle.td_plan.proofs.Seeing.{arch-is, row-found}
use Rattle.td_plan.proofs.inputs.Inputs.row.Goals as goal

pub returns : goal.returns
returns c =
    let x = c.args.self.now in
    let table = x.archive.now.table in
    let place = c.args.place in
    let number = c.in_ok-number.number in
    let key = λ (arch : List ℕ).
    let k : Key = record { source = c.args.source.now; arch = arch } in k in
    let named : option_map (λ a. a.name) (slice_get table place) ≡ Some c.name.result.now =
    subst (λ (t : List ArchWords).
    option_map (λ a. a.name) (slice_get t place) ≡ Some c.name.result.now) c.archs.ensures
    c.name.ensures.name in
    let at : IsAt x.rows.now (key (arch_at table place)) number =
    subst (λ (arch : List ℕ). IsAt x.rows.now (key arch) number)
    (sym (arch-is table place c.name.result.now named)) c.in_ok-number.ensures.found in
    row-found x.rows.now (key (arch_at table place)) c.in_ok-row.field-0-0.now number
    c.in_ok-row.row.now c.len-count.ensures.rising at c.in_ok-row.ensures
