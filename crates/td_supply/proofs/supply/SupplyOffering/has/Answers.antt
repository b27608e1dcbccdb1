-- `SupplyOffering::has`: what it answers.
use Rattle.std.proofs.Common.{ℕ, List, option_map, ap, ◌∙◌}
use Rattle.std.specs.List.{list_any}
use Rattle.td_relation.specs.Asked.{restriction_of}
use Rattle.td_relation.specs.Meeting.{suits}
use Rattle.td_relation.specs.Offers.{Offered}
use Rattle.td_supply.specs.declared.stocked.Stocked.{Stocked}
use Rattle.td_supply.specs.Asking.{passes_at}
use Rattle.td_supply.specs.Supply.{SupplyView, is_named, offered_now, offers_of}
use Rattle.td_supply.specs.SupplyViews.{item, is_under}
use Rattle.td_supply.proofs.AskedItems.{any-asked, any-seen}
use Rattle.td_supply.proofs.supply.SupplyOffering.has.Goals as goal

pub returns : goal.returns
returns c =
    let name = c.args.name.now in
    let xs = c.self.inside.items.items in
    let test =
    λ (o : Offered). suits c.args.place (option_map restriction_of c.args.restriction.now) o in
    let asked = λ (s : Stocked). test (offered_now (item s)) in
    c.some_suits.ensures
    ∙ ap (λ (l : List Stocked). list_any (λ (k : ℕ). passes_at asked l k) c.of.result.now)
    c.as_slice.ensures.value
    ∙ ap (list_any (λ (k : ℕ). passes_at asked xs k)) (c.of.ensures ∙ c.self.invariant.0 name)
    ∙ any-asked (is_under name) asked xs
    ∙ any-seen (is_named name) test item offered_now xs
    ∙ ap (λ (v : SupplyView). list_any test (offers_of v.items name)) c.self.view_is
