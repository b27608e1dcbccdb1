-- `Supply::arrive`: the clauses `ok` and `elsewhere`, and its type's invariant.
use Rattle.std.proofs.Common.{◌≡◌, ℕ, Bool, List, Option, Some, None, map, sym, ap, ◌∙◌}
use Rattle.td_version.specs.Version.{Parts}
use Rattle.td_relation.specs.Table.{place_of}
use Rattle.td_relation.specs.TableView.{table}
use Rattle.td_supply.specs.declared.stocked.Stocked.{Stocked}
use Rattle.td_supply.specs.Arrivals.{made_of, put_all, rebuild_there}
use Rattle.td_supply.specs.Supplied.{Supplied, Item, is_of}
use Rattle.td_supply.specs.Supply.{SupplyView, arrived, arrived_at}
use Rattle.td_supply.specs.SupplyViews.{item, sources_of}
use Rattle.std.specs.Str.{bytes_eq}
use Rattle.td_supply.proofs.Arrivals.{put-arrived, arrived-nowhere, arrival-places}
use Rattle.td_supply.proofs.supply.Supply.arrive.Goals as goal

pub returns-in_default-clause-ok : goal.returns-in_default-clause-ok
returns-in_default-clause-ok c =
    let s = c.self.inside in
    sym (
    ap (λ (v : SupplyView). arrived v c.args.source.now c.args.arch.now c.args.number)
    (sym c.self.view_is)
    ∙ ap (λ (l : List Item).
    record { table = table s.archs; sources = sources_of s.sources.entries; items = l })
    (arrived-nowhere (table s.archs) c.args.source.now c.args.arch.now c.args.number
    (sym c.index.ensures ∙ c.in_default.is) (map item s.items.items))
    ∙ c.self.view_is
    )

-- the items afterwards
after : (c : goal.After-put_each)
    → map item c.put_each.new.items.items
    ≡ map (arrived_at (table c.self.inside.archs) c.args.source.now c.args.arch.now c.args.number)
    (map item c.self.inside.items.items)
after c =
    let s = c.self.inside in
    let xs = s.items.items in
    let make = λ (x : Stocked). rebuild_there c.in-Some.place c.args.number (item x).offer in
    let found : place_of (table s.archs) c.args.arch.now ≡ Some c.in-Some.place =
    sym c.index.ensures ∙ c.in-Some.is in
    c.put_each.ensures
    ∙ ap (λ (l : List (ℕ × Parts)). put_all l (map item xs))
    (c.in_ok-made.ensures
    ∙ ap (λ (l : List Stocked). made_of make l c.of-numbers.result.now) c.as_slice.ensures.value
    ∙ ap (made_of make xs) (c.of-numbers.ensures ∙ c.self.invariant.1 c.args.source.now))
    ∙ put-arrived (table s.archs) c.args.source.now c.args.arch.now c.args.number c.in-Some.place
    found xs

pub invariant_of-self : goal.invariant_of-self
invariant_of-self c =
    let s = c.self.inside in
    let kept = λ (test : Supplied → Bool).
    arrival-places test (table s.archs) c.args.source.now c.args.arch.now c.args.number
    s.items.items c.put_each.new.items.items (after c) in (
      λ q. c.self.invariant.0 q ∙ kept (λ o. bytes_eq q o.name),
      λ q. c.self.invariant.1 q ∙ kept (is_of q),
      c.self.invariant.2,
    )

pub returns-clause-ok : goal.returns-clause-ok
returns-clause-ok c =
    let s = c.self.inside in
    ap (λ (l : List Item).
    record { table = table s.archs; sources = sources_of s.sources.entries; items = l }) (after c)
    ∙ ap (λ (v : SupplyView). arrived v c.args.source.now c.args.arch.now c.args.number)
    c.self.view_is

no_place : (place : ℕ) (o : Option ℕ) → o ≡ Some place → o ≡ None → ⊥
no_place place o some none = cc

-- the architecture is in the table
pub returns-in_err-made-clause-elsewhere : goal.returns-in_err-made-clause-elsewhere
returns-in_err-made-clause-elsewhere c = λ none.
    absurd (no_place c.in-Some.place (place_of (table c.self.inside.archs) c.args.arch.now)
    (sym c.index.ensures ∙ c.in-Some.is)
    (ap (λ (v : SupplyView). place_of v.table c.args.arch.now) c.self.view_is ∙ none))
