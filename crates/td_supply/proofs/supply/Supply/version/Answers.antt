-- `Supply::version`: the clauses `text` and `reads`.
use Rattle.std.proofs.Common.{List, ℕ, Bor, Option, option_map, sym, subst, ap, ◌∙◌}
use Rattle.std.specs.Prelude.{IfSome}
use Rattle.td_supply.specs.Supply.{SupplyView, version_of}
use Rattle.td_supply.specs.VersionTexts.{IsVersionText}
use Rattle.td_supply.proofs.SourceLookups.{version_found, version_has}
use Rattle.td_supply.proofs.supply.Supply.version.Goals as goal

pub returns-clause-text : goal.returns-clause-text
returns-clause-text c =
    ap (option_map (λ (v : Bor (List ℕ)). v.now)) (c.copied.ensures ∙ c.get.ensures.value)
    ∙ version_found c.args.source.now c.self.inside.sources.entries
    ∙ ap (λ (s : SupplyView). version_of s c.args.source.now) c.self.view_is

pub returns-clause-reads : goal.returns-clause-reads
returns-clause-reads c =
    subst (λ (o : Option (Bor (List ℕ))). IfSome o (λ v. IsVersionText v.now))
    (sym (c.copied.ensures ∙ c.get.ensures.value))
    (version_has IsVersionText c.args.source.now c.self.inside.sources.entries c.self.invariant.2)
