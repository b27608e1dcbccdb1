-- `Supply::push_source`: the clause `ok` and its type's invariant.
use Rattle.std.proofs.Common.{◌≡◌, List, ℕ, [], ◌∷◌, ◌++◌, None, Bor, map, sym, subst, ap, ◌∙◌}
use Rattle.std.specs.Map.{lookup}
use Rattle.std.specs.Str.{bytes_eq}
use Rattle.std.proofs.lemmas.List.{map_push}
use Rattle.indexmap.proofs.CallerLemmas.{insert_entry-new}
use Rattle.td_text.proofs.SpelledLines.{all_pushed}
use Rattle.td_relation.specs.TableView.{table}
use Rattle.td_supply.specs.Supply.{SupplyView, version_of, with_source}
use Rattle.td_supply.specs.SupplyViews.{item, sources_of}
use Rattle.td_supply.specs.VersionTexts.{AreVersions, IsVersionText}
use Rattle.td_supply.proofs.SourceLookups.{no_version}
use Rattle.td_supply.proofs.supply.Supply.push_source.Goals as goal

-- the sources afterwards
after : (c : goal.In_ok-insert) → sources_of c.insert.new.self.entries
    ≡ sources_of c.self.inside.sources.entries ++ (c.args.name.now, c.args.version.now) ∷ []
after c =
    let name = c.args.name in
    let version = c.args.version in
    let entries = c.self.inside.sources.entries in
    let gone : lookup (λ (k : Bor (List ℕ)). bytes_eq name.now k.now) entries ≡ None =
    no_version name.now entries
    (ap (λ (s : SupplyView). version_of s name.now) c.self.view_is ∙ c.requires.absent) in
    let one_more : c.insert.new.self.entries ≡ entries ++ (name, version) ∷ [] =
    c.in_ok-insert.ensures.entries
    ∙ insert_entry-new (λ (x y : Bor (List ℕ)). bytes_eq x.now y.now) c.self.inside.sources name
    version gone in
    ap sources_of one_more
    ∙ map_push (λ (p : Bor (List ℕ) × Bor (List ℕ)). (p.0.now, p.1.now)) entries (name, version)

pub invariant_of-self-2 : goal.invariant_of-self-2
invariant_of-self-2 c = (
  c.self.invariant.0,
  c.self.invariant.1,
  subst AreVersions (sym (after c))
      (all_pushed (λ (p : List ℕ × List ℕ). IsVersionText p.1)
      (sources_of c.self.inside.sources.entries) (c.args.name.now, c.args.version.now)
      c.self.invariant.2 c.requires.reads),
)

pub returns-clause-ok : goal.returns-clause-ok
returns-clause-ok c =
    ap (λ (l : List (List ℕ × List ℕ)).
    record {
      table = table c.self.inside.archs;
      sources = l;
      items = map item c.self.inside.items.items;
    }) (after c)
    ∙ ap (λ (s : SupplyView). with_source s c.args.name.now c.args.version.now) c.self.view_is
