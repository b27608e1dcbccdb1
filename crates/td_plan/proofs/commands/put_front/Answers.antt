-- `put_front`: the clause `ok`.
use Rattle.std.proofs.Common.{◌++◌, ◌∙◌, List, ap, codes, map, string_bytes, ℕ}
use Rattle.td_relation.specs.TableView.{table}
use Rattle.td_plan.specs.Lines.{named_with, spaced}
use Rattle.td_plan.specs.Premises.{arch_at}
use Rattle.td_plan.proofs.Titles.{front-text}
use Rattle.td_plan.proofs.commands.put_front.Goals as goal

pub returns-clause-ok : goal.returns-clause-ok
returns-clause-ok c =
    let source = c.args.source.now in
    let archs = spaced (map (arch_at (table c.args.archs.now)) c.args.places.now) in
    let suite = c.args.words.now.suite.now in
    let old = string_bytes c.args.out.now in
    c.in_ok-push_str-3.ensures.bytes
    ∙ ap (λ (t : List ℕ). t ++ codes " . -m ") (c.in_ok-push_str-2.ensures.bytes
    ∙ ap (λ (t : List ℕ). string_bytes c.push_str.new.self ++ t) c.suite.ensures
    ∙ ap (λ (t : List ℕ). t ++ suite) (c.in_ok-push_str.ensures.bytes
    ∙ ap (λ (t : List ℕ). t ++ codes " . ") (c.in_ok-put_archs.ensures.ok
    ∙ ap (λ (t : List ℕ). t ++ archs) c.in_ok-put_source.ensures.ok)))
    ∙ front-text old (named_with source.name.now source.version.now) archs suite
