-- `put_dw`: the whole line.
use Rattle.std.proofs.Common.{◌++◌, ◌∷◌, ◌∙◌, [], List, ap, codes, map, string_bytes, ℕ}
use Rattle.td_relation.specs.TableView.{table}
use Rattle.td_plan.specs.Lines.{named_with, spaced}
use Rattle.td_plan.specs.Message.{between}
use Rattle.td_plan.specs.Premises.{arch_at}
use Rattle.td_plan.proofs.Titles.{command-text}
use Rattle.td_plan.proofs.commands.put_dw.Goals as goal

pub returns-clause-ok : goal.returns-clause-ok
returns-clause-ok c =
    let source : List ℕ = named_with c.args.source.now.name.now c.args.source.now.version.now in
    let archs : List ℕ = spaced (map (arch_at (table c.args.archs.now)) c.args.places.now) in
    let suite : List ℕ = c.args.words.now.suite.now in
    let text : List ℕ = between 34 c.args.relation.now in
    c.in_ok-put_relation.ensures.ok
    ∙ ap (λ (t : List ℕ). t ++ (text ++ 10 ∷ [])) (c.in_ok-put_front.ensures.ok
    ∙ ap (λ (t : List ℕ). t ++ 32 ∷ (source ++ (codes " . " ++ (archs ++ (codes " . "
    ++ (suite ++ codes " . -m ")))))) c.in_ok-push_str.ensures.bytes)
    ∙ command-text (string_bytes c.args.out.now) (codes "dw") source archs suite text
