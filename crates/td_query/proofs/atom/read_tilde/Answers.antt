-- `read_tilde`: the clause `memory`, of a pattern.
use Rattle.std.proofs.Common.{◌≡◌, ◌∙◌, List, ℕ, None, Some, option_map, ap, sym}
use Rattle.std.specs.Prelude.{codes}
use Rattle.std.specs.Borrow.{Bor}
use Rattle.td_text.specs.Cut.{strip}
use Rattle.td_query.specs.Tokens.{skipped}
use Rattle.td_query.proofs.Beginnings.{tilde_pattern}
use Rattle.td_query.proofs.atom.read_tilde.Goals as goal

pub returns-in-Some-strip-2-clause-memory : goal.returns-in-Some-strip-2-clause-memory
returns-in-Some-strip-2-clause-memory c = λ is.
    let u = c.in-Some.rest.now in
    let tilde : strip (codes "~") (skipped c.args.text.now) ≡ Some u =
    ap (strip (codes "~")) (sym c.skip-at.ensures.value) ∙ sym c.in-Some.ensures.value in
    let quote : strip (codes "\"") (skipped u) ≡ None =
    ap (strip (codes "\"")) (sym c.skip-at-2.ensures.value) ∙ sym c.strip-2.ensures.value
    ∙ ap (option_map (λ (x : Bor (List ℕ)). x.now)) c.in_default-strip.is in
    let slash : strip (codes "/") (skipped u) ≡ Some c.in-Some-strip-2.rest.now =
    ap (strip (codes "/")) (sym c.skip-at-2.ensures.value) ∙ sym c.in-Some-strip-2.ensures.value in
    tilde_pattern _ c.args.field.now c.args.text.now u c.in-Some-strip-2.rest.now tilde quote slash
    (c.read_slash.ensures.memory is)
