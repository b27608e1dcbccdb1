-- `tick_at`: what it answers.
use Rattle.std.proofs.Common.{rules, sym, ◌∙◌, true, ◌≡◌}
use Rattle.td_desk.proofs.Ticking.{tick_made, tick_undone}
use Rattle.td_desk.proofs.tick.tick_at.Goals as goal

pub returns-then-finds_made : goal.returns-then-finds_made
returns-then-finds_made c =
    let yes : c.finds_made.result ≡ true = search rules in
    tick_made c.args.n c.args.marked.now c.args.tick.now c.args.receipt.now
    (sym c.finds_made.ensures ∙ yes)

pub returns-then-finds_undo : goal.returns-then-finds_undo
returns-then-finds_undo c =
    let yes : c.finds_undo.result ≡ true = search rules in
    tick_undone c.args.n c.args.marked.now c.args.tick.now c.args.receipt.now
    (sym c.finds_undo.ensures ∙ yes)
