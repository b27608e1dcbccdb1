-- `put_check`: the whole line.
use Rattle.std.proofs.Common.{◌++◌, ◌∷◌, ◌∙◌, [], List, ap, codes, string_bytes, ℕ}
use Rattle.td_rows.specs.KeyText.{key_text}
use Rattle.td_plan.proofs.Titles.{check-text}
use Rattle.td_plan.proofs.comments.put_check.Goals as goal

pub returns-clause-ok : goal.returns-clause-ok
returns-clause-ok c =
    let on = c.args.on.now in
    c.in_ok-put_older.ensures.ok
    ∙ ap (λ (t : List ℕ). t ++ (codes " of an older " ++ (on ++ 10 ∷ [])))
    c.in_ok-put_waits_for.ensures.ok
    ∙ check-text (string_bytes c.args.out.now)
    (key_text (record { source = c.args.source.now; arch = c.args.arch.now })) c.args.name.now on
