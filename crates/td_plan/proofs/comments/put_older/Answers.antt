-- `put_older`: the clause `ok`.
use Rattle.std.proofs.Common.{◌++◌, ◌∷◌, ◌∙◌, [], List, ap, string_bytes, ℕ}
use Rattle.td_plan.proofs.Titles.{older-text}
use Rattle.td_plan.proofs.comments.put_older.Goals as goal

pub returns-clause-ok : goal.returns-clause-ok
returns-clause-ok c =
    let on = c.args.on.now in
    c.in_ok-push_str-3.ensures.bytes
    ∙ ap (λ (t : List ℕ). t ++ 10 ∷ []) (c.in_ok-push_str-2.ensures.bytes
    ∙ ap (λ (t : List ℕ). t ++ on) c.in_ok-push_str.ensures.bytes)
    ∙ older-text (string_bytes c.args.out.now) on
