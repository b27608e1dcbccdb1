-- `put_left`: the whole line.
use Rattle.std.proofs.Common.{◌++◌, ◌∷◌, ◌∙◌, [], List, ap, decimal, string_bytes, ℕ}
use Rattle.td_rows.specs.KeyText.{key_text}
use Rattle.td_rows.specs.StateWord.{state_word}
use Rattle.td_query.specs.Statuses.{status_name}
use Rattle.td_plan.specs.Reasons.{reason_name}
use Rattle.td_plan.specs.inner.Reasons.{reason_of}
use Rattle.td_plan.proofs.Titles.{left-text}
use Rattle.td_plan.proofs.comments.put_left.Goals as goal

pub returns-clause-ok : goal.returns-clause-ok
returns-clause-ok c =
    let row = c.args.row.now in
    let reason : List ℕ = reason_name (reason_of c.args.reason) in
    c.in_ok-put_reason.ensures.ok
    ∙ ap (λ (t : List ℕ). t ++ 32 ∷ (reason ++ 10 ∷ [])) c.in_ok-put_left_row.ensures.ok
    ∙ left-text (string_bytes c.args.out.now) (key_text c.args.key.now)
    (status_name c.args.status) (state_word row.state) (decimal row.number) reason
