-- `read_commit`: the call of `with_texts`.
use Rattle.std.proofs.Common.{List, ℕ, ap, sym, ◌∙◌}
use Rattle.td_rows.specs.declared.key.Key.{Key}
use Rattle.td_rows.specs.Notes.{notes_at}
use Rattle.td_simulate.proofs.StepTexts.{commit_lacks}
use Rattle.td_simulate.proofs.step_line.read_commit.Goals as goal

pub with_texts-requires-clause-extra : goal.with_texts-requires-clause-extra
with_texts-requires-clause-extra c =
    (commit_lacks c.args.rest.now _ c.requires
    (ap (λ (q : List Key × List ℕ). notes_at q.1) (sym c.in_ok-keys.ensures)
    ∙ sym c.in-Some-read_notes.ensures)).0

pub with_texts-requires-clause-text : goal.with_texts-requires-clause-text
with_texts-requires-clause-text c =
    (commit_lacks c.args.rest.now _ c.requires
    (ap (λ (q : List Key × List ℕ). notes_at q.1) (sym c.in_ok-keys.ensures)
    ∙ sym c.in-Some-read_notes.ensures)).1
