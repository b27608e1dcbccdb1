-- `Change::revert`: what it answers.
use Rattle.std.proofs.Common.{ap, ◌∙◌}
use Rattle.td_rows.specs.Kinds.{written}
use Rattle.td_change.specs.Saved.{Saved}
use Rattle.td_change.specs.Inside.{put_back}
use Rattle.td_change.proofs.Backs.{put_back-kept}
use Rattle.td_change.proofs.change.Change.revert.Goals as goal

pub returns : goal.returns
returns c = λ kind keys was is same have.
    c.put_back.ensures
    ∙ ap (λ (s : Saved). put_back s.cells s.rows c.args.rows.now) (c.self.view_is ∙ is)
    ∙ put_back-kept (written kind) keys was c.args.rows.now c.len-rising.ensures.rising same have
