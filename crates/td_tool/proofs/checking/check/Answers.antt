-- `check`: what it answers.
use Rattle.td_tool.proofs.Files.{checks}
use Rattle.td_tool.proofs.checking.check.Goals as goal

pub returns-clause-checks : goal.returns-clause-checks
returns-clause-checks g c =
    checks _ _ _ _ c.read_early-read.result c.count.result c.read_early-read.ensures.texts
    c.read_early-read.ensures.cut c.read_early-read.ensures.failed
    c.count.ensures.texts c.count.ensures.unread
