-- `read_own_request`: the call of `read_by_own_verb`.
use Rattle.td_lasting.proofs.OwnTexts.{rest_lacks}
use Rattle.td_lasting.proofs.own_request.read_own_request.Goals as goal

pub read_by_own_verb-requires : goal.read_by_own_verb-requires
read_by_own_verb-requires c =
    rest_lacks c.args.line.now c.part_at.result.0.now c.part_at.result.1.now
    c.part_at.ensures.joined c.requires
