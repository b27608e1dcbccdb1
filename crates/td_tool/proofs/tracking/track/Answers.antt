-- `track`: what it answers.
use Rattle.td_tool.specs.TrackInside.{saying_of}
use Rattle.td_tool.proofs.Sure.{ends_so}
use Rattle.td_tool.proofs.tracking.track.Goals as goal

pub returns-clause-ends : goal.returns-clause-ends
returns-clause-ends g c =
    ends_so (λ x. saying_of c.args.asked) _ _ _ c.read_track_files-read.result c.tell.result
    c.read_track_files-read.ensures.texts c.read_track_files-read.ensures.failed
    c.tell.ensures.texts c.tell.ensures.unread
