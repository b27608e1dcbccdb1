-- `track_details`: what it answers.
use Rattle.td_tool.specs.Tracks.{details_of}
use Rattle.td_tool.proofs.Sure.{ends_so, tells_details}
use Rattle.td_tool.proofs.tracking.track_details.Goals as goal

pub returns-clause-ends : goal.returns-clause-ends
returns-clause-ends g c =
    ends_so details_of _ _ _ c.read_track_files-read.result c.tell.result
    c.read_track_files-read.ensures.texts c.read_track_files-read.ensures.failed
    (tells_details c.read_track_files-read.result c.cut_of-cut.result _ _ c.tell.result
    c.cut_of-cut.ensures c.read_track_files-read.ensures.cut c.tell.ensures.texts)
    c.tell.ensures.unread
