-- `skip_continuations`: its loop.
use Rattle.std.proofs.Common.{◌≡◌, true, rules}
use Rattle.td_stanza.specs.Line.{is_continuation, first_line}
use Rattle.td_text.specs.Lines.{lines_of}
use Rattle.td_stanza.proofs.Continued.{skips_line}
use Rattle.td_stanza.proofs.reading.skip_continuations.Goals as goal

pub loop-rest-preserved : goal.loop-rest-preserved
loop-rest-preserved c =
    let more : is_continuation (first_line (lines_of c.in-Some.here.now)) ≡ true = search rules in
    skips_line _ c.loop-rest.rest _ c.in-Some.here _ c.loop-rest.invariant c.in-Some.is
    c.next_line.ensures.lines c.next_line.ensures.text more
