-- `joined`: a fault of the second parts, and both.
use Rattle.std.proofs.lemmas.Result.{MatchResult-at_err, MatchResult-at_ok}
use Rattle.td_indices.specs.inner.Parts.{packages_in}
use Rattle.td_indices.proofs.Parts.{fault_behind, part_behind}
use Rattle.td_indices.proofs.part_reading.joined.Goals as goal

pub returns-in-Err-rest : goal.returns-in-Err-rest
returns-in-Err-rest c table stanzas from middle to front rest =
    fault_behind table stanzas from middle (packages_in c.in-Ok.parts.items) c.in-Err-rest.fault
    (MatchResult-at_ok _ _ c.in-Ok.parts c.in-Ok.is front)
    (MatchResult-at_err _ _ c.in-Err-rest.fault c.in-Err-rest.is rest)

pub returns-in-Ok-append : goal.returns-in-Ok-append
returns-in-Ok-append c table stanzas from middle to front rest =
    part_behind table stanzas from middle to c.in-Ok.parts.items c.in-Ok-rest.parts.items
    c.append.new.self.items c.in-Ok-append.ensures.items
    (MatchResult-at_ok _ _ c.in-Ok.parts c.in-Ok.is front)
    (MatchResult-at_ok _ _ c.in-Ok-rest.parts c.in-Ok-rest.is rest)
