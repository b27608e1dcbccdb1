-- `kept_of`: a fault, and what is kept.
use Rattle.std.proofs.Common.{[], Ok, ap, sym, ◌∙◌}
use Rattle.std.proofs.lemmas.Result.{MatchResult-at_err, MatchResult-at_ok}
use Rattle.td_indices.specs.Kept.{binaries_of}
use Rattle.td_indices.specs.inner.Parts.{packages_in, put_all}
use Rattle.td_indices.proofs.Parts.{kept_from-end}
use Rattle.td_indices.proofs.stanza_reading.kept_of.Goals as goal

pub returns-in-Err : goal.returns-in-Err
returns-in-Err c table stanzas read =
    MatchResult-at_err _ _ c.in-Err.fault c.in-Err.is read []

pub returns-in-Ok-of_parts : goal.returns-in-Ok-of_parts
returns-in-Ok-of_parts c table stanzas read =
    MatchResult-at_ok _ _ c.in-Ok.parts c.in-Ok.is read []
    ∙ kept_from-end table stanzas (put_all [] (binaries_of (packages_in c.in-Ok.parts.items)))
    ∙ ap Ok (sym c.in-Ok-of_parts.ensures)
