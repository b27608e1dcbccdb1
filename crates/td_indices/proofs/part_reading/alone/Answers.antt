-- `alone`: a fault, and the one part.
use Rattle.std.proofs.Common.{List, [], ◌∷◌, ◌++◌, ap, ◌∙◌}
use Rattle.std.proofs.lemmas.Result.{MatchResult-at_err, MatchResult-at_ok}
use Rattle.std.specs.Global.{Vec}
use Rattle.td_indices.specs.declared.packaged.PackageKey.{PackageKey}
use Rattle.td_indices.specs.declared.packaged.Packaged.{Packaged}
use Rattle.td_indices.proofs.Parts.{part_alone}
use Rattle.td_indices.proofs.part_reading.alone.Goals as goal

pub returns-in-Err : goal.returns-in-Err
returns-in-Err c table stanzas from to read =
    MatchResult-at_err _ _ c.in-Err.fault c.in-Err.is read

pub returns-in-Ok-push : goal.returns-in-Ok-push
returns-in-Ok-push c table stanzas from to read =
    part_alone table stanzas from to c.push.new.self.items c.in-Ok.packages
    (c.in-Ok-push.ensures.items
    ∙ ap (λ (l : List (Vec (PackageKey × Packaged))). l ++ c.in-Ok.packages ∷ [])
    c.new-parts.ensures.items)
    (MatchResult-at_ok _ _ c.in-Ok.packages c.in-Ok.is read)
