-- `read_name`: the call of `are_name`.
use Rattle.std.proofs.Common.{◌≡◌, List, ℕ, true, sym, subst}
use Rattle.std.specs.List.{list_all}
use Rattle.td_text.specs.Words.{is_name_byte}
use Rattle.td_text.proofs.RunTexts.{run_passes}
use Rattle.td_relation.proofs.alternative_reading.read_name.Goals as goal

pub are_name-requires : goal.are_name-requires
are_name-requires c =
    subst (λ (t : List ℕ). list_all is_name_byte t ≡ true) (sym c.name_run.ensures.run)
    (run_passes is_name_byte c.trimmed.result.now)
