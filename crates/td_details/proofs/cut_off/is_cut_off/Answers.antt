-- `is_cut_off`: the last byte decides.
use Rattle.std.proofs.Common.{◌≡◌, ◌+◌, ◌-◌, ◌∙◌, ℕ, List, ap, length, rules}
use Rattle.td_details.specs.CutOff.{is_cut_off}
use Rattle.td_details.proofs.EndsOfTexts.{last_decides}
use Rattle.td_details.proofs.cut_off.is_cut_off.Goals as goal

pub returns : goal.returns
returns c =
    let bytes : List ℕ = c.as_bytes-bytes.result.now in
    let last : (length bytes - 1) + 1 ≡ length bytes = search rules in
    last_decides bytes (length bytes - 1) last ∙ ap is_cut_off c.as_bytes-bytes.ensures.value
