-- `put_swapped_sources`: the line says how many there are.
use Rattle.std.proofs.Common.{◌++◌, ◌∙◌, ℕ, ap, codes, string_bytes}
use Rattle.std.proofs.lemmas.Result.{on_ok_weaker}
use Rattle.td_text.specs.Lines.{text_of}
use Rattle.td_details.specs.Details.{swapped_at}
use Rattle.td_details.proofs.details.put_swapped_sources.Goals as goal

pub returns : goal.returns
returns c =
    on_ok_weaker c.put_swapped_line.result
    (λ e. e ∙ ap (λ (n : ℕ). string_bytes c.args.out.now
    ++ text_of (swapped_at (codes "Sources has stanzas of packages") n)) c.swapped_sources.ensures)
    c.put_swapped_line.ensures
