-- `put_swapped_packages`: the line says how many there are.
use Rattle.std.proofs.Common.{◌++◌, ◌∙◌, ℕ, ap, codes, string_bytes}
use Rattle.std.proofs.lemmas.Result.{on_ok_weaker}
use Rattle.td_text.specs.Lines.{text_of}
use Rattle.td_details.specs.Details.{swapped_at}
use Rattle.td_details.proofs.details.put_swapped_packages.Goals as goal

pub returns : goal.returns
returns c =
    on_ok_weaker c.put_swapped_line.result
    (λ e. e ∙ ap (λ (n : ℕ). string_bytes c.args.out.now
    ++ text_of (swapped_at (codes "Packages has stanzas of sources") n)) c.swapped_packages.ensures)
    c.put_swapped_line.ensures
