-- `waves_text`: what it answers.
use Rattle.std.proofs.Common.{◌≡◌, ◌++◌, ◌∙◌, ℕ, List, [], ap, map, rules, string_bytes}
use Rattle.td_report.specs.inner.Blocks.{texts_of}
use Rattle.td_report.specs.inner.ItemLines.{seen}
use Rattle.td_report.specs.Report.{wave_of}
use Rattle.td_report.proofs.Texts.{blocks-put}
use Rattle.td_report.proofs.waves_text.waves_text.Goals as goal

pub returns : goal.returns
returns c =
    let none : string_bytes c.new-out.result ≡ [] = search rules in
    blocks-put wave_of c.args.depth (map seen c.args.items.now) c.in_ok-blocks.blocks.items
    c.deref.result.now [] (string_bytes c.put_waves.new.out)
    (c.in_ok-blocks.ensures c.args.depth c.args.items.now c.in_ok-grouped.ensures)
    c.deref.ensures.value
    (c.in_ok-put_waves.ensures
    ∙ ap (λ (t : List ℕ). t ++ texts_of wave_of c.deref.result.now) none)
