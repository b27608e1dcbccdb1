-- `put_wave`: what it answers.
use Rattle.std.proofs.Common.{◌≡◌, ◌==◌, ◌++◌, ◌∷◌, [], ◌∙◌, None, ap, sym, append_assoc, false}
use Rattle.std.proofs.Common.{length, map, rules, string_bytes}
use Rattle.std.proofs.lemmas.Result.{on_ok_weaker}
use Rattle.td_text.specs.Lines.{text_of}
use Rattle.td_report.specs.inner.ItemLines.{source_of}
use Rattle.td_report.specs.Report.{each_once, level_words}
use Rattle.td_report.proofs.SeenRows.{wave_told}
use Rattle.td_report.proofs.waves_text.put_wave.Goals as goal

pub returns : goal.returns
returns c =
    let block = c.args.block.now in
    let items = block.items.now in
    let start = string_bytes c.args.out.now in
    let words = level_words block.level in
    let sources = text_of (each_once None (map source_of items)) in
    let some : (length items == 0) ≡ false = search rules in
    on_ok_weaker c.put_sources.result
    (λ e. e ∙ ap (λ t. t ++ sources) (c.in_ok-push_str.ensures.bytes
    ∙ ap (λ t. t ++ 10 ∷ []) c.in_ok-put_level.ensures ∙ append_assoc start words (10 ∷ []))
    ∙ append_assoc start (words ++ 10 ∷ []) sources
    ∙ ap (λ t. start ++ t) (sym (ap text_of (wave_told block.level items some))))
    c.put_sources.ensures
