-- `put_block_lines`: what it answers.
use Rattle.std.proofs.Common.{◌≡◌, ◌==◌, ◌++◌, ◌∷◌, [], ◌∙◌, ap, sym, append_assoc, false, length}
use Rattle.std.proofs.Common.{rules, string_bytes}
use Rattle.std.specs.Prelude.{OnOk}
use Rattle.std.proofs.lemmas.Result.{on_ok_weaker}
use Rattle.td_text.specs.Lines.{text_of}
use Rattle.td_report.specs.Report.{head_line}
use Rattle.td_report.proofs.SeenRows.{block_told}
use Rattle.td_report.proofs.report_text.put_block_lines.Goals as goal

pub returns : goal.returns
returns c shown lines =
    let block = c.args.block.now in
    let items = block.items.now in
    let start = string_bytes c.args.out.now in
    let head = head_line block.level (length items) block.installed ++ 10 ∷ [] in
    let some : (length items == 0) ≡ false = search rules in
    let told = block_told shown block.level items block.installed block.counted some in
    let put : OnOk c.push_str.result (string_bytes c.push_str.new.self
    ≡ string_bytes c.put_head_line.new.out ++ c.args.lines.now) = search rules in
    on_ok_weaker c.push_str.result
    (λ e. e ∙ ap (λ t. t ++ c.args.lines.now) c.in_ok-put_head_line.ensures
    ∙ append_assoc start head c.args.lines.now
    ∙ ap (λ t. start ++ t) (ap (λ t. head ++ t) lines ∙ sym (ap text_of told)))
    put
