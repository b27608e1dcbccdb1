-- `put_sources`: its loop.
use Rattle.std.proofs.Common.{◌≡◌, ◌++◌, None, [], ◌∷◌, ap, sym, ◌∙◌, map, take, string_bytes}
use Rattle.std.proofs.Common.{append_assoc}
use Rattle.td_text.specs.Lines.{text_of}
use Rattle.td_report.specs.inner.ItemLines.{source_of}
use Rattle.td_report.specs.Report.{each_once, is_last}
use Rattle.td_report.proofs.Once.{last_of, last-push, sources-more, text-new, text-same}
use Rattle.td_report.proofs.waves_text.put_sources.Goals as goal
use Rattle.td_report.proofs.waves_text.put_sources.Goals.{then-not-is_last+in_ok-put_line}
use Rattle.td_report.proofs.waves_text.put_sources.Goals.{else-not-is_last}

pub loop-item-preserved : goal.loop-item-preserved
loop-item-preserved c =
    let items = c.args.items.now in
    let i = c.loop-item.item-index in
    let source = c.source-source.result.now in
    let before = map source_of (take i items) in
    let start = string_bytes c.args.out.now in
    let more = sources-more items i c.item-item.result source c.loop-item-test.true c.item-item.is
    c.source-source.ensures.text in
    let tested : c.is_last.result ≡ is_last (last_of None before) source = c.is_last.ensures
    ∙ ap (λ l. is_last l source) c.loop-item.invariant.last in
    let whole = ap (λ l. start ++ text_of (each_once None l)) (sym more) in
    let last = sym (ap (λ l. last_of None l) more ∙ last-push None before source) in
    elim c.if-not-is_last.branch [
      | then-not-is_last+in_ok-put_line w ↦ record {
        text =
            ap (λ s. string_bytes s) w.out-is ∙ w.in_ok-put_line.ensures
            ∙ ap (λ t. t ++ (source ++ 10 ∷ [])) c.loop-item.invariant.text
            ∙ append_assoc start (text_of (each_once None before)) (source ++ 10 ∷ [])
            ∙ ap (λ t. start ++ t)
            (sym (text-new before source (sym tested ∙ w.if-not-is_last.true)))
            ∙ whole;
        last = last;
      }
      | else-not-is_last w ↦ record {
        text =
            ap (λ s. string_bytes s) w.out-is ∙ c.loop-item.invariant.text
            ∙ ap (λ t. start ++ t)
            (sym (text-same before source (sym tested ∙ w.if-not-is_last.false)))
            ∙ whole;
        last = last;
      }
    ]
