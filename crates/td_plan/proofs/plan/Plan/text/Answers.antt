-- `Plan::text`: all lines, one after the other.
use Rattle.std.proofs.Common.{◌∙◌, ◌++◌, List, None, ap, string_bytes, sym, ℕ}
use Rattle.std.specs.List.{filter_map}
use Rattle.td_text.specs.Lines.{text_of}
use Rattle.td_plan.specs.Lines.{title_of}
use Rattle.td_plan.specs.Plan.{due_sources, left_of, lines_from}
use Rattle.td_plan.specs.inner.Planned.{placing_in}
use Rattle.td_plan.specs.inner.Writing.{seen_words}
use Rattle.td_plan.proofs.SourceTexts.{lines-then, text_of-append}
use Rattle.td_plan.proofs.plan.Plan.text.Goals as goal

pub returns : goal.returns
returns g c = λ p is title.
    let plan = c.args.self.now in
    let x = placing_in plan in
    let lines : List (List ℕ) =
    lines_from (seen_words c.args.words.now) x p None (due_sources x p) in
    let rest : List (List ℕ) = filter_map (left_of p) p.rows in
    record {
      placing = x;
      placed = is.placed;
      written =
          lines-then (string_bytes c.put_title.new.out) (string_bytes c.put_sources.new.out)
          (string_bytes c.put_left_rows.new.out) lines rest (c.in_ok-put_sources.ensures.ok p is)
          (c.in_ok-put_left_rows.ensures.ok p is)
          ∙ ap (λ (t : List ℕ). t ++ text_of (lines ++ rest)) (c.in_ok-put_title.ensures.ok
          ∙ ap (λ (t : List ℕ). t ++ text_of (title_of c.args.title.now)) c.new-out.ensures.bytes
          ∙ ap (λ (t : List ℕ). text_of (title_of t)) (sym title))
          ∙ sym (text_of-append (title_of p.tracker.title) (lines ++ rest));
    }
