-- `Steps::put_level`: the lines of a level.
use Rattle.std.proofs.Common.{◌≡◌, ◌<◌, ◌==◌, ◌++◌, ◌∷◌, ◌∙◌, [], List, ap, append-nil}
use Rattle.std.proofs.Common.{append_assoc}
use Rattle.std.proofs.Common.{arith, true, length, map, rules, string_bytes, sym, ℕ}
use Rattle.std.proofs.lemmas.Bool.{eqb-true}
use Rattle.std.proofs.lemmas.List.{nil_from_length}
use Rattle.td_text.specs.Lines.{text_of}
use Rattle.td_report.specs.Report.{level_words}
use Rattle.td_plan.specs.Why.{why_line}
use Rattle.td_plan.specs.inner.Planned.{sources_at}
use Rattle.td_plan.specs.inner.Stepping.{kept_in, lines_under}
use Rattle.td_plan.proofs.LevelLines.{under-some}
use Rattle.td_plan.proofs.PartSources.{sources-length}
use Rattle.td_plan.proofs.SourceTexts.{line-then}
use Rattle.td_plan.proofs.steps.Steps.put_level.Goals as goal

pub returns-then-is_empty : goal.returns-then-is_empty
returns-then-is_empty c = λ t is all.
    let steps = c.args.self.now in
    let old = string_bytes c.args.out.now in
    let ns = c.args.numbers.now in
    let none : (length ns == 0) ≡ true = search rules in
    sym (ap (λ (l : List ℕ). old ++ text_of (lines_under steps (level_words c.args.level) l))
    (nil_from_length ns (eqb-true (length ns) 0 none))
    ∙ append-nil old)

pub returns : goal.returns
returns c = λ t is all.
    let steps = c.args.self.now in
    let ms = steps.movers.items in
    let ns = c.args.numbers.now in
    let old = string_bytes c.args.out.now in
    let words = level_words c.args.level in
    let several : 0 < length ns = search rules in
    let some : 0 < length (sources_at ms ns) = omega (arith, several, sources-length ms ns all) in
    line-then old (string_bytes c.push_str.new.self) (string_bytes c.put_whys.new.out) words
    (map (why_line steps.archive.now (kept_in steps)) (sources_at ms ns))
    (c.in_ok-push_str.ensures.bytes
    ∙ ap (λ (l : List ℕ). l ++ 10 ∷ []) c.in_ok-put_level_words.ensures
    ∙ append_assoc old words (10 ∷ []))
    (c.in_ok-put_whys.ensures t is all)
    ∙ ap (λ (l : List (List ℕ)). old ++ text_of l) (sym (under-some steps words ns some))
