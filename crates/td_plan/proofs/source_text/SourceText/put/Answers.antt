-- `SourceText::put`: all lines of the source.
use Rattle.std.proofs.Common.{◌≡◌, ◌++◌, [], None, Some, string_bytes, sym, ◌∙◌}
use Rattle.std.specs.List.{flat_map}
use Rattle.std.proofs.lemmas.Result.{on_ok_weaker}
use Rattle.td_plan.specs.Due.{due_places, number_of}
use Rattle.td_plan.specs.Lines.{nmu_line}
use Rattle.td_plan.specs.Plan.{all_waiting, arch_names, dw_lines, no_wait_lines}
use Rattle.td_plan.specs.inner.Writing.{seen_words}
use Rattle.td_plan.proofs.SourcePlaces.{item-at}
use Rattle.td_plan.proofs.SourceTexts.{line-then}
use Rattle.td_plan.proofs.source_text.SourceText.put.Goals as goal

pub returns-in_default-clause-ok : goal.returns-in_default-clause-ok
returns-in_default-clause-ok c = λ p x s is.
    let t = c.args.self.now in
    absurd (let bad : None ≡ Some is.own =
    item-at t.movers.now t.number None c.in_default.ensures.lookup ∙ is.at in cc)

pub returns-clause-ok : goal.returns-clause-ok
returns-clause-ok c =
    let t = c.args.self.now in
    let at = sym (item-at t.movers.now t.number (Some c.in-Some.mover) c.in-Some.ensures.lookup) in
    on_ok_weaker c.put_waits.result (λ more p x s is.
    line-then (string_bytes c.args.out.now) (string_bytes c.put_rebuild.new.out)
    (string_bytes c.put_waits.new.out)
    (nmu_line (seen_words t.words.now) s (number_of p s) (arch_names p (due_places p s)))
    (dw_lines (seen_words t.words.now) p s [] (all_waiting x p s)
    ++ flat_map (no_wait_lines x p s) (due_places p s))
    (c.in_ok-put_rebuild.ensures.ok p x s is at) (more p x s is at)) c.put_waits.ensures.ok
