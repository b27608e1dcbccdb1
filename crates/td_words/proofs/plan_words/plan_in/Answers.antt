-- `plan_in`: the clauses `plan` and `said`, where memory runs out for the files, or no line can
-- have the words.
use Rattle.std.proofs.Common.{subst, sym}
use Rattle.std.proofs.lemmas.Result.{err_from_is_err_and}
use Rattle.td_words.specs.PlanWords.{AreLineWords}
use Rattle.td_words.proofs.Asking.{memory_said}
use Rattle.td_words.proofs.plan_words.plan_in.Goals as goal

pub returns-in_err-files-clause-plan : goal.returns-in_err-files-clause-plan
returns-in_err-files-clause-plan c w has =
    let p = err_from_is_err_and c.from_residual.result c.from_residual.ensures.1 in
    rw (p.1, p.2) (c.in_err-files.ensures.files w.archs w.packages w.sources has.files.files)

pub returns-in_err-files-clause-said : goal.returns-in_err-files-clause-said
returns-in_err-files-clause-said c archs packages sources tracker message has text =
    let p = err_from_is_err_and c.from_residual.result c.from_residual.ensures.1 in
    rw (p.1, p.2) (memory_said _ _ (c.in_err-files.ensures.files archs packages sources has.files))

pub returns-in_err-words-clause-plan : goal.returns-in_err-words-clause-plan
returns-in_err-words-clause-plan c w has =
    let r = c.from_residual-in_err-words in
    let p = err_from_is_err_and r.result r.ensures.1 in
    rw (p.1, p.2) (c.in_err-words.ensures.memory w.message has.message_text
    (subst (AreLineWords w.message) (sym has.suite_name) has.line_words))

pub returns-in_err-words-clause-said : goal.returns-in_err-words-clause-said
returns-in_err-words-clause-said c archs packages sources tracker message has text =
    let r = c.from_residual-in_err-words in
    let p = err_from_is_err_and r.result r.ensures.1 in
    rw (p.1, p.2) (c.in_err-words.ensures.said message text)

pub returns-in_err-files-clause-lacking : goal.returns-in_err-files-clause-lacking
returns-in_err-files-clause-lacking c archs packages sources folder has none given =
    let p = err_from_is_err_and c.from_residual.result c.from_residual.ensures.1 in
    rw (p.1, p.2) (memory_said _ _ (c.in_err-files.ensures.files archs packages sources has))
