-- `judge`: what it answers.
use Rattle.std.proofs.Common.{sym, ◌∙◌}
use Rattle.std.proofs.lemmas.Result.{err_from_is_err_and}
use Rattle.td_version.specs.Reading.{written_of}
use Rattle.td_version.proofs.Outcomes.{judged-upstream, judged-revision, judged-whole}
use Rattle.td_version.proofs.Judging.{upstream_step, revision_step}
use Rattle.td_version.proofs.reading.judge.Goals as goal

pub returns-in_err-check_part : goal.returns-in_err-check_part
returns-in_err-check_part c =
    let p = err_from_is_err_and c.from_residual-in_err-check_part.result
    c.from_residual-in_err-check_part.ensures.1 in
    let epoch = sym c.read_epoch.ensures.value ∙ c.in_ok-epoch.was in
    let upstream = upstream_step c.args.pieces c.is_some-has_epoch.result
    c.first_bad_upstream-first_bad.result c.check_part.result c.requires.start
    c.is_some-has_epoch.ensures c.first_bad_upstream-first_bad.ensures.place c.check_part.ensures
    ∙ c.in_err-check_part.was in
    rw (
      p.1,
      p.2,
    ) (sym (judged-upstream (written_of c.args.pieces) c.in_ok-epoch.epoch
    c.in_err-check_part.field-0.0 epoch upstream))

pub returns-in_err-check_revision : goal.returns-in_err-check_revision
returns-in_err-check_revision c =
    let p = err_from_is_err_and c.from_residual-in_err-check_revision.result
    c.from_residual-in_err-check_revision.ensures.1 in
    let epoch = sym c.read_epoch.ensures.value ∙ c.in_ok-epoch.was in
    let upstream = upstream_step c.args.pieces c.is_some-has_epoch.result
    c.first_bad_upstream-first_bad.result c.check_part.result c.requires.start
    c.is_some-has_epoch.ensures c.first_bad_upstream-first_bad.ensures.place c.check_part.ensures
    ∙ c.in_ok-check_part.was in
    let revision = revision_step c.args.pieces c.check_revision.result c.requires.start
    c.check_revision.ensures ∙ c.in_err-check_revision.was in
    rw (
      p.1,
      p.2,
    ) (sym (judged-revision (written_of c.args.pieces) c.in_ok-epoch.epoch
    c.in_err-check_revision.field-0.0 epoch upstream revision))

pub returns : goal.returns
returns c =
    let epoch = sym c.read_epoch.ensures.value ∙ c.in_ok-epoch.was in
    let upstream = upstream_step c.args.pieces c.is_some-has_epoch.result
    c.first_bad_upstream-first_bad.result c.check_part.result c.requires.start
    c.is_some-has_epoch.ensures c.first_bad_upstream-first_bad.ensures.place c.check_part.ensures
    ∙ c.in_ok-check_part.was in
    let revision = revision_step c.args.pieces c.check_revision.result c.requires.start
    c.check_revision.ensures ∙ c.in_ok-check_revision.was in
    sym (judged-whole (written_of c.args.pieces) c.in_ok-epoch.epoch epoch upstream revision)
