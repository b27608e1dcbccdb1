-- `write_line`: the clauses `prefix` and `whole`.
use Rattle.std.proofs.Common.{codes}
use Rattle.std.proofs.lemmas.Result.{on_ok_weaker, on_err_weaker}
use Rattle.std.proofs.KnownBytes.{Appends-trans}
use Rattle.td_bytes.proofs.Prefixes.{AppendsPrefix-first, AppendsPrefix-second}
use Rattle.td_tool.proofs.Faulty.{on_err}
use Rattle.td_tool.proofs.ending.write_line.Goals as goal

pub returns-in_err-write_whole-clause-prefix : goal.returns-in_err-write_whole-clause-prefix
returns-in_err-write_whole-clause-prefix g c =
    on_err _ (AppendsPrefix-first _ _ (codes "transdesk: ") _ c.in_err-write_whole.ensures.prefix)

pub returns-in_err-write_whole-2-clause-prefix : goal.returns-in_err-write_whole-2-clause-prefix
returns-in_err-write_whole-2-clause-prefix g c =
    on_err _ (AppendsPrefix-second _ _ _ (codes "transdesk: ") _ c.in_ok-write_whole.ensures.whole
    (AppendsPrefix-first _ _ c.args.place.now _ c.in_err-write_whole-2.ensures.prefix))

pub returns-in_err-write_whole-3-clause-prefix : goal.returns-in_err-write_whole-3-clause-prefix
returns-in_err-write_whole-3-clause-prefix g c =
    on_err _ (AppendsPrefix-second _ _ _ (codes "transdesk: ") _ c.in_ok-write_whole.ensures.whole
    (AppendsPrefix-second _ _ _ c.args.place.now _ c.in_ok-write_whole-2.ensures.whole
    (AppendsPrefix-first _ _ c.args.what.now _ c.in_err-write_whole-3.ensures.prefix)))

pub returns-clause-whole : goal.returns-clause-whole
returns-clause-whole g c =
    on_ok_weaker c.write_whole-4.result
    (λ e. Appends-trans _ _ _ (codes "transdesk: ") _ c.in_ok-write_whole.ensures.whole
    (Appends-trans _ _ _ c.args.place.now _ c.in_ok-write_whole-2.ensures.whole
    (Appends-trans _ _ _ c.args.what.now _ c.in_ok-write_whole-3.ensures.whole e)))
    c.write_whole-4.ensures.whole

pub returns-clause-prefix : goal.returns-clause-prefix
returns-clause-prefix g c =
    on_err_weaker c.write_whole-4.result
    (λ e. AppendsPrefix-second _ _ _ (codes "transdesk: ") _ c.in_ok-write_whole.ensures.whole
    (AppendsPrefix-second _ _ _ c.args.place.now _ c.in_ok-write_whole-2.ensures.whole
    (AppendsPrefix-second _ _ _ c.args.what.now _ c.in_ok-write_whole-3.ensures.whole e)))
    c.write_whole-4.ensures.prefix
