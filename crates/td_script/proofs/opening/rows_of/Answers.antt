-- `rows_of`: its clauses.
use Rattle.std.proofs.Common.{subst}
use Rattle.td_inputs.specs.Opened.{AreGivenRows}
use Rattle.td_script.proofs.OpeningLaws.{given_are, given_idle, opened_are}
use Rattle.td_script.proofs.opening.rows_of.Goals as goal

pub returns-in-Some-clause-rows : goal.returns-in-Some-clause-rows
returns-in-Some-clause-rows c = λ state is.
    given_are c.args.archive.now state c.in-Some.rows
    (subst (AreGivenRows c.args.archive.now state) c.in-Some.is is)

pub returns-in-Some-clause-idle : goal.returns-in-Some-clause-idle
returns-in-Some-clause-idle c = λ state is.
    given_idle c.args.archive.now state c.in-Some.rows
    (subst (AreGivenRows c.args.archive.now state) c.in-Some.is is)

pub returns-in_ok-rows-in-None-clause-rows : goal.returns-in_ok-rows-in-None-clause-rows
returns-in_ok-rows-in-None-clause-rows c = λ state is.
    opened_are c.args.archive.now state c.in_ok-rows-in-None.rows
    (record { same = c.in_ok-rows-in-None.ensures.rows; rising = c.len-rising.ensures.rising })
    (subst (AreGivenRows c.args.archive.now state) c.in-None.is is)

pub returns-in_ok-rows-in-None-clause-idle : goal.returns-in_ok-rows-in-None-clause-idle
returns-in_ok-rows-in-None-clause-idle c = λ state is. c.in_ok-rows-in-None.ensures.free
