-- `judged`: the clauses `said` and `refused`.
use Rattle.td_words.proofs.PlanAsking.{fault_refuses, fault_said}
use Rattle.td_words.proofs.plan_words.judged.Goals as goal

pub returns-in-Err-clause-said : goal.returns-in-Err-clause-said
returns-in-Err-clause-said c =
    fault_said c.args.message.now c.args.suite.now c.in-Err.fault c.new.result c.in-Err.is
    c.new.ensures.bad_message c.new.ensures.bad_suite

pub returns-in-Err-clause-refused : goal.returns-in-Err-clause-refused
returns-in-Err-clause-refused c =
    fault_refuses c.args.message.now c.args.suite.now c.in-Err.fault c.new.result c.in-Err.is
    c.new.ensures.bad_message c.new.ensures.bad_suite
