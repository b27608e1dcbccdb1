-- `pattern_of`: the clause `bad`.
use Rattle.std.proofs.Common.{◌≡◌, ◌≢◌}
use Rattle.regex.specs.declared.error.Error.TheVariants.{OutOfMemory}
use Rattle.td_query.specs.declared.compiling.PatternFault.TheVariants.{NoMemory}
use Rattle.td_query.proofs.Refusals.{refused_for}
use Rattle.td_query.proofs.compiling.pattern_of.Goals as goal

pub returns-in-Err-clause-bad : goal.returns-in-Err-clause-bad
returns-in-Err-clause-bad c = λ is.
    let known : c.in-Err.error ≢ OutOfMemory =
    (λ e. let wanting : c.fault_of.result ≡ NoMemory = c.fault_of.ensures.memory.1 e in cc) in
    refused_for c.args.text.now c.in-Err.error known c.in-Err.ensures.no_internal
    c.in-Err.ensures.by_grammar c.in-Err.ensures.kind
