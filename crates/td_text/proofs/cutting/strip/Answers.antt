-- `strip`: the clauses `value` and `found`.
use Rattle.td_text.proofs.Prefix.{strip-from_prefix, prefix_found}
use Rattle.td_text.proofs.cutting.strip.Goals as goal

pub returns-clause-value : goal.returns-clause-value
returns-clause-value c =
    strip-from_prefix c.args.prefix.now c.args.text.now c.strip_prefix.result
    c.strip_prefix.ensures.cases

pub returns-clause-found : goal.returns-clause-found
returns-clause-found c =
    prefix_found c.args.prefix.now c.args.text.now c.strip_prefix.result
    (strip-from_prefix c.args.prefix.now c.args.text.now c.strip_prefix.result
    c.strip_prefix.ensures.cases)
