-- `read_options`: the clauses `err`, `ok` and `certain`, and its loop.
use Rattle.std.proofs.Common.{◌≡◌, ◌∙◌, Result, Ok, Err, IfOk, IfErr, sym, ap, subst}
use Rattle.std.proofs.lemmas.List.{nil_from_length}
use Rattle.std.proofs.lemmas.Result.{err_from_is_err_and}
use Rattle.td_wbread.specs.declared.fault.CommandFault.{CommandFault}
use Rattle.td_wbread.specs.Faults.{IsFaultOf}
use Rattle.td_wbread.specs.Tail.{Values, asks_relation, missing_value, no_values, options_at}
use Rattle.td_wbread.specs.Views.{values_of}
use Rattle.td_wbread.proofs.Flags.{any_value, bad_value, fault_is, flag_certain, good_value}
use Rattle.td_wbread.proofs.Flags.{missing_certain, no_option, no_value, none_first, options_end}
use Rattle.td_wbread.proofs.Flags.{value_missing, value_there}
use Rattle.td_wbread.proofs.option_reading.read_options.Goals as goal

pub returns-in_err-flag-clause-err : goal.returns-in_err-flag-clause-err
returns-in_err-flag-clause-err c =
    let total = options_at c.args.verb.now c.args.end no_values c.args.words.now in
    let p = err_from_is_err_and c.from_residual.result c.from_residual.ensures.1 in
    rw (p.1, p.2) (fault_is c.in_err-flag.field-0.0 total
    (no_option c.args.verb.now c.args.end
    (values_of c.loop-word.seen) total c.loop-word.rest.now c.in-Some.after.now
    c.in-Some.word.now c.in_err-flag.field-0.0 c.in-Some.ensures.cases.0
    (sym c.in_err-flag.ensures) c.loop-word.invariant.decides))

pub returns-in_err-flag-clause-certain : goal.returns-in_err-flag-clause-certain
returns-in_err-flag-clause-certain c = λ none.
    let p = err_from_is_err_and c.from_residual.result c.from_residual.ensures.1 in
    rw (p.1, p.2) (flag_certain c.args.verb.now (values_of c.loop-word.seen) c.in-Some.word.now
    c.in_err-flag.field-0.0 (sym c.in_err-flag.ensures))

pub returns-in_err-value-clause-err : goal.returns-in_err-value-clause-err
returns-in_err-value-clause-err c =
    let total = options_at c.args.verb.now c.args.end no_values c.args.words.now in
    let p = err_from_is_err_and c.from_residual-in_err-value.result
    c.from_residual-in_err-value.ensures.1 in
    let m = value_missing c.args.end c.in_ok-flag.flag c.in-Some.after.now
    c.in_err-value.field-0.0 (sym c.in_err-value.ensures) in
    rw (p.1, p.2) (fault_is c.in_err-value.field-0.0 total
    (no_value c.args.verb.now c.args.end (values_of c.loop-word.seen) total c.loop-word.rest.now
    c.in-Some.after.now c.in-Some.word.now c.in_ok-flag.flag c.in-Some.ensures.cases.0
    m.0 (sym c.in_ok-flag.ensures) c.loop-word.invariant.decides ∙ ap Err m.1))

pub returns-in_err-value-clause-certain : goal.returns-in_err-value-clause-certain
returns-in_err-value-clause-certain c = λ none.
    let p = err_from_is_err_and c.from_residual-in_err-value.result
    c.from_residual-in_err-value.ensures.1 in
    let m = value_missing c.args.end c.in_ok-flag.flag c.in-Some.after.now
    c.in_err-value.field-0.0 (sym c.in_err-value.ensures) in
    rw (p.1, p.2) (λ lacks. missing_certain c.args.end
    (missing_value c.in_ok-flag.flag) (m.1 ∙ lacks))

pub returns-in_err-seen-clause-err : goal.returns-in_err-seen-clause-err
returns-in_err-seen-clause-err c =
    let total = options_at c.args.verb.now c.args.end no_values c.args.words.now in
    let p = err_from_is_err_and c.from_residual-in_err-seen.result
    c.from_residual-in_err-seen.ensures.1 in
    rw (p.1, p.2)
    (bad_value c.args.verb.now c.args.end
    (values_of c.loop-word.seen) total c.loop-word.rest.now c.in-Some.after.now
    c.in_ok-value.behind.now c.in-Some.word.now c.in_ok-value.value.now
    c.in_ok-flag.flag c.in_err-seen.field-0.0 c.in-Some.ensures.cases.0
    (value_there c.args.end c.in_ok-flag.flag c.in-Some.after.now c.in_ok-value.behind.now
    c.in_ok-value.value.now (sym c.in_ok-value.ensures))
    (sym c.in_ok-flag.ensures) c.loop-word.invariant.decides
    c.in_err-seen.ensures.err)

pub returns-in_err-seen-clause-certain : goal.returns-in_err-seen-clause-certain
returns-in_err-seen-clause-certain c = λ none.
    let first = none_first (asks_relation c.args.verb.now) c.loop-word.rest.now
    c.in-Some.after.now c.in-Some.word.now c.in-Some.ensures.cases.0
    (c.loop-word.invariant.asks none) in
    absurd (let bad = c.in_err-seen.ensures.any
    (any_value c.args.verb.now (values_of c.loop-word.seen) c.in-Some.word.now c.in_ok-flag.flag
    (sym c.in_ok-flag.ensures) first.0) in cc)

pub loop-word-preserved : goal.loop-word-preserved
loop-word-preserved c =
    let total = options_at c.args.verb.now c.args.end no_values c.args.words.now in
    let there = value_there c.args.end c.in_ok-flag.flag c.in-Some.after.now
    c.in_ok-value.behind.now c.in_ok-value.value.now
    (sym c.in_ok-value.ensures) in
    let test = asks_relation c.args.verb.now in
    record {
      decides = good_value c.args.verb.now c.args.end (values_of c.loop-word.seen) total
          c.loop-word.rest.now c.in-Some.after.now c.in_ok-value.behind.now
          c.in-Some.word.now c.in_ok-value.value.now c.in_ok-flag.flag
          (values_of c.in_ok-seen.seen) c.in-Some.ensures.cases.0 there
          (sym c.in_ok-flag.ensures) c.loop-word.invariant.decides c.in_ok-seen.ensures.ok;
      asks = λ none.
          let first = none_first test c.loop-word.rest.now c.in-Some.after.now
          c.in-Some.word.now c.in-Some.ensures.cases.0 (c.loop-word.invariant.asks none) in
          (none_first test c.in-Some.after.now c.in_ok-value.behind.now
          c.in_ok-value.value.now there first.1).1;
    }

pub returns-clause-ok : goal.returns-clause-ok
returns-clause-ok c =
    let total = options_at c.args.verb.now c.args.end no_values c.args.words.now in
    subst (λ (t : Result Values CommandFault). IfOk c.finish.result
    (λ more. t ≡ Ok (values_of more)))
    (options_end c.args.verb.now c.args.end (values_of c.loop-word.seen) total c.loop-word.rest.now
    (nil_from_length _ c.in_default.ensures.cases) c.loop-word.invariant.decides)
    c.finish.ensures.ok

pub returns-clause-err : goal.returns-clause-err
returns-clause-err c =
    let total = options_at c.args.verb.now c.args.end no_values c.args.words.now in
    subst (λ (t : Result Values CommandFault). IfErr c.finish.result (λ e. IsFaultOf t e))
    (options_end c.args.verb.now c.args.end (values_of c.loop-word.seen) total c.loop-word.rest.now
    (nil_from_length _ c.in_default.ensures.cases) c.loop-word.invariant.decides)
    c.finish.ensures.err
