-- `installed`: its loop, and its end.
use Rattle.std.proofs.Common.{◌≡◌, ◌<◌, ◌≤◌, ◌+◌, ℕ, Bool, length, slice_get, ap, sym, subst, ◌∙◌}
use Rattle.std.proofs.Common.{arith}
use Rattle.std.specs.Prelude.{IfSome}
use Rattle.std.proofs.lemmas.List.{take_all}
use Rattle.td_rows.specs.Table.{Table}
use Rattle.td_report.specs.Groups.{installed_of, is_there}
use Rattle.td_crew_tests.proofs.Counted.{no_more, one_more}
use Rattle.td_crew_tests.proofs.kept_reports.installed.Goals as goal
use Rattle.td_crew_tests.proofs.kept_reports.installed.Goals.{then-is_there_at, else-is_there_at}

pub loop-number-preserved : goal.loop-number-preserved
loop-number-preserved c =
    let p = is_there c.args.transition.now c.args.group in
    let rows = c.args.rows.now in
    let n = c.loop-number.number in
    let within : n < length rows =
    omega (arith, c.loop-number-test.true, c.len-number-end.ensures.len) in
    let said = c.is_there_at.ensures in
    elim c.if-is_there_at.branch [
      | then-is_there_at w ↦ record {
        count = w.count-is ∙ ap (λ (k : ℕ). k + 1) c.loop-number.invariant.count
            ∙ sym (one_more p rows n within
            (subst (λ (b : Bool). IfSome (slice_get rows n) (λ r. b ≡ p r)) w.if-is_there_at.true
            said));
        few = (let is = w.count-is in omega arith);
      }
      | else-is_there_at w ↦ record {
        count = w.count-is ∙ c.loop-number.invariant.count
            ∙ sym (no_more p rows n within
            (subst (λ (b : Bool). IfSome (slice_get rows n) (λ r. b ≡ p r)) w.if-is_there_at.false
            said));
        few = (let is = w.count-is in omega arith);
      }
    ]

pub returns : goal.returns
returns c =
    let rows = c.args.rows.now in
    let n = c.loop-number.number in
    let all : length rows ≤ n =
    omega (arith, c.loop-number-test.false, c.len-number-end.ensures.len) in
    c.loop-number.invariant.count
    ∙ ap (λ (t : Table). installed_of c.args.transition.now t c.args.group) (take_all n rows all)
