-- `counts`: its loop, and that the counts are those of the groups.
use Rattle.std.proofs.Common.{◌<◌, ◌+◌, ℕ, List, Some, get_or, length, ap, ◌∙◌, arith}
use Rattle.std.proofs.lemmas.List.{length_push}
use Rattle.std.proofs.lemmas.Option.{slice_get-get_or}
use Rattle.td_report.specs.Groups.{installed_of}
use Rattle.td_crew_tests.proofs.Counted.{one_group_more}
use Rattle.td_crew_tests.proofs.kept_reports.counts.Goals as goal

pub loop-group-preserved : goal.loop-group-preserved
loop-group-preserved c =
    let f = installed_of c.args.transition.now c.args.rows.now in
    let before = c.loop-group.counts.items in
    let pushed = c.in_ok-push.ensures.items in
    record {
      each = λ k lt. ap (λ (l : List ℕ). get_or l k 0) pushed
          ∙ one_group_more f before c.loop-group.group c.installed.result
          c.loop-group.invariant.len c.installed.ensures c.loop-group.invariant.each k lt;
      len = ap length pushed ∙ length_push before c.installed.result
          ∙ ap (λ (n : ℕ). n + 1) c.loop-group.invariant.len;
    }

pub returns : goal.returns
returns c =
    let counts = c.loop-group.counts.items in
    let groups = c.in-Some.ensures.1 ∙ ap (λ (d : ℕ). d + 1) c.depth.ensures in
    let end = c.loop-group-test.false in
    let len = c.loop-group.invariant.len in
    record {
      each = λ group le.
          let lt : group < c.loop-group.group = omega (arith, groups, end, le) in
          slice_get-get_or counts group 0 (omega (arith, len, lt))
          ∙ ap Some (c.loop-group.invariant.each group lt);
    }
