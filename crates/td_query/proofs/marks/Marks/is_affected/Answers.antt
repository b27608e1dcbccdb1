-- `Marks::is_affected`: what it answers and its loop.
use Rattle.std.proofs.Common.{◌≡◌, ◌∙◌, ap, sym, true, false, length, rules, arith}
use Rattle.std.specs.Prelude.{is_some}
use Rattle.std.specs.List.{list_any, range_with_len}
use Rattle.td_text.proofs.Anywhere.{any-below, none-more}
use Rattle.td_query.specs.Statuses.{status_at}
use Rattle.td_query.proofs.AffectedSources.{affected_by_place}
use Rattle.td_query.proofs.marks.Marks.is_affected.Goals as goal

pub returns-then-is_some : goal.returns-then-is_some
returns-then-is_some c =
    let a = c.args.archive.now in
    let some : is_some c.status.result ≡ true = search rules in
    record {
      affected = λ t of. sym (sym (affected_by_place a t c.args.source)
          ∙ any-below (λ place. is_some (status_at a t c.args.source place)) (length a.table)
          c.loop-place.place (omega (arith, c.loop-place-test.true, c.arch_count-place-end.ensures))
          (sym (ap is_some (c.status.ensures.status t of)) ∙ some));
    }

pub loop-place-preserved : goal.loop-place-preserved
loop-place-preserved c =
    λ t of.
    let none : is_some c.status.result ≡ false = search rules in
    none-more (λ place. is_some (status_at c.args.archive.now t c.args.source place))
    c.loop-place.place (c.loop-place.invariant t of)
    (sym (ap is_some (c.status.ensures.status t of)) ∙ none)

pub returns : goal.returns
returns c =
    let a = c.args.archive.now in
    let all : c.loop-place.place ≡ length a.table = omega arith in
    record {
      affected = λ t of. sym (sym (affected_by_place a t c.args.source)
          ∙ ap (λ n.
          list_any (λ place. is_some (status_at a t c.args.source place)) (range_with_len 0 n))
          (sym all) ∙ c.loop-place.invariant t of);
    }
