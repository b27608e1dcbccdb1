-- `Marks::may_be_affected`: what it answers if no mark is `affected`.
use Rattle.std.proofs.Common.{◌≡◌, false, get_or, ap, sym, ◌∙◌, take, take_all, rules, arith}
use Rattle.std.specs.List.{list_any}
use Rattle.td_query.specs.Marks.{no_mark}
use Rattle.td_query.proofs.Unmarked.{unaffected}
use Rattle.td_query.proofs.marks.Marks.may_be_affected.Goals as goal

pub returns : goal.returns
returns c =
    let own : (get_or c.args.self.now.sources.items c.args.source no_mark).affected ≡ false =
    search rules in
    let numbers = c.packages_of-number-items.result.now in
    let all : take c.loop-number.number-index numbers ≡ numbers =
    take_all c.loop-number.number-index numbers (omega arith) in
    record {
      no = λ t of is. unaffected c.args.archive.now t c.args.self.now of c.args.source
          c.in-Some.found c.in-Some.ensures.found own
          (ap (list_any (λ n. (get_or c.args.self.now.packages.items n no_mark).affected))
          (sym c.packages_of-number-items.ensures.numbers ∙ sym all) ∙ c.loop-number.invariant);
    }
