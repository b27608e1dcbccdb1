-- `Book::command`: what it answers and the call of `enter`.
use Rattle.std.proofs.Common.{List, filter, ap, sym, ◌∙◌}
use Rattle.td_rows.specs.declared.key.Key.{Key}
use Rattle.td_rows.specs.Keys.{ascending, names}
use Rattle.td_rows.specs.Table.{keys_of}
use Rattle.td_core.specs.History.{rows_of}
use Rattle.td_core.proofs.Taking.{names-filter, ascending-filter}
use Rattle.td_wbread.specs.Naming.{is_named}
use Rattle.td_wbread.specs.Views.{parts_of}
use Rattle.td_book.specs.Commands.{named_by, is_matched_in}
use Rattle.td_wbread.specs.Kinds.{kind_of}
use Rattle.td_naming.specs.Skips.{left_of, skips_of}
use Rattle.td_book.proofs.Calls.{commanded_as, named_rows}
use Rattle.td_naming.proofs.Skipping.{left_skips}
use Rattle.td_book.proofs.book.Book.command.Goals as goal

pub enter-requires-clause-named : goal.enter-requires-clause-named
enter-requires-clause-named c =
    let p = λ (k : Key). is_named (parts_of c.args.command.now) k.source k.arch in
    ap ascending (c.deref.ensures.value ∙ c.in-Ok.ensures.named)
    ∙ ascending-filter p (keys_of (rows_of c.args.self.now.history)) c.in-Ok.ensures.rising

pub enter-requires-clause-matched : goal.enter-requires-clause-matched
enter-requires-clause-matched c =
    let p = λ (k : Key). is_named (parts_of c.args.command.now) k.source k.arch in
    ap ascending c.in-Ok.ensures.matched
    ∙ ascending-filter (is_matched_in (parts_of c.args.command.now) c.args.self.now)
    (named_by (parts_of c.args.command.now) c.args.self.now)
    (ascending-filter p (keys_of (rows_of c.args.self.now.history)) c.in-Ok.ensures.rising)

pub enter-requires-clause-among : goal.enter-requires-clause-among
enter-requires-clause-among c = λ k named.
    ap (λ (ks : List Key). names ks k) (c.deref.ensures.value ∙ c.in-Ok.ensures.named)
    ∙ names-filter (is_matched_in (parts_of c.args.command.now) c.args.self.now)
    (named_by (parts_of c.args.command.now) c.args.self.now) k
    (ap (λ (ks : List Key). names ks k) (sym c.in-Ok.ensures.matched) ∙ named)

pub enter-requires-clause-rows : goal.enter-requires-clause-rows
enter-requires-clause-rows c = λ k named.
    let p = λ (q : Key). is_named (parts_of c.args.command.now) q.source q.arch in
    named_rows p (rows_of c.args.self.now.history) k
    (ap (λ (ks : List Key). names ks k) (sym (c.deref.ensures.value ∙ c.in-Ok.ensures.named))
    ∙ named)

pub returns : goal.returns
returns c =
    let p = parts_of c.args.command.now in
    let old = c.args.self.now in
    let asked = c.in-Ok.asked in
    let is = c.in-Ok.ensures in
    let m = is_matched_in p old in
    commanded_as asked.kind (kind_of p) c.deref.result.now (named_by p old) asked.matched.items
    (filter m (named_by p old)) (left_of asked.kind asked.doubts.items)
    (skips_of m (kind_of p) (named_by p old)) old c.enter.new.self c.enter.result
    is.kind (c.deref.ensures.value ∙ is.named) is.matched
    ((λ j. left_of (is.kind j) (is.doubts j))
    ∙ (λ j t. left_skips m t (kind_of p) (named_by p old) j))
    c.enter.ensures
