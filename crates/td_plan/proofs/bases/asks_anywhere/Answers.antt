-- `asks_anywhere`: its loop, and what it answers.
use Rattle.std.proofs.Common.{◌≡◌, ◌∙◌, ◌++◌, ◌||◌, Bool, List, Some, ap, arith, get_or, length}
use Rattle.std.proofs.Common.{refl, slice_get, sym, take}
use Rattle.std.specs.Global.{Vec}
use Rattle.std.specs.List.{list_any}
use Rattle.std.proofs.lemmas.List.{take_all}
use Rattle.std.proofs.lemmas.List.Folds.{list_any-append}
use Rattle.std.proofs.lemmas.Option.{slice_get_read}
use Rattle.td_text.proofs.Anywhere.{any-push}
use Rattle.td_rows.proofs.Lists.{take-next}
use Rattle.td_plan.specs.declared.asks.Ask.{Ask}
use Rattle.td_plan.specs.inner.Bases.{any_asked}
use Rattle.td_plan.proofs.bases.asks_anywhere.Goals as goal

pub loop-list-preserved : goal.loop-list-preserved
loop-list-preserved c = λ test.
    let asks = c.args.asks.now.items in
    let i = c.loop-list.list-index in
    let list = c.list-item.result in
    let at : slice_get asks i ≡ Some list =
    slice_get_read asks (length asks) i list refl
    (omega (arith, c.loop-list-test.true, c.deref-list-items.ensures.len))
    (c.list-item.is
    ∙ ap (λ (l : List (Vec Ask)). get_or l i list) c.deref-list-items.ensures.value) in
    ap (list_any test) (c.in_ok-push_all.ensures
    ∙ ap (λ (l : List Ask). c.loop-list.all.items ++ l) c.deref.ensures.value)
    ∙ list_any-append test c.loop-list.all.items list.items
    ∙ ap (λ (b : Bool). b || list_any test list.items) (c.loop-list.invariant test)
    ∙ sym (any-push (λ (v : Vec Ask). list_any test v.items) (take i asks) list)
    ∙ ap (any_asked test) (sym (take-next asks i list at))

pub returns-clause-same : goal.returns-clause-same
returns-clause-same c = λ test.
    let asks = c.args.asks.now.items in
    c.sort_by_owner.ensures.same test ∙ c.loop-list.invariant test
    ∙ ap (any_asked test) (take_all c.loop-list.list-index asks
    (omega (arith, c.loop-list-test.false, c.deref-list-items.ensures.len)))
