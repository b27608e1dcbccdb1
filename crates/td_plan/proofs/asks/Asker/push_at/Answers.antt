-- `Asker::push_at`: the clause `asked`.
use Rattle.std.proofs.Common.{◌≡◌, ◌∙◌, ◌&&◌, ◌||◌, ◌==◌, Bool, ap, false, rules, sym, true}
use Rattle.std.specs.List.{list_any}
use Rattle.td_relation.specs.Asked.{asked}
use Rattle.td_plan.specs.inner.Asking.{ask_of, asks_at, asks_one}
use Rattle.td_plan.proofs.Askings.{asks-entered, none-asked}
use Rattle.td_plan.proofs.asks.Asker.push_at.Goals as goal

pub returns-then-not-fits-clause-asked : goal.returns-then-not-fits-clause-asked
returns-then-not-fits-clause-asked c = λ k test.
    let no : c.fits.result ≡ false = search rules in
    let p = c.args.found.now in
    none-asked (list_any test (asks_at c.args.asks.now.items k)) (c.args.place == k)
    (asks_one c.args.self.now c.args.place test (asked c.args.alternative.now) p)
    (ap (λ (b : Bool). b && test (ask_of p)) (sym c.fits.ensures ∙ no))

pub returns-clause-asked : goal.returns-clause-asked
returns-clause-asked c = λ k test.
    let yes : c.fits.result ≡ true = search rules in
    let old = c.args.asks.now.items in
    let ask = ask_of c.args.found.now in
    asks-entered old c.args.place c.index_mut.result.now c.push.new.self ask c.requires.place
    c.index_mut.ensures.value c.in_ok-push.ensures.items k test
    ∙ ap (λ (b : Bool). list_any test (asks_at old k) || ((c.args.place == k) && b))
    (sym (ap (λ (b : Bool). b && test ask) (sym c.fits.ensures ∙ yes)))
