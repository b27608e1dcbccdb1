-- `Bases::put_line`: the line of a source.
use Rattle.std.proofs.Common.{◌≡◌, ◌++◌, ◌∷◌, [], ◌∙◌, List, Option, ap, append_assoc}
use Rattle.std.proofs.Common.{string_bytes, subst, sym, ℕ}
use Rattle.std.specs.Option.{option_map_or}
use Rattle.td_plan.specs.declared.asks.Ask.{Ask}
use Rattle.td_plan.specs.declared.movers.Mover.{Mover}
use Rattle.td_plan.specs.inner.Bases.{AreAsksAnywhere, after_name, reasons_among}
use Rattle.td_plan.specs.inner.Movers.{mover_name}
use Rattle.td_plan.specs.inner.Planned.{name_at}
use Rattle.td_plan.specs.inner.Waiters.{kept_of}
use Rattle.td_plan.proofs.ReasonAsks.{are-anywhere}
use Rattle.td_plan.proofs.ReasonLoop.{with-after}
use Rattle.td_plan.proofs.bases.Bases.put_line.Goals as goal

pub returns : goal.returns
returns c = λ t m are at of.
    let b = c.args.self.now in
    let a = b.archive.now in
    let ms = b.movers.now in
    let old = string_bytes c.args.out.now in
    let is = are.sources.each c.args.number m at in
    let all = c.in_ok-all.all.items in
    let those : AreAsksAnywhere a ms c.args.number (kept_of m) all =
    are-anywhere a ms c.args.number m c.args.asks.now.items of is.at is.moves all
    c.in_ok-all.ensures.same c.in_ok-all.ensures.in_order in
    let name : name_at ms c.args.number ≡ mover_name m =
    ap (λ (o : Option Mover). option_map_or mover_name o []) at in
    let reasons = reasons_among a (kept_of m) ms in
    c.in_ok-push_str.ensures.bytes
    ∙ ap (λ (l : List ℕ). l ++ 10 ∷ [])
    (c.in_ok-put_reasons.ensures t c.args.number m are at
    (subst (λ (l : List Ask). AreAsksAnywhere a ms c.args.number (kept_of m) l)
    (sym c.deref.ensures.value) those)
    ∙ ap (λ (l : List ℕ). l ++ after_name reasons) (c.in_ok-put_name.ensures
    ∙ ap (λ (n : List ℕ). old ++ n) name)
    ∙ append_assoc old (mover_name m) (after_name reasons)
    ∙ ap (λ (l : List ℕ). old ++ l) (sym (with-after (mover_name m) reasons)))
    ∙ append_assoc old _ (10 ∷ [])
