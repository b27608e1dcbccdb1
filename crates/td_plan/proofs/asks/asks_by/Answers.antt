-- `asks_by`: what it answers.
use Rattle.std.proofs.Common.{◌≡◌, ◌∙◌, arith, inl, inr, length, rules, sym, true}
use Rattle.std.proofs.lemmas.Bool.{false≢true}
use Rattle.std.proofs.lemmas.Option.{slice_get_cases, slice_get_within}
use Rattle.td_plan.specs.declared.asks.Asker.{Asker}
use Rattle.td_plan.specs.inner.Asking.{asks_at}
use Rattle.td_plan.proofs.AskedFor.{are-asks}
use Rattle.td_plan.proofs.Askings.{within-each}
use Rattle.td_plan.proofs.asks.asks_by.Goals as goal

pub returns : goal.returns
returns c = λ ms index.
    let a = c.args.archive.now in
    let m = c.args.mover.now in
    let w : Asker = record {
      archive = c.args.archive;
      providers = c.args.providers;
      mover = c.args.number;
      number = m.number;
    } in
    let asks = c.in_ok-asks.asks.items in
    let yes : c.moves.result ≡ true = search rules in
    record {
      still = λ no. absurd (false≢true (sym no ∙ sym c.moves.ensures ∙ yes));
      len = λ s at moving. c.in_ok-asks.ensures.len;
      within = elim (slice_get_cases a.sources m.number).1 [
        | inl there ↦
            within-each (length ms) asks (λ place ask low has.
            let all = are-asks w ms index there.0 there.2 place (asks_at asks place)
            (λ test. c.in_ok-asks.ensures.asked place test
            (omega (arith, low, c.in_ok-asks.ensures.len)))
            (c.in_ok-asks.ensures.in_order place) in
            let is = all.each ask has in
            slice_get_within ms ask.owner is.owner is.at)
        | inr past ↦ absurd
            (omega (arith, past.0, c.if-mover-source_count.false, c.source_count.ensures))
      ];
      at = λ s place at moving low.
          are-asks w ms index s at place (asks_at asks place)
          (λ test. c.in_ok-asks.ensures.asked place test low)
          (c.in_ok-asks.ensures.in_order place);
    }
