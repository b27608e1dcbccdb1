-- `read_entries`: what it answers and its loop.
use Rattle.std.proofs.Common.{◌≡◌, ◌∙◌, ℕ, List, None, option_map, ap, sym, rules, arith}
use Rattle.std.specs.Borrow.{Bor}
use Rattle.td_query.specs.TrackerGrammar.{front}
use Rattle.td_query.specs.TrackerViews.{said}
use Rattle.td_query.proofs.Entries.{taken, ends, fails_on, goes_on}
use Rattle.td_query.proofs.tracker_reading.read_entries.Goals as goal

pub returns-in-Err : goal.returns-in-Err
returns-in-Err c =
    let d = c.loop-at.invariant.decides in
    let x = taken d.0 (said c.loop-at.keys) c.loop-at.rest.now c.in-Some.at.now _
    (sym c.in-Some.ensures.value) c.in-Some.ensures.filled c.in-Some.ensures.shorter d.1 d.2 in
    record {
      gives = fails_on c.in-Err.fault c.read_entry.new.keys _ _ _ x.2
          c.in-Err.ensures.gives;
    }

pub loop-at-preserved : goal.loop-at-preserved
loop-at-preserved c =
    let d = c.loop-at.invariant.decides in
    let x = taken d.0 (said c.loop-at.keys) c.loop-at.rest.now c.in-Some.at.now _
    (sym c.in-Some.ensures.value) c.in-Some.ensures.filled c.in-Some.ensures.shorter d.1 d.2 in
    record {
      decides = (
        x.0,
        omega (arith, x.1, d.1, c.in-Some.ensures.shorter, c.in-Ok.ensures.shorter),
        goes_on _ _ _ _ x.2 c.in-Ok.ensures.gives,
      );
      utf8 = search rules;
    }

pub returns : goal.returns
returns c =
    let d = c.loop-at.invariant.decides in
    let none : front c.loop-at.rest.now ≡ None = sym c.front.ensures.value
    ∙ ap (option_map (λ (x : Bor (List ℕ)). x.now)) c.in_default.is in
    record { gives = ends d.0 (said c.loop-at.keys) c.loop-at.rest.now _ none d.2 }
