-- `Plan::put_positions`: its loop, and what it answers.
use Rattle.std.proofs.Common.{◌≡◌, ◌<◌, ◌++◌, ◌∙◌, List, ap, get_or, length, map}
use Rattle.std.proofs.Common.{string_bytes, slice_get, subst, sym, take, drop, ℕ, append-nil}
use Rattle.std.proofs.Common.{[]}
use Rattle.std.proofs.lemmas.List.{drop_all, get_or_default}
use Rattle.std.proofs.lemmas.Option.{slice_get_within}
use Rattle.td_text.specs.Lines.{text_of}
use Rattle.td_text.proofs.Chain.{some_is}
use Rattle.td_rows.proofs.Appends.{grown_twice}
use Rattle.td_plan.specs.Plan.{lines_from}
use Rattle.td_plan.specs.inner.Planned.{last_number, placing_in, source_if, sources_at}
use Rattle.td_plan.proofs.PlanLines.{moving-at}
use Rattle.td_plan.proofs.PlanSteps.{last-is, last-next, position-more}
use Rattle.td_plan.proofs.plan.Plan.put_positions.Goals as goal

pub loop-position-preserved : goal.loop-position-preserved
loop-position-preserved c =
    let plan = c.args.self.now in
    let ms = plan.movers.items in
    let qs = c.args.positions.now in
    let i = c.loop-position.position-index in
    let q = get_or qs i (0, 0, 0) in
    let low : i < length qs = c.loop-position-test.true in
    let it : q ≡ get_or qs i q = get_or_default qs i (0, 0, 0) q low in
    record {
      front = grown_twice _ _ _ c.loop-position.invariant.front
          c.in_ok-put_position.ensures.front;
      last = λ are. last-is plan.parts qs i q low it (are.is i (0, 0, 0) low);
      low = λ are n at.
          let m = moving-at (slice_get ms q.2) (are.moves i (0, 0, 0) low) in
          let same : q.2 ≡ n = some_is q.2 n (sym (last-next qs i q low it) ∙ at) in
          subst (λ (k : ℕ). k < length ms) same (slice_get_within ms q.2 m.0 m.1);
      text = λ w p told is members are.
          let m = moving-at (slice_get ms q.2) (are.moves i (0, 0, 0) low) in
          let before = last_number (take i qs) in
          position-more w (placing_in plan) p ms qs i q m.0
          (source_if ms before) (string_bytes c.loop-position.out)
          (string_bytes c.put_position.new.out) _ low it m.1
          (c.loop-position.invariant.text w p told is members are)
          (c.in_ok-put_position.ensures.ok w p m.0 before told is members m.1 m.2
          (c.loop-position.invariant.low are) (are.is i (0, 0, 0) low)
          (c.loop-position.invariant.last are));
    }

pub returns-clause-ok : goal.returns-clause-ok
returns-clause-ok c = λ w p told is members are.
    let plan = c.args.self.now in
    let ms = plan.movers.items in
    let qs = c.args.positions.now in
    let i = c.loop-position.position-index in
    let out = string_bytes c.loop-position.out in
    let last = source_if ms (last_number (take i qs)) in
    let done : drop i qs ≡ [] = drop_all i qs c.loop-position-test.false in
    sym (ap (λ (l : List (ℕ × ℕ × ℕ)). out ++ text_of (lines_from w (placing_in plan) p last
    (sources_at ms (map (λ (q : ℕ × ℕ × ℕ). q.2) l)))) done ∙ append-nil out)
    ∙ c.loop-position.invariant.text w p told is members are
