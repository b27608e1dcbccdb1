-- `Plan::put_rows`: its loop, and what it answers.
use Rattle.std.proofs.Common.{◌≡◌, ◌≤◌, ◌∙◌, ◌++◌, List, None, Some, ap, arith, length}
use Rattle.std.proofs.Common.{option_map, inl, inr}
use Rattle.std.proofs.Common.{slice_get, string_bytes, subst, sym, take, ℕ}
use Rattle.std.specs.Borrow.{Bor}
use Rattle.std.specs.List.{filter_map}
use Rattle.std.specs.Option.{option_to_list}
use Rattle.std.proofs.lemmas.List.{take_all}
use Rattle.std.proofs.lemmas.Option.{slice_get_cases}
use Rattle.td_text.specs.Lines.{text_of}
use Rattle.td_rows.specs.Appending.{Grown}
use Rattle.td_rows.specs.declared.key.Key.{Key}
use Rattle.td_rows.specs.declared.row.Row.{Row}
use Rattle.td_rows.specs.Table.{Table}
use Rattle.td_rows.proofs.Appends.{grown_twice}
use Rattle.td_rows.proofs.Tables.{row_of-at}
use Rattle.td_plan.specs.Plan.{left_of}
use Rattle.td_plan.proofs.LeftSteps.{row-more}
use Rattle.td_plan.proofs.SourcePlaces.{text-more}
use Rattle.td_plan.proofs.plan.Plan.put_rows.Goals as goal
use Rattle.td_plan.proofs.plan.Plan.put_rows.Goals.{in-Some+in_ok-put_row, in_default}

pub loop-number-preserved : goal.loop-number-preserved
loop-number-preserved c =
    let plan = c.args.self.now in
    let n = c.loop-number.number in
    let start = string_bytes c.args.out.now in
    let old = string_bytes c.loop-number.out in
    elim c.match-at.branch [
      | in-Some+in_ok-put_row w ↦ record {
        front = grown_twice start old _ c.loop-number.invariant.front
            (subst (λ (t : List ℕ). Grown old t) (sym (ap string_bytes w.out-is))
            w.in_ok-put_row.ensures.front);
        text = λ p is are.
            let key = w.in-Some.key.now in
            let row = w.in-Some.row.now in
            let there : slice_get p.rows n ≡ Some (key, row) =
            ap (λ (t : Table). slice_get t n) (sym is.inputs.rows) ∙ sym c.at.ensures
            ∙ ap (option_map (λ (e : Bor Key × Bor Row). (e.0.now, e.1.now))) w.in-Some.is in
            text-more start old _ (text_of (filter_map (left_of p) (take n p.rows)))
            (text_of (option_to_list (left_of p (key, row)))) _
            (c.loop-number.invariant.text p is are)
            (ap string_bytes w.out-is ∙ w.in_ok-put_row.ensures.ok p is are
            (row_of-at p.rows key n row is.sound.rows.rising there))
            (row-more (left_of p) p.rows n (key, row) there);
      }
      | in_default w ↦ record {
        front = subst (λ (t : List ℕ). Grown start t) (sym (ap string_bytes w.out-is))
            c.loop-number.invariant.front;
        text = λ p is are.
            let none : None ≡ slice_get p.rows n =
            sym (ap (option_map (λ (e : Bor Key × Bor Row). (e.0.now, e.1.now))) w.in_default.is)
            ∙ c.at.ensures ∙ ap (λ (t : Table). slice_get t n) is.inputs.rows in
            elim (slice_get_cases p.rows n).1 [
              | inl one ↦ absurd (let bad : None ≡ Some one.0 = none ∙ one.2 in cc)
              | inr past ↦ absurd (omega (
                arith,
                past.0,
                ap (λ (t : Table). length t) is.inputs.rows,
                c.loop-number-test.true,
              ))
            ];
      }
    ]

pub returns-clause-ok : goal.returns-clause-ok
returns-clause-ok c = λ p is are.
    let n = c.loop-number.number in
    let start = string_bytes c.args.out.now in
    let past : length p.rows ≤ n =
    omega (arith, ap (λ (t : Table). length t) is.inputs.rows, c.loop-number-test.false) in
    c.loop-number.invariant.text p is are
    ∙ ap (λ (t : Table). start ++ text_of (filter_map (left_of p) t)) (take_all n p.rows past)
