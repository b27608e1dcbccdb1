-- Each source with a due row, and each row that is left, has its line among those of a plan.
use Rattle.std.proofs.Common.{◌≡◌, ℕ, Bool, true, false, List, [], ◌∷◌, ◌++◌, Some, None}
use Rattle.std.proofs.Common.{cond, not, refl, sym, ap, subst, ◌∙◌, inl, inr}
use Rattle.std.specs.Prelude.{filter, option_map}
use Rattle.std.specs.List.{Contains, filter_map}
use Rattle.std.proofs.lemmas.Bool.{and_from, cond-true, not_from_false}
use Rattle.std.proofs.lemmas.List.Elements.{Contains-append_right}
use Rattle.td_rows.specs.Keys.{same_key}
use Rattle.td_rows.specs.Table.{Table, row_of}
use Rattle.td_rows.specs.declared.key.Key.{Key}
use Rattle.td_rows.specs.declared.row.Row.{Row}
use Rattle.td_rows.proofs.Keys.{same_key-true}
use Rattle.td_indices.proofs.OfferLaws.{has_first, has_more}
use Rattle.td_query.specs.declared.status.Status.{Status}
use Rattle.td_query.specs.declared.status.Status.TheVariants.{Bad, Partial}
use Rattle.td_query.specs.Statuses.{row_status}
use Rattle.td_text.proofs.Chain.{some_is}
use Rattle.td_plan.specs.Due.{has_due, is_due, is_wanted}
use Rattle.td_plan.specs.LineLaws.{HasLeftLine, LeftLinesAreThere, NmuLinesAreThere, is_nmu_line}
use Rattle.td_plan.specs.LineLaws.{nmu_line_of}
use Rattle.td_plan.specs.Lines.{left_line, title_of}
use Rattle.td_plan.specs.Placing.{is_place_before}
use Rattle.td_plan.specs.Plan.{due_sources, left_of, lines_from, plan_lines}
use Rattle.td_plan.specs.Premises.{Premises}
use Rattle.td_plan.specs.Reasons.{is_left, reason_of}
use Rattle.td_plan.specs.ToldLaws.{IsWantedRow}
use Rattle.td_plan.proofs.Chosen.{filter-again, filter-found, in_order-again, map-again}
use Rattle.td_plan.proofs.DueRows.{asks-is}
use Rattle.td_plan.proofs.LeftSteps.{left-there}
use Rattle.td_plan.proofs.LineOrder.{nmu_lines_are_in_order}
use Rattle.td_plan.proofs.Picked.{picked-again}

-- ---- 1. sources

pub nmu_lines_are_there : NmuLinesAreThere
nmu_lines_are_there words p x s has due =
    let lined : Contains (due_sources x p) s =
    in_order-again (is_place_before x) (filter (has_due p) p.archive.sources) s
    (filter-again (has_due p) p.archive.sources s has due) in
    (filter-found is_nmu_line (plan_lines words x p) (nmu_line_of words p s)
    (subst (λ (l : List (List ℕ)). Contains l (nmu_line_of words p s))
    (sym (nmu_lines_are_in_order words p x))
    (map-again (nmu_line_of words p) (due_sources x p) s lined))).0

-- ---- 2. rows

-- the row of a key is in the table
row-among : (t : Table) (k : Key) (row : Row) → row_of t k ≡ Some row → Contains t (k, row)
row-among [] k row h = absurd (let bad : None ≡ Some row = h in cc)
row-among (e ∷ t) k row h = by (same_key k e.0) refl (row-among t k row) h
  where
    by : (b : Bool) → same_key k e.0 ≡ b
        → (row_of t k ≡ Some row → Contains t (k, row))
        → cond b (Some e.1) (row_of t k) ≡ Some row → Contains (e ∷ t) (k, row)
    by true is later found =
        let key : k ≡ e.0 = same_key-true k e.0 is in
        let own : e.1 ≡ row = some_is e.1 row found in
        let same : e ≡ (k, row) = λ i. (sym key i, own i) in
        subst (Contains (e ∷ t)) same (has_first e t)
    by false is later found = has_more e t (k, row) (later found)

-- the line of a row that is left, with its status
line-is : (p : Premises) (k : Key) (row : Row) (wanted : IsWantedRow p k) (status : Status)
    → is_due p wanted.source wanted.place ≡ false
    → row_status p.archive p.tracker wanted.source wanted.place ≡ Some status
    → left_of p (k, row)
    ≡ Some (left_line k status row (reason_of p wanted.source wanted.place))
line-is p k row wanted status off has =
    let s = wanted.source in
    let place = wanted.place in
    let line = λ (v : Status). left_line k v row (reason_of p s place) in
    left-there p k row s place wanted.named (sym wanted.at)
    ∙ cond-true (is_left p s place) (option_map line (row_status p.archive p.tracker s place)) None
    (and_from (is_wanted p s place) (not (is_due p s place)) wanted.wanted
    (not_from_false (is_due p s place) off))
    ∙ ap (option_map line) has

pub left_lines_are_there : LeftLinesAreThere
left_lines_are_there words p x k row wanted there off =
    elim (asks-is (row_status p.archive p.tracker wanted.source wanted.place) wanted.wanted) [
      | inl bad ↦ by Bad bad
      | inr half ↦ by Partial half
    ]
  where
    by : (status : Status)
        → row_status p.archive p.tracker wanted.source wanted.place ≡ Some status
        → HasLeftLine words p x k row wanted
    by status has =
        let line = left_line k status row (reason_of p wanted.source wanted.place) in
        let lines = lines_from words x p None (due_sources x p) in
        let mine : Contains (filter_map (left_of p) p.rows) line =
        picked-again (left_of p) p.rows (k, row) line (row-among p.rows k row there)
        (line-is p k row wanted status off has) in
        record {
          status = status;
          has = has;
          line = Contains-append_right (title_of p.tracker.title)
              (lines ++ filter_map (left_of p) p.rows) line
              (Contains-append_right lines (filter_map (left_of p) p.rows) line mine);
        }
