-- Each row that waits is in a `dw` line, and the comments on its waits are there.
use Rattle.std.proofs.Common.{◌≡◌, ℕ, ◌<◌, Bool, true, false, cond, List, [], ◌∷◌, ◌++◌, length}
use Rattle.std.proofs.Common.{Option, None, Some, map, refl, sym, ap, subst, ◌∙◌, inl, inr}
use Rattle.std.proofs.Common.{arith}
use Rattle.std.specs.Prelude.{filter}
use Rattle.std.specs.List.{Contains, filter_map, flat_map, list_any}
use Rattle.std.specs.Str.{bytes_eq}
use Rattle.std.proofs.lemmas.Bool.{cases_Bool, false_from_ne_true, false≢true, lt-ltb, or_from}
use Rattle.std.proofs.lemmas.List.Elements.{Contains-append_left, Contains-append_right}
use Rattle.std.proofs.lemmas.List.Folds.{list_any-append}
use Rattle.std.proofs.lemmas.Slice.Eq.{bytes_eq-Decides}
use Rattle.td_text.proofs.Anywhere.{any-below}
use Rattle.td_indices.specs.Sources.{KeptSource}
use Rattle.td_indices.proofs.OfferLaws.{has_again, has_cases, has_first, has_more}
use Rattle.td_plan.specs.Due.{due_places, has_due, is_due}
use Rattle.td_plan.specs.CommentLaws.{CheckLinesAreThere, DwLinesAreThere, NoWaitLinesAreThere}
use Rattle.td_plan.specs.LineLaws.{nmu_line_of}
use Rattle.td_plan.specs.Lines.{Words, check_line, dw_line, no_wait_line}
use Rattle.td_plan.specs.Lines.{title_of}
use Rattle.td_plan.specs.Placing.{Placing, is_place_before}
use Rattle.td_plan.specs.Plan.{WaitingAt, all_waiting, arch_names, check_lines, due_sources}
use Rattle.td_plan.specs.Plan.{dw_lines, is_alike, is_beside, is_waiting, left_of, lines_before}
use Rattle.td_plan.specs.Plan.{lines_from, no_wait_lines, plan_lines, relation_lines, source_lines}
use Rattle.td_plan.specs.Plan.{waiting_at}
use Rattle.td_plan.specs.Premises.{Premises, arch_at, key_at, places}
use Rattle.td_plan.specs.Relations.{relation_of}
use Rattle.td_plan.specs.WaitLaws.{IsPlanned}
use Rattle.td_plan.specs.Waits.{Wait, awaited, is_waitless}
use Rattle.td_plan.proofs.AwaitedSources.{awaited-again}
use Rattle.td_plan.proofs.Chosen.{filter-again, find-has, in_order-again, map-again}
use Rattle.td_plan.proofs.Existing.{none_has, range-has}

-- ---- 1. the line of a relation

module _ (words : Words) (p : Premises) (s : KeptSource) where
  -- a place is among those of one relation, and their lines are there
  record IsGrouped (before after : List WaitingAt) (v : WaitingAt) : Type 0 where
    first : WaitingAt
    mine : List WaitingAt
    has : Contains mine v
    same : relation_of first.waits ≡ relation_of v.waits
    lines : (line : List ℕ) → Contains (relation_lines words p s first mine) line
        → Contains (dw_lines words p s before after) line

  grouped : (before after : List WaitingAt) (v : WaitingAt)
      → list_any (is_alike v) before ≡ false → Contains after v → IsGrouped before after v
  grouped before [] v none has = absurd (none_has v has)
  grouped before (w ∷ after) v none has =
      elim (cases_Bool (is_alike w v)) [
        | inl alike ↦
            (let same = (bytes_eq-Decides (relation_of w.waits) (relation_of v.waits)).0 alike in
            let new : list_any (is_alike w) before ≡ false =
            ap (λ (r : List ℕ). list_any (λ (u : WaitingAt). bytes_eq r (relation_of u.waits))
            before) same ∙ none in
            record {
              first = w;
              mine = filter (is_alike w) (w ∷ after);
              has = filter-again (is_alike w) (w ∷ after) v has alike;
              same = same;
              lines = λ line own. subst (λ (b : Bool). Contains (cond b []
                  (relation_lines words p s w (filter (is_alike w) (w ∷ after)))
                  ++ dw_lines words p s (before ++ w ∷ []) after) line) (sym new)
                  (Contains-append_left
                  (relation_lines words p s w (filter (is_alike w) (w ∷ after)))
                  (dw_lines words p s (before ++ w ∷ []) after) line own);
            })
        | inr other ↦
            (let later : Contains after v = elim (has_cases w after v has) [
              | inl one ↦ absurd (false≢true (sym other
                  ∙ (bytes_eq-Decides (relation_of w.waits) (relation_of v.waits)).1
                  (ap (λ (u : WaitingAt). relation_of u.waits) one)))
              | inr more ↦ more
            ] in
            let apart : is_alike v w ≡ false = false_from_ne_true (is_alike v w) (λ alike.
            false≢true (sym other
            ∙ (bytes_eq-Decides (relation_of w.waits) (relation_of v.waits)).1
            (sym ((bytes_eq-Decides (relation_of v.waits) (relation_of w.waits)).0 alike)))) in
            let yet : list_any (is_alike v) (before ++ w ∷ []) ≡ false =
            list_any-append (is_alike v) before (w ∷ [])
            ∙ or_from (list_any (is_alike v) before) (list_any (is_alike v) (w ∷ [])) none
            (or_from (is_alike v w) false apart refl) in
            let rest = grouped (before ++ w ∷ []) after v yet later in
            record {
              first = rest.first;
              mine = rest.mine;
              has = rest.has;
              same = rest.same;
              lines = λ line own. Contains-append_right (cond (list_any (is_alike w) before) []
                  (relation_lines words p s w (filter (is_alike w) (w ∷ after))))
                  (dw_lines words p s (before ++ w ∷ []) after) line (rest.lines line own);
            })
      ]

-- ---- 2. the lines of a source

module _ (words : Words) (p : Premises) (x : Placing) where
  from-has : (s : KeptSource) (line : List ℕ) (last : Option KeptSource)
      (sources : List KeptSource) → Contains sources s → Contains (source_lines words x p s) line
      → Contains (lines_from words x p last sources) line
  from-has s line last [] has own = absurd (none_has s has)
  from-has s line last (u ∷ sources) has own =
      let rest = lines_from words x p (Some u) sources in
      Contains-append_right (lines_before x p last u) (source_lines words x p u ++ rest) line
      (elim (has_cases u sources s has) [
        | inl one ↦ Contains-append_left (source_lines words x p u) rest line
            (subst (λ (t : KeptSource). Contains (source_lines words x p t) line) (sym one) own)
        | inr more ↦ Contains-append_right (source_lines words x p u) rest line
            (from-has s line (Some u) sources more own)
      ])

  -- a line between the title and the rows that are left
  pub lines-has : (line : List ℕ)
      → Contains (lines_from words x p None (due_sources x p)) line
      → Contains (plan_lines words x p) line
  lines-has line own =
      let lines = lines_from words x p None (due_sources x p) in
      Contains-append_right (title_of p.tracker.title) (lines ++ filter_map (left_of p) p.rows)
      line (Contains-append_left lines (filter_map (left_of p) p.rows) line own)

  -- the source of the archive with a due row is among those with lines
  pub due-has : (s : KeptSource) → Contains p.archive.sources s → has_due p s ≡ true
      → Contains (due_sources x p) s
  due-has s has due =
      in_order-again (is_place_before x) (filter (has_due p) p.archive.sources) s
      (filter-again (has_due p) p.archive.sources s has due)

  module _ (s : KeptSource) (place : ℕ) (planned : IsPlanned p x s place) where
    source-has : (line : List ℕ) → Contains (source_lines words x p s) line
        → Contains (plan_lines words x p) line
    source-has line own =
        lines-has line (from-has s line None (due_sources x p)
        (due-has s (find-has (λ (u : KeptSource). bytes_eq s.head.name u.head.name)
        p.archive.sources s planned.named).0
        (any-below (is_due p s) (length p.archive.table) place planned.there planned.due)) own)

    due-place : Contains (due_places p s) place
    due-place = filter-again (is_due p s) (places p) place
        (range-has (length p.archive.table) place planned.there) planned.due

    dw-has : (line : List ℕ) → Contains (dw_lines words p s [] (all_waiting x p s)) line
        → Contains (plan_lines words x p) line
    dw-has line own =
        let dws = dw_lines words p s [] (all_waiting x p s) in
        let untold = flat_map (no_wait_lines x p s) (due_places p s) in
        source-has line (has_more (nmu_line_of words p s) (dws ++ untold) line
        (Contains-append_left dws untold line own))

    abbrev mine : WaitingAt
    mine = waiting_at x p s place

    group : 0 < length mine.waits → IsGrouped words p s [] (all_waiting x p s) mine
    group some = grouped words p s [] (all_waiting x p s) mine refl
        (filter-again is_waiting (map (waiting_at x p s) (due_places p s)) mine
        (map-again (waiting_at x p s) (due_places p s) place due-place)
        (lt-ltb 0 (length mine.waits) some))

pub dw_lines_are_there : DwLinesAreThere
dw_lines_are_there words p x s place planned some =
    let g = group words p x s place planned some in
    let archs = arch_names p (map (λ (v : WaitingAt). v.place) g.mine) in
    let line = dw_line words s archs (relation_of g.first.waits) in
    let there : Contains (plan_lines words x p) line =
    dw-has words p x s place planned line
    (g.lines line (has_first line (flat_map (check_lines p s) g.mine))) in (
      archs,
      map-again (arch_at p.archive.table) (map (λ (v : WaitingAt). v.place) g.mine) place
          (map-again (λ (v : WaitingAt). v.place) g.mine (waiting_at x p s place) g.has),
      subst (λ (r : List ℕ). Contains (plan_lines words x p) (dw_line words s archs r)) g.same
          there,
    )

some-of : {A : Type 0} (xs : List A) (x : A) → Contains xs x → 0 < length xs
some-of xs x has = let low = has.1 in omega arith

pub check_lines_are_there : CheckLinesAreThere
check_lines_are_there words p x s place w planned has older =
    let mine = waiting_at x p s place in
    let g = group words p x s place planned (some-of mine.waits w has) in
    let line = check_line (key_at p s place) w.name w.on in
    let own : Contains (check_lines p s mine) line =
    map-again (λ (v : Wait). check_line (key_at p s place) v.name v.on)
    (filter (λ (v : Wait). v.older) mine.waits) w
    (filter-again (λ (v : Wait). v.older) mine.waits w has older) in
    dw-has words p x s place planned line
    (g.lines line (has_more (dw_line words s
    (arch_names p (map (λ (v : WaitingAt). v.place) g.mine)) (relation_of g.first.waits))
    (flat_map (check_lines p s) g.mine) line
    (has_again (check_lines p s) g.mine mine line g.has own)))

pub no_wait_lines_are_there : NoWaitLinesAreThere
no_wait_lines_are_there words p x s t place planned waits waitless =
    let line = no_wait_line (key_at p s place) t.head.name in
    let dws = dw_lines words p s [] (all_waiting x p s) in
    let untold = flat_map (no_wait_lines x p s) (due_places p s) in
    let sources = awaited (is_beside x s) p s place in
    let own : Contains (no_wait_lines x p s place) line =
    map-again (λ (u : KeptSource). no_wait_line (key_at p s place) u.head.name)
    (filter (is_waitless p s place) sources) t
    (filter-again (is_waitless p s place) sources t
    (awaited-again p x s place planned.there t waits) waitless) in
    source-has words p x s place planned line
    (has_more (nmu_line_of words p s) (dws ++ untold) line
    (Contains-append_right dws untold line
    (has_again (no_wait_lines x p s) (due_places p s) place line
    (due-place words p x s place planned) own)))
