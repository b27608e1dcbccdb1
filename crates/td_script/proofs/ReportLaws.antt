-- A tracker has one report of the same rows.
use Rattle.std.proofs.Common.{◌≡◌, ◌≤◌, ℕ, zero, suc, List, [], ◌∷◌, Option, option_map}
use Rattle.std.proofs.Common.{refl, sym, ap, ◌∙◌, arith}
use Rattle.std.specs.List.{cons_option}
use Rattle.td_text.specs.Lines.{text_of}
use Rattle.td_rows.specs.declared.key.Key.{Key}
use Rattle.td_rows.specs.declared.row.Row.{Row}
use Rattle.td_rows.specs.Table.{Table}
use Rattle.td_indices.specs.Archive.{Contents}
use Rattle.td_query.specs.Statuses.{status_of}
use Rattle.td_query.specs.Tracking.{Tracking}
use Rattle.td_waves.specs.declared.level.Level.{Level}
use Rattle.td_waves.specs.Levels.{IsDepth}
use Rattle.td_waves.specs.Waves.{BuildsOn}
use Rattle.td_report.specs.Report.{AffectedRow, report_lines}
use Rattle.td_report.specs.Transition.{AreLevels, IsAffected, IsReport, affected_rows}
use Rattle.td_report.proofs.OneText.{stands_once}
use Rattle.td_script.specs.Reporting.{report_with}

-- equal levels are equally many
no_deeper : {X : Type 0} (f g : X → Option Level) (d e : ℕ) → ((x : X) → f x ≡ g x) → IsDepth f d
    → IsDepth g e → d ≤ e
no_deeper f g zero e same h k = omega arith
no_deeper f g (suc d) e same h k =
    let r = h.reached (suc d) (omega arith) (omega arith) in
    let fits = (k.within r.0 (suc d) (sym (same r.0) ∙ r.1)).1 in
    omega (arith, fits)

same_depth : {X : Type 0} (f g : X → Option Level) (d e : ℕ) → ((x : X) → f x ≡ g x) → IsDepth f d
    → IsDepth g e → d ≡ e
same_depth f g d e same h k =
    let up = no_deeper f g d e same h k in
    let down = no_deeper g f e d (λ x. sym (same x)) k h in
    omega (arith, up, down)

-- a row at a level
abbrev row_at : Contents → Tracking → Key × Row → Option Level → Option AffectedRow
row_at a t p l =
    option_map (λ status. record { key = p.0; row = p.1; status = status; level = l })
    (status_of a t p.0)

affected_rows-alike : (a : Contents) (t : Tracking) (f g : List ℕ → Option Level)
    → ((s : List ℕ) → f s ≡ g s) → (rows : Table)
    → affected_rows a t f rows ≡ affected_rows a t g rows
affected_rows-alike a t f g same [] = refl
affected_rows-alike a t f g same (p ∷ rows) =
    ap (λ (l : Option Level). cons_option (row_at a t p l) (affected_rows a t f rows))
    (same p.0.source)
    ∙ ap (λ (l : List AffectedRow). cons_option (row_at a t p (g p.0.source)) l)
    (affected_rows-alike a t f g same rows)

-- one report
pub report_once : (a : Contents) (t : Tracking) (f : List ℕ → Option Level) (d : ℕ) (rows : Table)
    (text : List ℕ) → AreLevels a t f d → IsReport a t rows text → text ≡ report_with a t f d rows
report_once a t f d rows text h is =
    let same : (s : List ℕ) → is.level s ≡ f s =
    λ s. stands_once (IsAffected a t) (BuildsOn a) s (is.level s) (f s) (is.levels.stands s)
    (h.stands s) in
    is.written
    ∙ ap (λ (n : ℕ). text_of (report_lines t.title n (affected_rows a t is.level rows)))
    (same_depth is.level f is.depth d same is.levels.deep h.deep)
    ∙ ap (λ (l : List AffectedRow). text_of (report_lines t.title d l))
    (affected_rows-alike a t is.level f same rows)
