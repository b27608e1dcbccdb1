-- What a tracker says over an archive and rows is one text.
use Rattle.std.proofs.Common.{◌≡◌, ◌≤◌, ℕ, zero, suc, List, Option, None, Some, refl, sym, ap}
use Rattle.std.proofs.Common.{subst, ◌∙◌, arith}
use Rattle.td_text.specs.Lines.{text_of}
use Rattle.td_rows.specs.Table.{Table}
use Rattle.td_indices.specs.Archive.{Contents}
use Rattle.td_query.specs.Tracking.{Tracking}
use Rattle.td_waves.specs.declared.level.Level.{Level}
use Rattle.td_waves.specs.declared.level.Level.TheVariants.{At, Cyclic}
use Rattle.td_waves.specs.Levels.{IsDepth, StandsAt}
use Rattle.td_waves.specs.Waves.{BuildsOn}
use Rattle.td_waves.proofs.SameLevel.{same_level}
use Rattle.td_report.specs.Report.{lines_showing, waves_lines}
use Rattle.td_report.specs.declared.shown.Shown.{Shown}
use Rattle.td_report.specs.Transition.{AreLevels, IsAffected, IsReportOf, IsWaves, affected_rows}

-- a thing is at one level
pub stands_once : {X : Type 0} (A : X → Type 0) (B : X → X → Type 0) (x : X) (o p : Option Level)
    → StandsAt A B x o → StandsAt A B x p → o ≡ p
stands_once A B x None None h g = refl
stands_once A B x None (Some (At k)) h g = same_level A B x None k h g
stands_once A B x None (Some Cyclic) h g = absurd (h g.0)
stands_once A B x (Some (At j)) None h g = sym (same_level A B x None j g h)
stands_once A B x (Some (At j)) (Some (At k)) h g = same_level A B x (Some (At j)) k h g
stands_once A B x (Some (At j)) (Some Cyclic) h g = sym (same_level A B x (Some Cyclic) j g h)
stands_once A B x (Some Cyclic) None h g = absurd (g h.0)
stands_once A B x (Some Cyclic) (Some (At k)) h g = same_level A B x (Some Cyclic) k h g
stands_once A B x (Some Cyclic) (Some Cyclic) h g = refl

no_deeper : (level : List ℕ → Option Level) (d e : ℕ) → IsDepth level d → IsDepth level e
    → d ≤ e
no_deeper level zero e h g = omega arith
no_deeper level (suc d) e h g =
    let r = h.reached (suc d) (omega arith) (omega arith) in (g.within r.0 (suc d) r.1).1

-- the levels of the affected sources are one function, with one depth
module _ (a : Contents) (t : Tracking) (level other : List ℕ → Option Level) (d e : ℕ)
    (h : AreLevels a t level d) (g : AreLevels a t other e) where
  pub same_levels : level ≡ other
  same_levels = λ i source.
      stands_once (IsAffected a t) (BuildsOn a) source (level source) (other source)
      (h.stands source) (g.stands source) i

  pub same_depth : d ≡ e
  same_depth =
      let deep : IsDepth other d = subst (λ l. IsDepth l d) same_levels h.deep in
      let less = no_deeper other d e deep g.deep in
      let more = no_deeper other e d g.deep deep in
      omega (arith, less, more)

pub one_report : (shown : Shown) (a : Contents) (t : Tracking) (rows : Table)
    (text other : List ℕ)
    → IsReportOf shown a t rows text → IsReportOf shown a t rows other → text ≡ other
one_report shown a t rows text other x y =
    x.written
    ∙ ap (λ l. text_of (lines_showing shown t.title x.depth (affected_rows a t l rows)))
    (same_levels a t x.level y.level x.depth y.depth x.levels y.levels)
    ∙ ap (λ d. text_of (lines_showing shown t.title d (affected_rows a t y.level rows)))
    (same_depth a t x.level y.level x.depth y.depth x.levels y.levels)
    ∙ sym y.written

pub one_text_of_waves : (a : Contents) (t : Tracking) (rows : Table) (text other : List ℕ)
    → IsWaves a t rows text → IsWaves a t rows other → text ≡ other
one_text_of_waves a t rows text other x y =
    x.written
    ∙ ap (λ l. text_of (waves_lines x.depth (affected_rows a t l rows)))
    (same_levels a t x.level y.level x.depth y.depth x.levels y.levels)
    ∙ ap (λ d. text_of (waves_lines d (affected_rows a t y.level rows)))
    (same_depth a t x.level y.level x.depth y.depth x.levels y.levels)
    ∙ sym y.written
