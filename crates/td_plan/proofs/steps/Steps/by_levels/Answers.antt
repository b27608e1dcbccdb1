-- `Steps::by_levels`: its loop, and what it answers.
use Rattle.std.proofs.Common.{◌≡◌, ◌+◌, ◌++◌, ◌∙◌, [], List, ap, arith, map, string_bytes, subst}
use Rattle.std.proofs.Common.{sym, ℕ}
use Rattle.std.specs.Borrow.{Bor}
use Rattle.std.specs.Global.{Vec}
use Rattle.std.specs.List.{flat_map, range_with_len}
use Rattle.td_text.specs.Lines.{text_of}
use Rattle.td_report.specs.Report.{level_words}
use Rattle.td_waves.specs.WavesView.{depth_of, level_of}
use Rattle.td_waves.specs.declared.level.Level.{Level}
use Rattle.td_waves.specs.declared.level.Level.TheVariants.{At, Cyclic}
use Rattle.td_plan.specs.inner.Movers.{mover_name}
use Rattle.td_plan.specs.inner.Stepping.{AreSources, at_level, lines_under}
use Rattle.td_plan.proofs.LevelSources.{level-low}
use Rattle.td_plan.proofs.LevelsOf.{by-levels-is, levels-of}
use Rattle.td_plan.proofs.SourcePlaces.{range-lines, text-more}
use Rattle.td_plan.proofs.Turned.{lists-at}
use Rattle.td_plan.proofs.steps.Steps.by_levels.Goals as goal

pub loop-number-preserved : goal.loop-number-preserved
loop-number-preserved g c = λ t is.
    let steps = c.args.self.now in
    let level = level_of c.in_ok-waves.waves in
    let n = c.loop-number.number in
    let levels = c.in_ok-grouped.grouped.levels.items in
    let made = λ (k : Level). lines_under steps (level_words k) (at_level level steps k) in
    let old = string_bytes c.loop-number.out in
    let its : c.deref-in-loop-number.result.now ≡ at_level level steps (At (n + 1)) =
    c.deref-in-loop-number.ensures.value ∙ ap (λ (v : Vec ℕ). v.items) c.index.ensures
    ∙ sym (lists-at levels n c.index.result.now (omega arith))
    ∙ c.in_ok-grouped.ensures.levels n (omega (arith, c.in_ok-grouped.ensures.len)) in
    text-more [] old (string_bytes c.put_level.new.out) _ (text_of (made (At (n + 1)))) _
    (c.loop-number.invariant t is)
    (c.in_ok-put_level.ensures t is
    (subst (AreSources steps) (sym its) (level-low level steps (At (n + 1))))
    ∙ ap (λ (l : List ℕ). old ++ text_of (lines_under steps (level_words (At (n + 1))) l)) its)
    (range-lines (λ k. made (At (k + 1))) n)

pub returns : goal.returns
returns g c = λ t is.
    let steps = c.args.self.now in
    let waves = c.in_ok-waves.waves in
    let level = level_of waves in
    let depth = depth_of waves in
    let made = λ (k : Level). lines_under steps (level_words k) (at_level level steps k) in
    let names = c.deref.result.now in
    let named : map (λ name. name.now) names ≡ map mover_name steps.movers.items =
    ap (λ (l : List (Bor (List ℕ))). map (λ name. name.now) l) c.deref.ensures.value
    ∙ c.in_ok-names.ensures in
    let its : c.deref-2.result.now ≡ at_level level steps Cyclic =
    c.deref-2.ensures.value ∙ c.in_ok-grouped.ensures.cyclic in
    let all : c.loop-number.number ≡ depth = omega (arith, c.in_ok-grouped.ensures.len) in
    by-levels-is t steps is level depth
    (levels-of t steps is names named level depth c.in_ok-waves.ensures.levels
    c.in_ok-waves.ensures.depth) _
    (c.in_ok-put_level-2.ensures t is
    (subst (AreSources steps) (sym its) (level-low level steps Cyclic))
    ∙ ap (λ (l : List ℕ). string_bytes c.loop-number.out
    ++ text_of (lines_under steps (level_words Cyclic) l)) its
    ∙ ap (λ (l : List ℕ). l ++ text_of (made Cyclic)) (c.loop-number.invariant t is
    ∙ ap (λ (k : ℕ). text_of (flat_map (λ n. made (At (n + 1))) (range_with_len 0 k))) all))
