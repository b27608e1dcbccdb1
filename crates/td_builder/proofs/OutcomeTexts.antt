-- Outcome lines are read exactly.
use Rattle.std.proofs.Common.{◌≡◌, ℕ, List, ◌∷◌, ◌++◌, Some, ap, refl, subst, ◌∙◌}
use Rattle.td_text.specs.Exact.{Exact}
use Rattle.td_text.proofs.Chain.{chained, some_is}
use Rattle.td_text.proofs.Cut.{cut-at, word_found}
use Rattle.td_rows.specs.declared.key.Key.{Key}
use Rattle.td_rows.specs.declared.outcome.Outcome.{Outcome}
use Rattle.td_rows.specs.KeyText.{key_text, KeyFits, key_at}
use Rattle.td_rows.proofs.KeyTexts.{key_exact, key_lacks_space}
use Rattle.td_journal.specs.Endings.{ending_text}
use Rattle.td_journal.proofs.Endings.{ending_found, ending_again}
use Rattle.td_builder.specs.OutcomeLines.{outcome_line, OutcomeFits}
use Rattle.td_builder.specs.OutcomeReading.{outcome_line_at}

line_found : (t : List ℕ) (p : Key × Outcome) → outcome_line_at t ≡ Some p
    → (t ≡ outcome_line p) × OutcomeFits p
unfolding outcome_line_at
line_found t p e =
    let a = chained _ _ _ e in
    let key = chained _ _ _ a.2 in
    let o = chained _ _ _ key.2 in
    let k = word_found 32 key_at key_text KeyFits key_exact t a.0 key.0 a.1 key.1 in
    let line : t ≡ key_text key.0 ++ 32 ∷ ending_text o.0 =
    k.0 ∙ ap (λ (r : List ℕ). key_text key.0 ++ 32 ∷ r) (ending_found a.0.1 o.0 o.1) in
    subst (λ (y : Key × Outcome). (t ≡ outcome_line y) × OutcomeFits y) (some_is _ p o.2)
    (line, k.1)

line_again : (p : Key × Outcome) → OutcomeFits p → outcome_line_at (outcome_line p) ≡ Some p
unfolding outcome_line_at
line_again p h =
    rw (
      cut-at 32 (key_text p.0) (ending_text p.1) (key_lacks_space p.0 h),
      key_exact.again p.0 h,
      ending_again p.1,
    ) refl

pub lines_exact : Exact outcome_line_at outcome_line OutcomeFits
lines_exact = record { found = line_found; again = line_again }
