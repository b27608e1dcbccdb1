-- What is answered of the line of a build's end.
use Rattle.std.proofs.Common.{◌≡◌, ℕ, List, Some, None, sym, ap, subst, ◌∙◌}
use Rattle.std.specs.Prelude.{Option, Result, Ok, Err, IfOk}
use Rattle.std.specs.declared.alloc.AllocError.{AllocError}
use Rattle.td_rows.specs.declared.key.Key.{Key}
use Rattle.td_rows.specs.declared.outcome.Outcome.{Outcome}
use Rattle.td_builder.specs.declared.fault.OutcomesFault.{OutcomesFault}
use Rattle.td_builder.specs.declared.fault.OutcomesFault.TheVariants.{BadLine, NoMemory}
use Rattle.td_builder.specs.OutcomeLines.{FaultOf, IsFirstBad}
use Rattle.td_builder.specs.OutcomeReading.{line_told}

-- a line for which an outcome is answered is read as that
pub told-read : (r : Result (Option (Key × Outcome)) AllocError) (n : ℕ) (p : Key × Outcome)
    (o : Option (Key × Outcome)) → IfOk r (λ x. x ≡ o) → line_told r n ≡ Ok p → o ≡ Some p
told-read (Ok (Some q)) n p o is told = sym is ∙ (let same : q ≡ p = cc in ap Some same)
told-read (Ok None) n p o is told = cc
told-read (Err e) n p o is told = cc

-- a fault that is answered: the line with this number is none, or memory ran out
pub told-fault : (lines : List (List ℕ)) (r : Result (Option (Key × Outcome)) AllocError) (n : ℕ)
    (e : OutcomesFault) (o : Option (Key × Outcome)) → IfOk r (λ x. x ≡ o) → line_told r n ≡ Err e
    → (o ≡ None → IsFirstBad lines n) → FaultOf lines e
told-fault lines (Ok (Some q)) n e o is told bad = cc
told-fault lines (Ok None) n e o is told bad =
    let same : BadLine n ≡ e = cc in subst (FaultOf lines) same (bad (sym is))
told-fault lines (Err x) n e o is told bad =
    let same : NoMemory ≡ e = cc in subst (FaultOf lines) same tt
