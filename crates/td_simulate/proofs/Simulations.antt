-- A text is one simulation at the most, and none where it has a fault.
use Rattle.std.proofs.Common.{◌≡◌, ◌<◌, ℕ, List, [], ◌∷◌, ◌++◌, map, length, refl, sym, subst, ◌∙◌}
use Rattle.std.proofs.Common.{arith}
use Rattle.td_text.specs.Lines.{lines_of, ended}
use Rattle.td_text.proofs.Ended.{ended-none}
use Rattle.td_text.proofs.SpelledLines.{AreSpelled-other}
use Rattle.td_rows.specs.Table.{Table}
use Rattle.td_rows.specs.declared.state_file.StateFault.{StateFault}
use Rattle.td_rows.specs.declared.state_file.StateFault.TheVariants as state
use Rattle.td_rows.specs.StateFile.{IsStateFile, FaultOf as StateFaultOf}
use Rattle.td_core.specs.declared.step.Step.{Step}
use Rattle.td_simulate.specs.declared.fault.SimulationFault.{SimulationFault}
use Rattle.td_simulate.specs.declared.fault.SimulationFault.TheVariants.{Opening, BadStep, NoMemory}
use Rattle.td_simulate.specs.Faults.{of_opening}
use Rattle.td_simulate.specs.SimulationText.{opening_text, lines_after, number_after}
use Rattle.td_simulate.specs.SimulationText.{AreSteps, IsSimulation, IsFirstBad, StepsFault}
use Rattle.td_simulate.specs.SimulationText.{FaultOf}
use Rattle.td_simulate.specs.StepLines.{StepFits, step_line}

-- a fault of the opening rows
pub opening_fault : (text opening : List ℕ) (e : StateFault) → opening
    ≡ opening_text (lines_of text) → StateFaultOf (lines_of opening) e → FaultOf text (of_opening e)
opening_fault text opening (state.BadLine n) is h =
    subst (λ (o : List ℕ). StateFaultOf (lines_of o) (state.BadLine n)) is h
opening_fault text opening (state.Twice n) is h =
    subst (λ (o : List ℕ). StateFaultOf (lines_of o) (state.Twice n)) is h
opening_fault text opening (state.NotOpening n) is h =
    subst (λ (o : List ℕ). StateFaultOf (lines_of o) (state.NotOpening n)) is h
opening_fault text opening state.TooManyRows is h =
    subst (λ (o : List ℕ). StateFaultOf (lines_of o) state.TooManyRows) is h
opening_fault text opening state.NoMemory is h = tt

-- the opening rows of a simulation
pub its_opening : (text opening : List ℕ) (t : Table) (ss : List Step) → opening
    ≡ opening_text (lines_of text) → IsSimulation text t ss → IsStateFile (lines_of opening) t
its_opening text opening t ss is h =
    subst (λ (o : List ℕ). IsStateFile (lines_of o) t) (sym is) h.opening

-- its steps
pub its_steps : (text rest : List ℕ) (t : Table) (ss : List Step) → ended (lines_of rest)
    ≡ lines_after (lines_of text) → IsSimulation text t ss → AreSteps (ended (lines_of rest)) ss
its_steps text rest t ss is h = subst (λ (l : List (List ℕ)). AreSteps l ss) (sym is) h.steps

-- a text of which a line is left isn't empty
some_steps : (first n : ℕ) (rest : List ℕ) → IsFirstBad first (ended (lines_of rest)) n
    → 0 < length rest
unfolding ended
some_steps first n [] h = absurd (no_line h.before h.line h.after (sym ended-none ∙ h.parts))
  where
    no_line : (before : List Step) (line : List ℕ) (after : List (List ℕ))
        → ended [] ≡ map step_line before ++ line ∷ after → ⊥
    no_line [] line after e = cc
    no_line (s ∷ before) line after e = cc
some_steps first n (x ∷ rest) h = omega arith

-- a fault of the steps behind opening rows
pub steps_fault : (text opening rest : List ℕ) (t : Table) (first : ℕ) (e : SimulationFault)
    → opening ≡ opening_text (lines_of text) → ended (lines_of rest) ≡ lines_after (lines_of text)
    → (0 < length rest → first ≡ number_after 1 (lines_of text)) → IsStateFile (lines_of opening) t
    → StepsFault first (ended (lines_of rest)) e → FaultOf text e
steps_fault text opening rest t first (Opening e) is_opening is_rest is_first file h = absurd h
steps_fault text opening rest t first (BadStep n) is_opening is_rest is_first file h = record {
  rows = t;
  opening = subst (λ (o : List ℕ). IsStateFile (lines_of o) t) is_opening file;
  bad = subst (λ (m : ℕ). IsFirstBad m (lines_after (lines_of text)) n)
      (is_first (some_steps first n rest h))
      (subst (λ (l : List (List ℕ)). IsFirstBad first l n) is_rest h);
}
steps_fault text opening rest t first NoMemory is_opening is_rest is_first file h = tt

-- steps without a fault have none
pub no_fault : (first : ℕ) (lines : List (List ℕ)) (ss : List Step) (e : SimulationFault)
    → AreSteps lines ss → StepsFault first lines e → e ≡ NoMemory
no_fault first lines ss (Opening e) h fault = absurd fault
no_fault first lines ss (BadStep n) h fault =
    absurd (AreSpelled-other step_line StepFits first n lines ss h fault)
no_fault first lines ss NoMemory h fault = refl
