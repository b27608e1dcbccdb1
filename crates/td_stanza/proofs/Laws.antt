-- Stanzas and faults exclude one another.
use Rattle.std.proofs.Common.{◌≡◌, ℕ, List, Result, Ok, Err, sym, ◌∙◌, inl, inr}
use Rattle.std.specs.Prelude.{IfOk, IfErr}
use Rattle.td_stanza.specs.declared.fault.StanzaFault.{StanzaFault}
use Rattle.td_stanza.specs.Field.{Entry}
use Rattle.td_stanza.specs.StanzaGrammar.{AreStanzas}
use Rattle.td_stanza.specs.StanzaFaults.{HasFault, IsFaultOf, GivesStanzas, GivesFault}
use Rattle.td_stanza.proofs.Shapes.{stanzas_same}
use Rattle.td_stanza.proofs.Steps.{run_stanzas, run_fault}

pub stanzas_fine : (ss : List (List Entry)) (e : StanzaFault) (lines : List (List ℕ))
    → AreStanzas ss lines → HasFault e lines → ⊥
stanzas_fine ss e lines h f =
    let a = run_stanzas 1 ss lines h in let b = run_fault e lines f in let both = sym a.1 ∙ b in cc

pub fault_same : (e d : StanzaFault) (lines : List (List ℕ)) → HasFault e lines → HasFault d lines
    → e ≡ d
fault_same e d lines f g = let both = sym (run_fault e lines f) ∙ run_fault d lines g in cc

-- what is right where it answers is what there is to answer
pub gives_stanzas : (lines : List (List ℕ)) (r : Result (List (List Entry)) StanzaFault)
    → IfOk r (λ found. AreStanzas found lines) → IfErr r (IsFaultOf lines)
    → (ss : List (List Entry)) → AreStanzas ss lines → GivesStanzas r ss
gives_stanzas lines (Ok found) h k ss are = stanzas_same found ss lines h are
gives_stanzas lines (Err e) h k ss are = elim k [
  | inl none ↦ none
  | inr fault ↦ absurd (stanzas_fine ss e lines are fault)
]

pub gives_fault : (lines : List (List ℕ)) (r : Result (List (List Entry)) StanzaFault)
    → IfOk r (λ found. AreStanzas found lines) → IfErr r (IsFaultOf lines) → (e : StanzaFault)
    → HasFault e lines → GivesFault r e
gives_fault lines (Ok found) h k e fault = stanzas_fine found e lines h fault
gives_fault lines (Err d) h k e fault = elim k [
  | inl none ↦ inl none
  | inr own ↦ inr (fault_same d e lines own fault)
]
