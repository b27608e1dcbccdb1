-- A reading over stanzas, one step at a time.
use Rattle.std.proofs.Common.{◌≡◌, ℕ, ◌+◌, ◌≤◌, List, ◌∷◌, Some, Result, Ok, length, drop}
use Rattle.std.proofs.Common.{slice_get, refl, sym, ap, ◌∙◌}
use Rattle.std.proofs.lemmas.List.{drop_all}
use Rattle.td_rows.proofs.Lists.{drop-next}
use Rattle.td_stanza.specs.Field.{Entry}
use Rattle.td_indices.specs.declared.archive_fault.ArchiveFault.{ArchiveFault}
use Rattle.td_indices.specs.Reading.{over_stanzas, IsFaultOf}

module _ {S : Type 0} (step : ℕ → S → List Entry → Result S ArchiveFault)
    (stanzas : List (List Entry)) where
  -- what is left begins with the stanza that has the number
  over-next : (n : ℕ) (seen : S) (s : List Entry) → slice_get stanzas n ≡ Some s
      → over_stanzas step n seen (drop n stanzas)
      ≡ over_stanzas step n seen (s ∷ drop (n + 1) stanzas)
  over-next n seen s at =
      ap (λ (l : List (List Entry)). over_stanzas step n seen l) (drop-next stanzas n s at)

  -- a step that read its stanza
  pub stepped : (n : ℕ) (seen more : S) (s : List Entry) (total : Result S ArchiveFault)
      → slice_get stanzas n ≡ Some s → step n seen s ≡ Ok more
      → over_stanzas step n seen (drop n stanzas) ≡ total
      → over_stanzas step (n + 1) more (drop (n + 1) stanzas) ≡ total
  unfolding over_stanzas
  stepped n seen more s total at is h = sym (over-next n seen s at ∙ rw is refl) ∙ h

  -- a fault at a stanza is that of the whole
  pub faulted : (n : ℕ) (seen : S) (s : List Entry) (e : ArchiveFault)
      (total : Result S ArchiveFault) → slice_get stanzas n ≡ Some s → IsFaultOf (step n seen s) e
      → over_stanzas step n seen (drop n stanzas) ≡ total → IsFaultOf total e
  unfolding over_stanzas
  faulted n seen s e total at is h = λ real. sym h ∙ over-next n seen s at ∙ rw (is real) refl

  -- no stanza is left
  pub ended : (n : ℕ) (seen : S) (total : Result S ArchiveFault) → length stanzas ≤ n
      → over_stanzas step n seen (drop n stanzas) ≡ total → total ≡ Ok seen
  unfolding over_stanzas
  ended n seen total past h =
      sym h ∙ ap (λ (l : List (List Entry)). over_stanzas step n seen l) (drop_all n stanzas past)
