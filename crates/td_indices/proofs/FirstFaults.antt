-- A fault of stanzas that are kept one after the other is that of the first faulty one.
use Rattle.std.proofs.Common.{◌≡◌, ℕ, suc, ◌+◌, Bool, List, [], ◌∷◌, ◌++◌, Option, Result, Ok, Err}
use Rattle.std.proofs.Common.{length, refl, sym, ap, ◌∙◌, arith}
use Rattle.td_stanza.specs.Field.{Entry}
use Rattle.td_indices.specs.declared.archive_fault.ArchiveFault.{ArchiveFault}
use Rattle.td_indices.specs.declared.archive_fault.EntryFault.{EntryFault}
use Rattle.td_indices.specs.declared.archive_fault.IndexFile.{IndexFile}
use Rattle.td_indices.specs.declared.archive_fault.IndexFile.TheVariants.{Packages, Sources}
use Rattle.td_indices.specs.Counting.{AreItems, consed}
use Rattle.td_indices.specs.FirstFaults.{IsFirstFaulty, FirstFaultyPackageIsNamed}
use Rattle.td_indices.specs.FirstFaults.{FirstFaultySourceIsNamed}
use Rattle.td_indices.specs.Kept.{binary_at, lower_package, same_package}
use Rattle.td_indices.specs.Reading.{at_stanza, over_stanzas, put_some}
use Rattle.td_indices.specs.Sources.{kept_source_at, lower_source, same_source}
use Rattle.td_indices.proofs.CountingLaws.{step}

module _ {A : Type 0} (same lower : A → A → Bool)
    (at : ℕ → List Entry → Result (Option A) EntryFault) (file : IndexFile) where
  -- the same, where the first stanza has a number
  record IsFaultyFrom (n : ℕ) (stanzas : List (List Entry)) (fault : ArchiveFault) : Type 0 where
    before : List (List Entry)
    stanza : List Entry
    after : List (List Entry)
    parts : stanzas ≡ before ++ stanza ∷ after
    items : List A
    fine : AreItems at n before items
    own : EntryFault
    faulty : at (n + length before) stanza ≡ Err own
    named : fault ≡ at_stanza file (n + length before) own

  later_faulty : (n : ℕ) (s : List Entry) (ss : List (List Entry)) (fault : ArchiveFault)
      (o : Option A) → at n s ≡ Ok o → IsFaultyFrom (n + 1) ss fault → IsFaultyFrom n (s ∷ ss) fault
  later_faulty n s ss fault o read f =
      let next : (n + 1) + length f.before ≡ n + suc (length f.before) = omega arith in
      record {
        before = s ∷ f.before;
        stanza = f.stanza;
        after = f.after;
        parts = ap (λ (l : List (List Entry)). s ∷ l) f.parts;
        items = consed o f.items;
        fine = (o, f.items, read, refl, f.fine);
        own = f.own;
        faulty = ap (λ (k : ℕ). at k f.stanza) (sym next) ∙ f.faulty;
        named = f.named ∙ ap (λ (k : ℕ). at_stanza file k f.own) next;
      }

  faulty_by : (n : ℕ) (seen : List A) (s : List Entry) (ss : List (List Entry))
      (fault : ArchiveFault)
      → ((more : List A) → over_stanzas (step same lower at file) (n + 1) more ss ≡ Err fault
      → IsFaultyFrom (n + 1) ss fault)
      → (r : Result (Option A) EntryFault) → at n s ≡ r
      → over_stanzas (step same lower at file) n seen (s ∷ ss) ≡ Err fault
      → IsFaultyFrom n (s ∷ ss) fault
  unfolding over_stanzas
  faulty_by n seen s ss fault later (Err e) r is =
      let own : ◌≡◌ {A = Result (List A) ArchiveFault} (Err (at_stanza file n e)) (Err fault) =
      sym (rw r refl) ∙ is in
      let same_fault : at_stanza file n e ≡ fault = cc in
      let here : n ≡ n + 0 = omega arith in
      record {
        before = [];
        stanza = s;
        after = ss;
        parts = refl;
        items = [];
        fine = refl;
        own = e;
        faulty = ap (λ (k : ℕ). at k s) (sym here) ∙ r;
        named = sym same_fault ∙ ap (λ (k : ℕ). at_stanza file k e) here;
      }
  faulty_by n seen s ss fault later (Ok o) r is =
      later_faulty n s ss fault o r (later (put_some same lower seen o) (sym (rw r refl) ∙ is))

  faulty_from : (n : ℕ) (seen : List A) (ss : List (List Entry)) (fault : ArchiveFault)
      → over_stanzas (step same lower at file) n seen ss ≡ Err fault → IsFaultyFrom n ss fault
  unfolding over_stanzas
  faulty_from n seen [] fault is = absurd cc
  faulty_from n seen (s ∷ ss) fault is =
      faulty_by n seen s ss fault (λ more k. faulty_from (n + 1) more ss fault k) (at n s) refl is

  pub first_faulty : (ss : List (List Entry)) (fault : ArchiveFault)
      → over_stanzas (step same lower at file) 0 [] ss ≡ Err fault → IsFirstFaulty at file ss fault
  first_faulty ss fault is =
      let f = faulty_from 0 [] ss fault is in
      let here : 0 + length f.before ≡ length f.before = omega arith in
      record {
        before = f.before;
        stanza = f.stanza;
        after = f.after;
        parts = f.parts;
        items = f.items;
        fine = f.fine;
        own = f.own;
        faulty = ap (λ (k : ℕ). at k f.stanza) (sym here) ∙ f.faulty;
        named = f.named ∙ ap (λ (k : ℕ). at_stanza file k f.own) here;
      }

pub first_faulty_package : FirstFaultyPackageIsNamed
first_faulty_package table stanzas fault is =
    first_faulty same_package lower_package (binary_at table) Packages stanzas fault is

pub first_faulty_source : FirstFaultySourceIsNamed
first_faulty_source stanzas fault is =
    first_faulty same_source lower_source kept_source_at Sources stanzas fault is
