-- The version under which a due row's package arrives is above the package's own in the index.
use Rattle.std.proofs.Common.{◌≡◌, ◌⊎◌, ℕ, ◌<◌, ◌≤◌, ◌&&◌, true, false, Option, Some, None}
use Rattle.std.proofs.Common.{filter, length, refl, sym, ap, ◌∙◌, inl, inr, arith}
use Rattle.std.specs.Prelude.{is_some}
use Rattle.std.specs.List.{Contains}
use Rattle.std.specs.Ordering.{is_ge}
use Rattle.std.specs.declared.cmp.Ordering.TheVariants.{Less}
use Rattle.std.proofs.lemmas.Bool.{and_parts, cond-true}
use Rattle.std.proofs.lemmas.List.Elements.{Contains-append_right}
use Rattle.td_text.proofs.Chain.{some_is}
use Rattle.td_version.specs.Base.{base_of}
use Rattle.td_version.specs.Grammar.{IsVersion}
use Rattle.td_version.specs.Order.{same_version, version_cmp}
use Rattle.td_version.specs.Version.{Parts}
use Rattle.td_supply.specs.Supplied.{with_rebuild}
use Rattle.td_indices.specs.Archive.{is_of}
use Rattle.td_indices.specs.Kept.{KeptBinary}
use Rattle.td_indices.specs.OfferLaws.{IsItself, IsProvidedBy}
use Rattle.td_indices.specs.Opening.{current_numbers, is_current, rebuild_number}
use Rattle.td_indices.specs.Sources.{KeptSource}
use Rattle.td_indices.proofs.KeptStanzas.{binary_kept}
use Rattle.td_indices.proofs.OfferLaws.{has_again, offers_are_exact}
use Rattle.td_indices.proofs.SourceStanzas.{binary_found}
use Rattle.td_plan.specs.Due.{arrival_number, has_number, is_due, is_present, is_ready, number_of}
use Rattle.td_plan.specs.Numbers.{number_if, numbers_at, numbers_where}
use Rattle.td_plan.specs.Packages.{arrival_base, present_package}
use Rattle.td_plan.specs.Placing.{Placing}
use Rattle.td_plan.specs.Premises.{AreSound, Premises, places, row_at}
use Rattle.td_plan.specs.Reasons.{is_exactly}
use Rattle.td_plan.specs.SoundLaws.{WasRead}
use Rattle.td_plan.specs.WaitLaws.{DueVersionsAreNew, IsInIndex, IsPlanned}
use Rattle.td_plan.specs.Waits.{Wait, wait_of, wait_with}
use Rattle.td_plan.proofs.AlwaysWaited.{present-some}
use Rattle.td_plan.proofs.Chosen.{filter-again, map-again}
use Rattle.td_plan.proofs.Freed.{IsWaitedFor, home-is, present-has, written-is}
use Rattle.td_plan.proofs.Held.{arrival-within, rebuilds-rise, same-is}
use Rattle.td_plan.proofs.LeastNumbers.{numbers_are_least}
use Rattle.td_plan.proofs.Named.{placed-at}
use Rattle.td_plan.proofs.OwnNumbers.{own-number}
use Rattle.td_plan.proofs.SoundArchives.{one-package}
use Rattle.td_plan.proofs.ToldOnce.{place-among}

-- ---- 1. the package that is waited for is present

-- the package that a row waits for, of the present version of a source whose row is due
record IsPresentWait (p : Premises) (t : KeptSource) (place : ℕ) (w : Wait) : Type 0 where
  pub waited : IsWaitedFor p t place w
  pub present : is_present t place waited.binary ≡ true

module _ (p : Premises) (s t : KeptSource) (place : ℕ) (w : Wait)
    (due : is_due p t place ≡ true) where
  by_some : (o : Option KeptBinary) → present_package p.archive s t place ≡ o
      → is_some o ≡ true → wait_with p s t place o ≡ Some w → IsPresentWait p t place w
  by_some None e some h = absurd (let bad : false ≡ true = some in cc)
  by_some (Some b) e some h =
      let has = present-has p s t place w b e in
      let own = and_parts (is_of t.head.name b) (is_current t.head.parts place b) has.1 in
      let here = (and_parts (is_exactly place b)
      (same_version b.head.source_parts t.head.parts) own.1).0 in
      let r = written-is t b (arrival_base t b) (arrival_number p t place) false w h in
      record {
        waited = record {
          binary = b;
          kept = has.0;
          own = own.0;
          there = home-is b.head.home place here;
          name = r.0;
          parts = r.1;
        };
        present = has.1;
      }

  present-wait : wait_of p s place t ≡ Some w → IsPresentWait p t place w
  present-wait h = by_some (present_package p.archive s t place) refl
      (present-some p s t place due) h

-- ---- 2. its own number is lower

module _ (p : Premises) (t : KeptSource) (place : ℕ) (b : KeptBinary)
    (low : place < length p.archive.table) (due : is_due p t place ≡ true)
    (kept : Contains p.archive.binaries b) (present : is_present t place b ≡ true) where
  number-lower : rebuild_number b.head.version < arrival_number p t place
  number-lower =
      let ready = (and_parts (has_number p t) (is_ready p t place) due).1 in
      let current : Contains (current_numbers p.archive t place) (rebuild_number b.head.version) =
      map-again (λ (c : KeptBinary). rebuild_number c.head.version)
      (filter (λ (c : KeptBinary). is_of t.head.name c && is_current t.head.parts place c)
      p.archive.binaries) b
      (filter-again (λ (c : KeptBinary). is_of t.head.name c && is_current t.head.parts place c)
      p.archive.binaries b kept present) in
      let has : Contains (numbers_where (is_ready p t) p t) (rebuild_number b.head.version) =
      has_again (numbers_at p t) (filter (is_ready p t) (places p)) place
      (rebuild_number b.head.version)
      (filter-again (is_ready p t) (places p) place
      (place-among (length p.archive.table) place low) ready)
      (Contains-append_right (number_if (row_at p t place)) (current_numbers p.archive t place)
      (rebuild_number b.head.version) current) in
      let below : rebuild_number b.head.version < number_of p t =
      (numbers_are_least (is_ready p t) p t).0.rebuilt (rebuild_number b.head.version) has in
      let same : arrival_number p t place ≡ number_of p t =
      cond-true (is_due p t place) (number_of p t) _ due in
      omega arith

  version-lower : AreSound p → IsVersion b.head.version b.head.parts
      → version_cmp b.head.parts (with_rebuild (arrival_base t b) (arrival_number p t place))
      ≡ Less
  version-lower sound v =
      let n = arrival_number p t place in
      let current = (and_parts (is_of t.head.name b) (is_current t.head.parts place b) present).1 in
      let same = (and_parts (is_exactly place b)
      (same_version b.head.source_parts t.head.parts) current).1 in
      let base : arrival_base t b ≡ base_of b.head.parts =
      cond-true (same_version b.head.source_parts t.head.parts) (base_of b.head.parts) t.head.parts
      same in
      let own = own-number b.head.version b.head.parts v in
      let within : own.number ≤ rebuild_number b.head.version = own.within in
      let below : rebuild_number b.head.version < n = number-lower in
      let limit : n ≤ 9999 = arrival-within p sound t place in
      ap (λ (x : Parts). version_cmp x (with_rebuild (arrival_base t b) n)) own.is
      ∙ ap (λ (x : Parts). version_cmp (with_rebuild (base_of b.head.parts) own.number)
      (with_rebuild x n)) base
      ∙ rebuilds-rise (base_of b.head.parts) own.number n (omega arith) (omega arith)

-- ---- 3. the law

module _ (p : Premises) (x : Placing) (s t : KeptSource) (place : ℕ) (w : Wait)
    (read : WasRead p.archive) (planned : IsPlanned p x t place)
    (is : wait_of p s place t ≡ Some w) (i : IsInIndex p place w) where
  -- the awaited package itself isn't in the index in the version that is waited for
  own-fails : (k : ℕ) → i.offer.arch ≡ Some k → (c : KeptBinary) → Contains p.archive.binaries c
      → IsItself p.archive c i.offer → ⊥
  own-fails k at c has own =
      let a = p.archive in
      let r = present-wait p s t place w planned.due is in
      let b = r.waited.binary in
      let kept = r.waited.kept in
      let same : b ≡ c = same-is p t place w (one-package a read) r.waited i.offer i.name i.there k
      at c has own in
      let version : Some c.head.parts ≡ Some i.version = sym own.version ∙ i.has in
      let stanza = binary_kept a.table a.packages a.binaries kept.0 b read.is_archive.binaries
      (placed-at a.binaries b kept) in
      let found = binary_found a.table b.stanza stanza.fields b stanza.kept in
      let less : version_cmp i.version w.parts ≡ Less =
      ap (λ (v : Parts). version_cmp v w.parts) (sym (some_is c.head.parts i.version version))
      ∙ ap (λ (d : KeptBinary). version_cmp d.head.parts w.parts) (sym same)
      ∙ ap (version_cmp b.head.parts) r.waited.parts
      ∙ version-lower p t place b planned.there planned.due kept r.present planned.sound
      found.head.readable in
      let bad : false ≡ true = sym (ap is_ge less) ∙ i.late in cc

  offered-by : (o : Option ℕ) → i.offer.arch ≡ o → (c : KeptBinary)
      → Contains p.archive.binaries c → IsItself p.archive c i.offer ⊎ IsProvidedBy c i.offer
      → (i.offer.arch ≡ None)
      ⊎ ((b : KeptBinary) × Contains p.archive.binaries b × IsProvidedBy b i.offer)
  offered-by None at c has offered = inl at
  offered-by (Some k) at c has (inl own) = absurd (own-fails k at c has own)
  offered-by (Some k) at c has (inr provided) = inr (c, has, provided)

pub due_versions_are_new : DueVersionsAreNew
due_versions_are_new p x s t place w read planned is i =
    let comes = (offers_are_exact p.archive i.offer).0 i.offered in
    offered-by p x s t place w read planned is i i.offer.arch refl comes.binary comes.kept
    comes.offered
