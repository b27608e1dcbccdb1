-- Two texts have one fault, and none where they are an archive; what a reading of them comes to.
use Rattle.std.proofs.Common.{◌≡◌, ◌≢◌, ◌⊎◌, ℕ, ◌≤◌, true, false, List, Result, Ok, Err, nat_lt}
use Rattle.std.proofs.Common.{if◌then◌else◌, refl, sym, ap, ◌∙◌, inl, inr, arith}
use Rattle.std.specs.Prelude.{IfOk, IfErr, MatchResult}
use Rattle.std.proofs.lemmas.Bool.{lt-ltb}
use Rattle.td_text.specs.Lines.{on_ok}
use Rattle.td_stanza.specs.Field.{Entry}
use Rattle.td_stanza.specs.StanzaGrammar.{AreStanzas}
use Rattle.td_stanza.specs.StanzaFaults.{HasFault}
use Rattle.td_stanza.specs.declared.fault.StanzaFault.{StanzaFault}
use Rattle.td_stanza.proofs.Laws.{fault_same, stanzas_fine}
use Rattle.td_stanza.proofs.Shapes.{stanzas_same}
use Rattle.td_relation.specs.Arch.{ArchWords}
use Rattle.td_indices.specs.declared.archive_fault.ArchiveFault.{ArchiveFault}
use Rattle.td_indices.specs.declared.archive_fault.ArchiveFault.TheVariants.{Stanza, MissingField}
use Rattle.td_indices.specs.declared.archive_fault.ArchiveFault.TheVariants.{BadVersion}
use Rattle.td_indices.specs.declared.archive_fault.ArchiveFault.TheVariants.{BadRelation}
use Rattle.td_indices.specs.declared.archive_fault.ArchiveFault.TheVariants.{TooManyRows, NoMemory}
use Rattle.td_indices.specs.declared.archive_fault.IndexFile.TheVariants.{Packages, Sources}
use Rattle.td_indices.specs.Archive.{Contents, FaultOf, HasTooManyRows, IsArchive, IsRefusedFor}
use Rattle.td_indices.specs.Archive.{IsRead, IsStanzaFault}
use Rattle.td_indices.specs.Reading.{binaries_at, sources_at}
use Rattle.td_indices.specs.Rows.{row_count}
use Rattle.td_indices.specs.Kept.{KeptBinary}
use Rattle.td_indices.specs.Sources.{KeptSource}

-- what becomes of the stanzas of both texts
outcome : List ArchWords → List (List Entry) → List (List Entry)
    → Result (List KeptSource) ArchiveFault
outcome table ps ss =
    on_ok (binaries_at table ps)
    (λ bs. on_ok (sources_at ss)
    (λ ks. if nat_lt 1048576 (row_count table ks) then Err TooManyRows else Ok ks))

not_beyond : (n : ℕ) → n ≤ 1048576 → nat_lt 1048576 n ≡ false
not_beyond n h = grind arith

module _ (table : List ArchWords) (pl sl : List (List ℕ)) where
  record Packaged (e : ArchiveFault) : Type 0 where
    fault : StanzaFault
    has : HasFault fault pl
    is : e ≡ Stanza Packages fault

  record Sourced (e : ArchiveFault) : Type 0 where
    packages : List (List Entry)
    are : AreStanzas packages pl
    fault : StanzaFault
    has : HasFault fault sl
    is : e ≡ Stanza Sources fault

  record Whole (e : ArchiveFault) : Type 0 where
    packages : List (List Entry)
    sources : List (List Entry)
    packages_are : AreStanzas packages pl
    sources_are : AreStanzas sources sl
    gives : outcome table packages sources ≡ Err e

  abbrev Seen : ArchiveFault → Type 0
  Seen e = Packaged e ⊎ (Sourced e ⊎ Whole e)

  whole : (e : ArchiveFault) → IsStanzaFault table pl sl e → Seen e
  unfolding outcome
  whole e h = inr (inr (record {
    packages = h.package_list;
    sources = h.source_list;
    packages_are = h.package_stanzas;
    sources_are = h.source_stanzas;
    gives = elim h.faulty [
      | inl bad ↦ rw bad refl
      | inr later ↦ rw (later.1, later.2) refl
    ];
  }))

  many : HasTooManyRows table pl sl → Seen TooManyRows
  unfolding outcome
  many h =
      let beyond : nat_lt 1048576 (row_count table h.contents.sources) ≡ true =
      lt-ltb 1048576 (row_count table h.contents.sources) h.beyond in
      inr (inr (record {
        packages = h.contents.packages;
        sources = h.contents.source_stanzas;
        packages_are = h.package_stanzas;
        sources_are = h.source_stanzas;
        gives = rw (h.binaries, h.sources, beyond) refl;
      }))

  see : (e : ArchiveFault) → e ≢ NoMemory → FaultOf table pl sl e → Seen e
  see (Stanza Packages fault) n h = inl (record { fault = fault; has = h; is = refl })
  see (Stanza Sources fault) n h =
      inr (inl (record { packages = h.0; are = h.1; fault = fault; has = h.2; is = refl }))
  see (MissingField file number field) n h = whole (MissingField file number field) h
  see (BadVersion file number field) n h = whole (BadVersion file number field) h
  see (BadRelation file number field) n h = whole (BadRelation file number field) h
  see TooManyRows n h = many h
  see NoMemory n h = absurd (n refl)

  one_whole : (e d : ArchiveFault) → Whole e → Whole d → e ≡ d
  one_whole e d x y =
      let ps : x.packages ≡ y.packages =
      stanzas_same x.packages y.packages pl x.packages_are y.packages_are in
      let ss : x.sources ≡ y.sources =
      stanzas_same x.sources y.sources sl x.sources_are y.sources_are in
      let same : ◌≡◌ {A = Result (List KeptSource) ArchiveFault} (Err e) (Err d) =
      sym x.gives ∙ ap (λ (l : List (List Entry)). outcome table l x.sources) ps
      ∙ ap (outcome table y.packages) ss ∙ y.gives in
      cc

  one : (e d : ArchiveFault) → Seen e → Seen d → e ≡ d
  one e d (inl x) (inl y) =
      x.is ∙ ap (Stanza Packages) (fault_same x.fault y.fault pl x.has y.has) ∙ sym y.is
  one e d (inl x) (inr (inl y)) = absurd (stanzas_fine y.packages x.fault pl y.are x.has)
  one e d (inl x) (inr (inr y)) = absurd (stanzas_fine y.packages x.fault pl y.packages_are x.has)
  one e d (inr (inl x)) (inl y) = absurd (stanzas_fine x.packages y.fault pl x.are y.has)
  one e d (inr (inl x)) (inr (inl y)) =
      x.is ∙ ap (Stanza Sources) (fault_same x.fault y.fault sl x.has y.has) ∙ sym y.is
  one e d (inr (inl x)) (inr (inr y)) =
      absurd (stanzas_fine y.sources x.fault sl y.sources_are x.has)
  one e d (inr (inr x)) (inl y) = absurd (stanzas_fine x.packages y.fault pl x.packages_are y.has)
  one e d (inr (inr x)) (inr (inl y)) =
      absurd (stanzas_fine x.sources y.fault sl x.sources_are y.has)
  one e d (inr (inr x)) (inr (inr y)) = one_whole e d x y

  no_fault : (a : Contents) → IsArchive table pl sl a → (e : ArchiveFault) → Seen e → ⊥
  unfolding outcome
  no_fault a h e (inl x) = stanzas_fine a.packages x.fault pl h.package_stanzas x.has
  no_fault a h e (inr (inl x)) = stanzas_fine a.source_stanzas x.fault sl h.source_stanzas x.has
  no_fault a h e (inr (inr x)) =
      let within : nat_lt 1048576 (row_count table a.sources) ≡ false =
      not_beyond (row_count table a.sources) h.limited in
      let gives : outcome table a.packages a.source_stanzas ≡ Ok a.sources =
      rw (h.binaries, h.sources, within) refl in
      let ps : a.packages ≡ x.packages =
      stanzas_same a.packages x.packages pl h.package_stanzas x.packages_are in
      let ss : a.source_stanzas ≡ x.sources =
      stanzas_same a.source_stanzas x.sources sl h.source_stanzas x.sources_are in
      let same : ◌≡◌ {A = Result (List KeptSource) ArchiveFault} (Ok a.sources) (Err e) =
      sym gives ∙ ap (λ (l : List (List Entry)). outcome table l a.source_stanzas) ps
      ∙ ap (outcome table x.packages) ss ∙ x.gives in
      cc

  refused : (r : Result Contents ArchiveFault) → IfOk r (IsArchive table pl sl)
      → IfErr r (FaultOf table pl sl) → (fault : ArchiveFault) → fault ≢ NoMemory
      → FaultOf table pl sl fault → IsRefusedFor fault r
  refused (Ok a) h k fault n f = no_fault a h fault (see fault n f)
  refused (Err (Stanza file g)) h k fault n f =
      inr (one (Stanza file g) fault (see (Stanza file g) (λ e. cc) k) (see fault n f))
  refused (Err (MissingField file number field)) h k fault n f =
      inr (one (MissingField file number field) fault
      (see (MissingField file number field) (λ e. cc) k) (see fault n f))
  refused (Err (BadVersion file number field)) h k fault n f =
      inr (one (BadVersion file number field) fault
      (see (BadVersion file number field) (λ e. cc) k) (see fault n f))
  refused (Err (BadRelation file number field)) h k fault n f =
      inr (one (BadRelation file number field) fault
      (see (BadRelation file number field) (λ e. cc) k) (see fault n f))
  refused (Err TooManyRows) h k fault n f =
      inr (one TooManyRows fault (see TooManyRows (λ e. cc) k) (see fault n f))
  refused (Err NoMemory) h k fault n f = inl refl

  -- ---- two texts are one archive

  made : List ArchWords → List (List Entry) → List (List Entry) → List KeptBinary
      → List KeptSource → Contents
  made t ps ss bs ks =
      record { table = t; packages = ps; source_stanzas = ss; binaries = bs; sources = ks }

  ok_same : {A : Type 0} (x y : A) → ◌≡◌ {A = Result A ArchiveFault} (Ok x) (Ok y) → x ≡ y
  ok_same x y e = cc

  one_archive : (x a : Contents) → IsArchive table pl sl x → IsArchive table pl sl a → x ≡ a
  unfolding made
  one_archive x a h k =
      let ps : x.packages ≡ a.packages =
      stanzas_same x.packages a.packages pl h.package_stanzas k.package_stanzas in
      let ss : x.source_stanzas ≡ a.source_stanzas =
      stanzas_same x.source_stanzas a.source_stanzas sl h.source_stanzas k.source_stanzas in
      let bs : x.binaries ≡ a.binaries = ok_same x.binaries a.binaries
      (sym h.binaries ∙ ap (binaries_at table) ps ∙ k.binaries) in
      let ks : x.sources ≡ a.sources = ok_same x.sources a.sources
      (sym h.sources ∙ ap sources_at ss ∙ k.sources) in
      ap (λ (t : List ArchWords). made t x.packages x.source_stanzas x.binaries x.sources)
      (h.same_table ∙ sym k.same_table)
      ∙ ap (λ (l : List (List Entry)). made a.table l x.source_stanzas x.binaries x.sources) ps
      ∙ ap (λ (l : List (List Entry)). made a.table a.packages l x.binaries x.sources) ss
      ∙ ap (λ (l : List KeptBinary). made a.table a.packages a.source_stanzas l x.sources) bs
      ∙ ap (made a.table a.packages a.source_stanzas a.binaries) ks

  -- where they are an archive, no fault is seen
  fine : (a : Contents) → IsArchive table pl sl a → (e : ArchiveFault) → e ≢ NoMemory
      → FaultOf table pl sl e → ⊥
  fine a is e some h = no_fault a is e (see e some h)

  read_only : (r : Result Contents ArchiveFault) → IfOk r (IsArchive table pl sl)
      → IfErr r (FaultOf table pl sl) → (a : Contents) → IsArchive table pl sl a
      → MatchResult r (λ x. x ≡ a) (λ e. e ≡ NoMemory)
  read_only (Ok x) h k a is = one_archive x a h is
  read_only (Err (Stanza file g)) h k a is = absurd (fine a is (Stanza file g) (λ e. cc) k)
  read_only (Err (MissingField file number field)) h k a is =
      absurd (fine a is (MissingField file number field) (λ e. cc) k)
  read_only (Err (BadVersion file number field)) h k a is =
      absurd (fine a is (BadVersion file number field) (λ e. cc) k)
  read_only (Err (BadRelation file number field)) h k a is =
      absurd (fine a is (BadRelation file number field) (λ e. cc) k)
  read_only (Err TooManyRows) h k a is = absurd (fine a is TooManyRows (λ e. cc) k)
  read_only (Err NoMemory) h k a is = refl

  -- ---- so what is found of them, and the fault that they are refused for, say the rest

  pub is_read : (r : Result Contents ArchiveFault) → IfOk r (IsArchive table pl sl)
      → IfErr r (FaultOf table pl sl) → IsRead table pl sl r
  is_read r is bad =
      record { found = is; only = read_only r is bad; fault = bad; refused = refused r is bad }
