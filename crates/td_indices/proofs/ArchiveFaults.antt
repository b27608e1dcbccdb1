-- Why two texts are refused as an archive.
use Rattle.std.proofs.Common.{◌≡◌, ◌<◌, ◌⊎◌, ℕ, List, Result, Ok, Err, inl, inr, subst}
use Rattle.std.proofs.Common.{sym}
use Rattle.std.specs.Prelude.{IfErr}
use Rattle.td_rows.specs.Limits.{max_rows}
use Rattle.td_stanza.specs.Field.{Entry}
use Rattle.td_stanza.specs.StanzaGrammar.{AreStanzas}
use Rattle.td_relation.specs.Arch.{ArchWords}
use Rattle.td_indices.specs.declared.archive_fault.ArchiveFault.{ArchiveFault}
use Rattle.td_indices.specs.declared.archive_fault.ArchiveFault.TheVariants.{TooManyRows, NoMemory}
use Rattle.td_indices.specs.Archive.{FaultOf}
use Rattle.td_indices.specs.Kept.{KeptBinary}
use Rattle.td_indices.specs.Reading.{binaries_at, sources_at}
use Rattle.td_indices.specs.Rows.{row_count}
use Rattle.td_indices.specs.Sources.{KeptSource}

rows_fault : (table : List ArchWords) (ps ss : List (List Entry)) (bs : List KeptBinary)
    (ks : List KeptSource) (e : ArchiveFault)
    → (e ≡ NoMemory) ⊎ ((e ≡ TooManyRows) × (max_rows < row_count table ks))
    → binaries_at table ps ≡ Ok bs → sources_at ss ≡ Ok ks → (p s : List (List ℕ))
    → AreStanzas ps p → AreStanzas ss s → FaultOf table p s e
rows_fault table ps ss bs ks e (inl want) binaries sources p s front back =
    subst (FaultOf table p s) (sym want) tt
rows_fault table ps ss bs ks e (inr beyond) binaries sources p s front back =
    subst (FaultOf table p s) (sym beyond.0) (record {
      contents = record {
        table = table;
        packages = ps;
        source_stanzas = ss;
        binaries = bs;
        sources = ks;
      };
      package_stanzas = front;
      source_stanzas = back;
      binaries = binaries;
      sources = sources;
      beyond = beyond.1;
    })

-- the fault of rows that can't be counted, or of want of memory, where all stanzas are kept
pub counting_fault : {A : Type 0} (table : List ArchWords) (ps ss : List (List Entry))
    (bs : List KeptBinary) (ks : List KeptSource) (counted : Result A ArchiveFault)
    (e : ArchiveFault) → counted ≡ Err e
    → IfErr counted (λ d. (d ≡ NoMemory) ⊎ ((d ≡ TooManyRows) × (max_rows < row_count table ks)))
    → binaries_at table ps ≡ Ok bs → sources_at ss ≡ Ok ks → (p s : List (List ℕ))
    → AreStanzas ps p → AreStanzas ss s → FaultOf table p s e
counting_fault {A} table ps ss bs ks counted e is h =
    rows_fault table ps ss bs ks e
    (subst (λ (r : Result A ArchiveFault).
    IfErr r (λ d. (d ≡ NoMemory) ⊎ ((d ≡ TooManyRows) × (max_rows < row_count table ks)))) is h)
