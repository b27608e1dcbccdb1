-- The journal is judged last: what is refused without it is refused with it. A suite is no file's.
use Rattle.std.proofs.Common.{◌≡◌, ℕ, List, [], None, ap, ◌∙◌}
use Rattle.td_relation.specs.declared.archs.ArchsFault.{ArchsFault}
use Rattle.td_relation.specs.declared.archs.ArchsFault.TheVariants as table
use Rattle.td_indices.specs.Archive.{Contents}
use Rattle.td_indices.specs.declared.archive_fault.ArchiveFault.{ArchiveFault}
use Rattle.td_indices.specs.declared.archive_fault.ArchiveFault.TheVariants as archive
use Rattle.td_inputs.specs.declared.form_fault.FormFault.{FormFault}
use Rattle.td_inputs.specs.declared.form_fault.FormFault.TheVariants as fault
use Rattle.td_inputs.specs.declared.open_fault.OpenFault.{OpenFault}
use Rattle.td_inputs.specs.declared.open_fault.OpenFault.TheVariants.{Refused, NoMemory}
use Rattle.td_inputs.specs.Inputs.{AreNoIndices, AreReadable, IsArchiveOf, IsNoTable, IsRefused}
use Rattle.td_inputs.specs.Inputs.{Texts, without_journal}
use Rattle.td_inputs.specs.Opened.{IsUnopened, MayFail}
use Rattle.td_script.specs.declared.running.RunFault.{RunFault}
use Rattle.td_script.specs.OpeningInside.{IsRefusedBy, Stops, bare_texts, of_opening}
use Rattle.td_script.specs.OpeningInside.{opening_texts}
use Rattle.td_script.proofs.OpeningLaws.{of_each}

table_too : (x : Texts) (suite : List ℕ) (e : ArchsFault) → IsNoTable (bare_texts x suite) e
    → IsNoTable x e
table_too x suite (table.BadLine n) h = h
table_too x suite (table.Twice n) h = h
table_too x suite table.TooMany h = h
table_too x suite table.NoMemory h = h

indices_too : (x : Texts) (suite : List ℕ) (e : ArchiveFault)
    → AreNoIndices (bare_texts x suite) e → AreNoIndices x e
indices_too x suite (archive.Stanza f e) h = h
indices_too x suite (archive.MissingField f n field) h = h
indices_too x suite (archive.BadVersion f n field) h = h
indices_too x suite (archive.BadRelation f n field) h = h
indices_too x suite archive.TooManyRows h = h
indices_too x suite archive.NoMemory h = h

pub archive_too : (x : Texts) (suite : List ℕ) (c : Contents)
    → IsArchiveOf (bare_texts x suite) c → IsArchiveOf x c
archive_too x suite c is = record { is_table = is.is_table; is_archive = is.is_archive }

pub archive_bare : (x : Texts) (suite : List ℕ) (c : Contents) → IsArchiveOf x c
    → IsArchiveOf (bare_texts x suite) c
archive_bare x suite c is = record { is_table = is.is_table; is_archive = is.is_archive }

input_too : (x : Texts) (suite : List ℕ) (e : FormFault) → IsRefused (bare_texts x suite) e
    → IsRefused x e
input_too x suite (fault.Table e) h = table_too x suite e h
input_too x suite (fault.Archive e) h = indices_too x suite e h
input_too x suite (fault.State e) h = (h.0, archive_too x suite h.0 h.1, h.2)
input_too x suite (fault.NoSuchRow number) h = (h.0, archive_too x suite h.0 h.1, h.2)
input_too x suite (fault.Tracker e) h = (h.0, archive_too x suite h.0 h.1, h.2)
input_too x suite (fault.Journal e) h = absurd h.2.3

pub refused_too : (x : Texts) (e : RunFault) → IsRefusedBy (without_journal x) e → IsRefusedBy x e
refused_too x e h =
    of_each (IsRefused (without_journal x)) (IsRefused x) (input_too x x.suite) e h

readable_bare : (x : Texts) (suite : List ℕ) → AreReadable x → AreReadable (bare_texts x suite)
readable_bare x suite r = (
  r.0,
  archive_bare x suite r.0 r.1,
  record { rows = r.2.rows; are_rows = r.2.are_rows; tracker = r.2.tracker; journal = tt },
)

-- texts that are readable with a journal are readable without it
pub readable_without : (x : Texts) → AreReadable x → AreReadable (without_journal x)
readable_without x r = readable_bare x x.suite r

-- texts that aren't opened stop a run so
pub unopened_stops : (x : Texts) (e : OpenFault) → IsUnopened (opening_texts x) e
    → IsRefusedBy x (of_opening e)
unopened_stops x (Refused e) h = input_too x [] e h
unopened_stops x NoMemory h = tt

pub readable_stops : (x : Texts) (e : OpenFault)
    → (AreReadable (opening_texts x) → MayFail (opening_texts x) e) → AreReadable x
    → Stops x (of_opening e)
readable_stops x (Refused e) may readable = may (readable_bare x [] readable)
readable_stops x NoMemory may readable = tt

-- texts whose indices are those of a run
abbrev pub with_indices : Texts → List ℕ → List ℕ → Texts
with_indices x packages sources = record {
  archs = x.archs;
  packages = packages;
  sources = sources;
  state = x.state;
  tracker = x.tracker;
  journal = None;
  suite = [];
}

pub same_indices : (x : Texts) (packages sources : List ℕ) → packages ≡ x.packages
    → sources ≡ x.sources → with_indices x packages sources ≡ opening_texts x
same_indices x packages sources first second =
    ap (λ v. with_indices x v sources) first
    ∙ ap (λ v. with_indices x x.packages v) second
