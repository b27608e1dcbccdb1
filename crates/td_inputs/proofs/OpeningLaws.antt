-- What is read of the texts one after the other, and for what none is opened.
use Rattle.std.proofs.Common.{◌≡◌, ℕ, List, [], length, Option, Some, None}
use Rattle.std.proofs.Common.{Result, Ok, Err, IfOk, IfErr, MatchResult}
use Rattle.std.proofs.Common.{refl, sym, ap, subst, ◌∙◌}
use Rattle.td_text.specs.Lines.{lines_of}
use Rattle.td_relation.specs.Arch.{ArchWords}
use Rattle.td_relation.specs.TableFile.{IsTable}
use Rattle.td_relation.specs.TableFile as table_file
use Rattle.td_relation.specs.declared.archs.ArchsFault.{ArchsFault}
use Rattle.td_relation.specs.declared.archs.ArchsFault.TheVariants as table
use Rattle.td_rows.specs.Overlay.{first_missing}
use Rattle.td_rows.specs.Table.{Table}
use Rattle.td_rows.proofs.Sorting.{table-same}
use Rattle.td_core.specs.Phases.{NoneBuilt}
use Rattle.td_indices.specs.Archive.{Contents, IsArchive, IsRead}
use Rattle.td_indices.specs.Archive as archive_file
use Rattle.td_indices.specs.declared.archive_fault.ArchiveFault.{ArchiveFault}
use Rattle.td_indices.specs.declared.archive_fault.ArchiveFault.TheVariants as archive
use Rattle.td_indices.proofs.CountingLaws.{greatest_sources}
use Rattle.td_indices.proofs.OpeningTables.{opened_of}
use Rattle.td_query.specs.TrackerFaults.{FaultOf, IsPatternFault, log_in}
use Rattle.td_query.specs.TrackerGrammar.{said_in}
use Rattle.td_query.specs.Tracking.{IsTracker, Tracking, tracking}
use Rattle.td_query.specs.declared.tracker_fault.TrackerFault.{TrackerFault}
use Rattle.td_query.specs.declared.tracker_fault.TrackerFault.TheVariants as tracker
use Rattle.td_inputs.specs.declared.form_fault.FormFault.{FormFault}
use Rattle.td_inputs.specs.declared.form_fault.FormFault.TheVariants as form
use Rattle.td_inputs.specs.declared.open_fault.OpenFault.{OpenFault}
use Rattle.td_inputs.specs.declared.open_fault.OpenFault.TheVariants.{Refused, NoMemory}
use Rattle.td_inputs.specs.Inputs.{AreOpened, AreRowsOf, IsArchiveOf, IsReadableOver}
use Rattle.td_inputs.specs.Inputs.{IsRefused, IsTrackerIfGiven, Texts}
use Rattle.td_inputs.specs.Opened.{AreGivenRows, IsGivenTracker, IsOpened, IsPatternOf}
use Rattle.td_inputs.specs.Opened.{IsUnopened, MayFail, OrMemory, of_form}
use Rattle.td_inputs.specs.declared.opened.GivenTracker.{GivenTracker}
use Rattle.td_inputs.specs.declared.opened.Opened.{Opened}
use Rattle.td_inputs.specs.inner.Reading.{IsArchiveAt, IsOnlyArchive, IsOnlyTable, IsOpenedOver}
use Rattle.td_inputs.specs.inner.Reading.{IsStateRefused, Stops, StopsAtIndices, StopsAtRows}
use Rattle.td_inputs.specs.inner.Reading.{StopsAtTable, StopsAtTracker, StopsOver}
use Rattle.td_inputs.specs.inner.StateOver.{CanReplace, IsRefusedIn, IsReplacedIn}

-- ---- 1. the table

no_table : (x : Texts) (e : ArchsFault) → table_file.FaultOf (lines_of x.archs) e
    → IsUnopened x (of_form (form.Table e))
no_table x (table.BadLine n) h = h
no_table x (table.Twice n) h = h
no_table x table.TooMany h = h
no_table x table.NoMemory h = tt

pub stops_at_table : (archs : List ℕ) (e : ArchsFault) (f : OpenFault)
    → table_file.FaultOf (lines_of archs) e
    → ((t : List ArchWords) → IsTable (lines_of archs) t → e ≡ table.NoMemory)
    → f ≡ of_form (form.Table e) → StopsAtTable archs f
stops_at_table archs e f fault only is = record {
  refused = λ x same.
      subst (IsUnopened x) (sym is)
      (no_table x e (subst (λ l. table_file.FaultOf (lines_of l) e) (sym same) fault));
  only = λ x same readable. is ∙ ap (λ (y : ArchsFault). of_form (form.Table y))
      (only readable.0.table
      (subst (λ l. IsTable (lines_of l) readable.0.table) same readable.1.is_table));
}

-- a table that was read is the only one of its text
pub table_read : {A : Type 0} (archs : List ℕ) (view : A → List ArchWords)
    (read : Result A ArchsFault) → IfOk read (λ a. IsTable (lines_of archs) (view a))
    → ((t : List ArchWords) → IsTable (lines_of archs) t
    → MatchResult read (λ a. view a ≡ t) (λ e. e ≡ table.NoMemory))
    → IfOk read (λ a. IsOnlyTable (lines_of archs) (view a))
table_read archs view (Ok a) found only = record { is = found; only = only }
table_read archs view (Err e) found only = tt

-- a fault of a table stops its text
pub table_unread : {A : Type 0} (archs : List ℕ) (view : A → List ArchWords)
    (read : Result A ArchsFault) → IfErr read (table_file.FaultOf (lines_of archs))
    → ((t : List ArchWords) → IsTable (lines_of archs) t
    → MatchResult read (λ a. view a ≡ t) (λ e. e ≡ table.NoMemory))
    → IfErr read (λ e. StopsAtTable archs (of_form (form.Table e)))
table_unread archs view (Ok a) fault only = tt
table_unread archs view (Err e) fault only = stops_at_table archs e _ fault only refl

-- ---- 2. the indices

-- texts are an archive with the table that their own is
archive_at : (x : Texts) (t : List ArchWords) (c : Contents) → IsTable (lines_of x.archs) t
    → IsArchive t (lines_of x.packages) (lines_of x.sources) c → IsArchiveOf x c
archive_at x t c is_table is = record {
  is_table = subst (IsTable (lines_of x.archs)) (sym is.same_table) is_table;
  is_archive = subst (λ u. IsArchive u (lines_of x.packages) (lines_of x.sources) c)
      (sym is.same_table) is;
}

-- an archive that texts are, with the only table that their own is
with_table : (x : Texts) (t : List ArchWords) (c : Contents) → IsOnlyTable (lines_of x.archs) t
    → IsArchiveOf x c → IsArchive t (lines_of x.packages) (lines_of x.sources) c
with_table x t c only is =
    subst (λ u. IsArchive u (lines_of x.packages) (lines_of x.sources) c)
    (sym (only.only c.table is.is_table)) is.is_archive

-- indices that were lent are those of the texts
moved : (Is : List (List ℕ) → List (List ℕ) → Type 0) (p q s u : List ℕ) → p ≡ q → s ≡ u
    → Is (lines_of p) (lines_of s) → Is (lines_of q) (lines_of u)
moved Is p q s u first second is =
    subst (λ l. Is (lines_of q) (lines_of l)) second
    (subst (λ l. Is (lines_of l) (lines_of s)) first is)

pub is_archive_at : (t : List ArchWords) (p s : List ℕ) (c : Contents)
    → IsArchive t (lines_of p) (lines_of s) c
    → ((d : Contents) → IsArchive t (lines_of p) (lines_of s) d → c ≡ d) → IsArchiveAt t p s c
is_archive_at t p s c is only x archs first second = record {
  is = archive_at x t c archs.is
      (moved (λ l m. IsArchive t l m c) p x.packages s x.sources (sym first) (sym second) is);
  only = λ d other. only d
      (moved (λ l m. IsArchive t l m d) x.packages p x.sources s first second
      (with_table x t d archs other));
}

no_archive : (x : Texts) (t : List ArchWords) (e : ArchiveFault) → IsTable (lines_of x.archs) t
    → archive_file.FaultOf t (lines_of x.packages) (lines_of x.sources) e
    → IsUnopened x (of_form (form.Archive e))
no_archive x t (archive.Stanza f e) is h = (t, is, h)
no_archive x t (archive.MissingField f n field) is h = (t, is, h)
no_archive x t (archive.BadVersion f n field) is h = (t, is, h)
no_archive x t (archive.BadRelation f n field) is h = (t, is, h)
no_archive x t archive.TooManyRows is h = (t, is, h)
no_archive x t archive.NoMemory is h = tt

pub stops_at_indices : (t : List ArchWords) (p s : List ℕ) (e : ArchiveFault) (f : OpenFault)
    → archive_file.FaultOf t (lines_of p) (lines_of s) e
    → ((c : Contents) → IsArchive t (lines_of p) (lines_of s) c → e ≡ archive.NoMemory)
    → f ≡ of_form (form.Archive e) → StopsAtIndices t p s f
stops_at_indices t p s e f fault only is = record {
  refused = λ x archs first second.
      subst (IsUnopened x) (sym is)
      (no_archive x t e archs.is
      (moved (λ l m. archive_file.FaultOf t l m e) p x.packages s x.sources (sym first)
      (sym second) fault));
  only = λ x archs first second readable.
      is ∙ ap (λ (y : ArchiveFault). of_form (form.Archive y)) (only readable.0
      (moved (λ l m. IsArchive t l m readable.0) x.packages p x.sources s first second
      (with_table x t readable.0 archs readable.1)));
}

-- an archive that was read is that of the texts
pub archive_read : (t : List ArchWords) (p s : List ℕ) (read : Result Contents ArchiveFault)
    → IsRead t (lines_of p) (lines_of s) read → IfOk read (IsArchiveAt t p s)
archive_read t p s (Ok c) is = is_archive_at t p s c is.found is.only
archive_read t p s (Err e) is = tt

-- a fault of the indices stops the texts
pub archive_unread : (t : List ArchWords) (p s : List ℕ) (read : Result Contents ArchiveFault)
    → IsRead t (lines_of p) (lines_of s) read
    → IfErr read (λ e. StopsAtIndices t p s (of_form (form.Archive e)))
archive_unread t p s (Ok c) is = tt
archive_unread t p s (Err e) is = stops_at_indices t p s e _ is.fault is.only refl

-- ---- 3. the rows

-- an archive that texts are has opening rows
pub rows_there : (x : Texts) (c : Contents) → IsArchiveOf x c → (rows : Table) × AreOpened c rows
rows_there x c is =
    let names = greatest_sources c.source_stanzas c.sources is.is_archive.sources in
    let none = opened_of c [] [] is.is_table.fresh names.2.apart refl (λ k. refl) in
    (none.all, record { same = none.opened; rising = none.rising })

-- the rows of an archive are one table
pub opened_same : (c : Contents) (t u : Table) → AreOpened c t → AreOpened c u → t ≡ u
opened_same c t u one two =
    table-same t u one.rising two.rising (λ k. one.same k ∙ sym (two.same k))

state_refused : (c : Contents) (rows : Table) (text : List ℕ) → AreOpened c rows → (e : FormFault)
    → IsRefusedIn rows text e → IsStateRefused c (Some text) e
state_refused c rows text opened (form.Table e) is = absurd is
state_refused c rows text opened (form.Archive e) is = absurd is
state_refused c rows text opened (form.State e) is = is
state_refused c rows text opened (form.NoSuchRow n) is = (rows, opened, is)
state_refused c rows text opened (form.Tracker e) is = absurd is
state_refused c rows text opened (form.Journal e) is = absurd is

-- what holds of each fault of a text holds also if memory may have run out
pub of_each : (P Q : FormFault → Type 0) → ((i : FormFault) → P i → Q i) → (e : OpenFault)
    → OrMemory P e → OrMemory Q e
of_each P Q each (Refused i) h = each i h
of_each P Q each NoMemory h = h

pub replaced_rows : (c : Contents) (rows : Table) (state : Option (List ℕ)) (text : List ℕ)
    (new : Table) → AreOpened c rows → state ≡ Some text → IsReplacedIn rows text new
    → NoneBuilt new → AreGivenRows c state (Some new)
replaced_rows c rows state text new opened is put idle =
    subst (λ (o : Option (List ℕ)). AreGivenRows c o (Some new)) (sym is) (
      record {
        opened = rows;
        are_opened = opened;
        given = put.given;
        are_given = put.are_given;
        none_missing = put.none_missing;
        replaced = put.replaced;
      },
      idle,
    )

pub stops_at_rows : (c : Contents) (rows : Table) (state : Option (List ℕ)) (text : List ℕ)
    (e : OpenFault) → AreOpened c rows → state ≡ Some text → OrMemory (IsRefusedIn rows text) e
    → (CanReplace rows text → e ≡ NoMemory) → StopsAtRows c state e
stops_at_rows c rows state text e opened is refused only =
    subst (λ (o : Option (List ℕ)). StopsAtRows c o e) (sym is) (record {
      refused = of_each (IsRefusedIn rows text) (IsStateRefused c (Some text))
          (state_refused c rows text opened) e refused;
      only = λ t replaced.
          only (
            replaced.given,
            replaced.are_given,
            λ k missing. replaced.none_missing k
                (subst (λ o. first_missing o replaced.given ≡ Some k)
                (opened_same c rows replaced.opened opened replaced.are_opened) missing),
          );
    })

-- rows that a state file was put over are those of the archive with it
pub rows_put : (c : Contents) (rows : Table) (state : Option (List ℕ)) (text : List ℕ)
    (put : Result Table OpenFault) → AreOpened c rows → state ≡ Some text
    → IfOk put (IsReplacedIn rows text) → IfOk put NoneBuilt
    → IfOk put (λ new. AreGivenRows c state (Some new))
rows_put c rows state text (Ok new) opened is replaced idle =
    replaced_rows c rows state text new opened is replaced idle
rows_put c rows state text (Err e) opened is replaced idle = tt

-- a fault of a state file stops the texts
pub rows_unput : (c : Contents) (rows : Table) (state : Option (List ℕ)) (text : List ℕ)
    (put : Result Table OpenFault) → AreOpened c rows → state ≡ Some text
    → IfErr put (OrMemory (IsRefusedIn rows text))
    → IfErr put (λ e. CanReplace rows text → e ≡ NoMemory) → IfErr put (StopsAtRows c state)
rows_unput c rows state text (Ok new) opened is refused only = tt
rows_unput c rows state text (Err e) opened is refused only =
    stops_at_rows c rows state text e opened is refused only

pub memory_at_rows : (c : Contents) (state : Option (List ℕ)) → StopsAtRows c state NoMemory
memory_at_rows c state = record { refused = tt; only = λ rows are. refl }

-- the rows that are given are those of the archive; if none are, it has some
pub rows_given : (x : Texts) (c : Contents) (state : Option (List ℕ)) (rows : Option Table)
    → IsArchiveOf x c → AreGivenRows c state rows → (t : Table) × AreRowsOf c state t
rows_given x c None None is given = rows_there x c is
rows_given x c None (Some t) is given = absurd given
rows_given x c (Some text) None is given = absurd given
rows_given x c (Some text) (Some t) is given = (t, given.0)

-- ---- 4. the tracker

tracker_refused : (x : Texts) (c : Contents) (rows : Table) (text : List ℕ) → IsArchiveOf x c
    → AreRowsOf c x.state rows → x.tracker ≡ Some text → (e : TrackerFault) → FaultOf text e
    → IsUnopened x (of_form (form.Tracker e))
tracker_refused x c rows text archive are is (tracker.Syntax place) h =
    (c, archive, (rows, are, rw is h))
tracker_refused x c rows text archive are is (tracker.BadPattern place) h =
    (c, archive, (rows, are, rw is h))
tracker_refused x c rows text archive are is (tracker.MissingKey key) h =
    (c, archive, (rows, are, rw is h))
tracker_refused x c rows text archive are is tracker.NoMemory h = tt

pattern_refused : (text : List ℕ) (e : TrackerFault)
    → IsPatternFault (length text) (log_in (said_in text)) e
    → OrMemory (IsPatternOf (Some text)) (of_form (form.Tracker e))
pattern_refused text (tracker.Syntax place) h = absurd h
pattern_refused text (tracker.BadPattern place) h = h
pattern_refused text (tracker.MissingKey key) h = absurd h
pattern_refused text tracker.NoMemory h = tt

pub stops_at_tracker : (given : Option (List ℕ)) (text : List ℕ) (e : TrackerFault) (f : OpenFault)
    → given ≡ Some text → FaultOf text e
    → ((t : Tracking) → IsTracker text t → IsPatternFault (length text) (log_in (said_in text)) e)
    → f ≡ of_form (form.Tracker e) → StopsAtTracker given f
stops_at_tracker given text e f same fault only is = record {
  refused = λ x c rows its archive are.
      subst (IsUnopened x) (sym is)
      (tracker_refused x c rows text archive are (its ∙ same) e fault);
  only = λ x its readable.
      let there = subst IsTrackerIfGiven (its ∙ same) readable.2.tracker in
      subst (λ (o : Option (List ℕ)). OrMemory (IsPatternOf o) f) (sym same)
      (subst (OrMemory (IsPatternOf (Some text))) (sym is)
      (pattern_refused text e (only there.0 there.1)));
}

-- a fault of a tracker stops the texts
pub tracker_unread : {A : Type 0} (given : Option (List ℕ)) (text : List ℕ)
    (read : Result A TrackerFault) → given ≡ Some text → IfErr read (FaultOf text)
    → ((t : Tracking) → IsTracker text t
    → IfErr read (IsPatternFault (length text) (log_in (said_in text))))
    → IfErr read (λ e. StopsAtTracker given (of_form (form.Tracker e)))
tracker_unread given text (Ok a) same fault only = tt
tracker_unread given text (Err e) same fault only =
    stops_at_tracker given text e _ same fault only refl

-- ---- 5. what stops texts that are read so far

memory_fails : (x : Texts) (e : OpenFault) → e ≡ NoMemory → MayFail x e
memory_fails x e is = subst (MayFail x) (sym is) tt

pub at_table : (x : Texts) (e : OpenFault) → StopsAtTable x.archs e → Stops x e
at_table x e stops = record {
  refused = stops.refused x refl;
  only = λ readable. memory_fails x e (stops.only x refl readable);
}

pub at_indices : (x : Texts) (t : List ArchWords) (e : OpenFault)
    → IsOnlyTable (lines_of x.archs) t → StopsAtIndices t x.packages x.sources e → Stops x e
at_indices x t e archs stops = record {
  refused = stops.refused x archs refl refl;
  only = λ readable. memory_fails x e (stops.only x archs refl refl readable);
}

rows_refused : (x : Texts) (c : Contents) → IsArchiveOf x c → (e : FormFault)
    → IsStateRefused c x.state e → IsRefused x e
rows_refused x c is (form.Table e) h = absurd h
rows_refused x c is (form.Archive e) h = absurd h
rows_refused x c is (form.State e) h = (c, is, h)
rows_refused x c is (form.NoSuchRow n) h = (c, is, h)
rows_refused x c is (form.Tracker e) h = absurd h
rows_refused x c is (form.Journal e) h = absurd h

pub at_rows : (x : Texts) (c : Contents) (e : OpenFault) → IsOnlyArchive x c
    → StopsAtRows c x.state e → Stops x e
at_rows x c e archive stops = record {
  refused = of_each (IsStateRefused c x.state) (IsRefused x) (rows_refused x c archive.is) e
      stops.refused;
  only = λ readable.
      let over = subst (λ d. IsReadableOver d x) (sym (archive.only readable.0 readable.1))
      readable.2 in
      memory_fails x e (stops.only over.rows over.are_rows);
}

pub at_tracker : (x : Texts) (c : Contents) (rows : Option Table) (e : OpenFault)
    → IsOnlyArchive x c → AreGivenRows c x.state rows → StopsAtTracker x.tracker e → Stops x e
at_tracker x c rows e archive given stops =
    let there = rows_given x c x.state rows archive.is given in
    record {
      refused = stops.refused x c there.0 refl archive.is there.1;
      only = λ readable. stops.only x refl readable;
    }

-- texts that are this archive are stopped by their state file, or by their tracker
pub stopped_at_rows : (c : Contents) (state tracker : Option (List ℕ)) (e : OpenFault)
    → StopsAtRows c state e → StopsOver c state tracker e
stopped_at_rows c state tracker e stops x archive its own =
    at_rows x c e archive (subst (λ (o : Option (List ℕ)). StopsAtRows c o e) (sym its) stops)

pub stopped_at_tracker : (c : Contents) (state tracker : Option (List ℕ)) (rows : Option Table)
    (e : OpenFault) → AreGivenRows c state rows → StopsAtTracker tracker e
    → StopsOver c state tracker e
stopped_at_tracker c state tracker rows e given stops x archive its own =
    at_tracker x c rows e archive
    (subst (λ (o : Option (List ℕ)). AreGivenRows c o rows) (sym its) given)
    (subst (λ (o : Option (List ℕ)). StopsAtTracker o e) (sym own) stops)

-- ---- 6. what is lent

-- over the archive that texts are, what is lent is what they say
pub is_opened : (x : Texts) (c : Contents) (o : Opened) → IsOnlyArchive x c
    → IsOpenedOver c x.state x.tracker o → IsOpened x o
is_opened x c o archive over = record {
  archive = subst (IsArchiveOf x) (sym over.archive) archive.is;
  only = λ d is. over.archive ∙ archive.only d is;
  rows = subst (λ d. AreGivenRows d x.state o.rows) (sym over.archive) over.rows;
  tracker = over.tracker;
}

pub tracker_given : (given : Option (List ℕ)) (text : List ℕ) (t : GivenTracker)
    → given ≡ Some text → t.text.now ≡ text → IsTracker text (tracking t.tracker)
    → IsGivenTracker given (Some t)
tracker_given given text t same own is =
    subst (λ (o : Option (List ℕ)). IsGivenTracker o (Some t)) (sym same) (own, is)

-- a tracker that is lent is that of the text that is lent with it
pub tracker_of_text : (given : Option (List ℕ)) (t : GivenTracker) → IsGivenTracker given (Some t)
    → IsTracker t.text.now (tracking t.tracker)
tracker_of_text None t is = absurd is
tracker_of_text (Some text) t is =
    subst (λ l. IsTracker l (tracking t.tracker)) (sym is.0) is.1
