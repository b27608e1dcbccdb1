-- What is read of the texts, layer by layer.
use Rattle.std.proofs.Common.{◌≡◌, ℕ, List, [], ◌∷◌, Option, Some, None, Result, Ok, Err, IfOk}
use Rattle.std.proofs.Common.{IfErr, refl, sym, ap, subst, ◌∙◌, map}
use Rattle.td_rows.specs.Table.{Table}
use Rattle.td_core.specs.Phases.{NoneBuilt}
use Rattle.td_indices.specs.Archive.{Contents}
use Rattle.td_indices.specs.Supplying.{supply_of}
use Rattle.td_supply.specs.Supplied.{Supplied, fresh}
use Rattle.td_supply.specs.Supply.{Stock, SupplyView, opened as opened_stock, stock_of}
use Rattle.td_query.specs.Tracking.{Tracking}
use Rattle.td_waves.specs.declared.level.Level.{Level}
use Rattle.td_report.specs.Transition.{AreLevels}
use Rattle.td_inputs.specs.declared.form_fault.FormFault.{FormFault}
use Rattle.td_inputs.specs.declared.form_fault.FormFault.TheVariants as fault
use Rattle.td_inputs.specs.declared.opened.GivenTracker.{GivenTracker}
use Rattle.td_inputs.specs.Inputs.{AreOpened, AreRowsOf, IsArchiveOf, IsRefused}
use Rattle.td_inputs.specs.Inputs.{IsTrackerIfGiven, Texts}
use Rattle.td_inputs.specs.Opened.{AreGivenRows, IsGivenTracker}
use Rattle.td_script.specs.declared.running.RunFault.{RunFault}
use Rattle.td_script.specs.declared.running.RunFault.TheVariants.{Input, Read, TooLong, NotText}
use Rattle.td_script.specs.declared.running.RunFault.TheVariants.{Write, NoMemory}
use Rattle.td_script.specs.declared.told.Told.{Told as ToldText}
use Rattle.td_script.specs.OpeningInside.{IsJournalRefused, IsToldFrom, IsTrackerOf, IsUntold}
use Rattle.td_script.specs.OpeningInside.{OfInput, TellsOrRefuses}
use Rattle.td_script.specs.Openings.{AreReports}
use Rattle.td_script.specs.Reporting.{report_with}
use Rattle.td_script.specs.Telling.{Telling}

-- ---- 1. faults

-- what holds of each fault of a text holds of a run that stops by one
pub of_each : (P Q : FormFault → Type 0) → ((i : FormFault) → P i → Q i) → (e : RunFault)
    → OfInput P e → OfInput Q e
of_each P Q each (Input i) h = each i h
of_each P Q each Read h = h
of_each P Q each TooLong h = h
of_each P Q each NotText h = h
of_each P Q each Write h = h
of_each P Q each NoMemory h = h

-- ---- 2. rows

pub given_are : (c : Contents) (state : Option (List ℕ)) (rows : Table)
    → AreGivenRows c state (Some rows) → AreRowsOf c state rows
given_are c None rows is = absurd is
given_are c (Some text) rows is = is.0

pub given_idle : (c : Contents) (state : Option (List ℕ)) (rows : Table)
    → AreGivenRows c state (Some rows) → NoneBuilt rows
given_idle c None rows is = absurd is
given_idle c (Some text) rows is = is.1

pub opened_are : (c : Contents) (state : Option (List ℕ)) (rows : Table) → AreOpened c rows
    → AreGivenRows c state None → AreRowsOf c state rows
opened_are c None rows opened is = opened
opened_are c (Some text) rows opened is = absurd is

-- ---- 3. what is answered

pub text_given : (given : Option (List ℕ)) (t : GivenTracker) → IsGivenTracker given (Some t)
    → given ≡ Some t.text.now
text_given None t is = absurd is
text_given (Some text) t is = ap Some (sym is.0)

pub none_given : (given : Option (List ℕ)) → IsGivenTracker given None → given ≡ None
none_given None is = refl
none_given (Some text) is = absurd is

offers-fresh : (xs : List Supplied) → map (λ i. i.offer) (map fresh xs) ≡ xs
offers-fresh [] = refl
offers-fresh (x ∷ xs) = ap (λ (l : List Supplied). x ∷ l) (offers-fresh xs)

pub stock-opened : (s : SupplyView) (k : Stock) → s ≡ opened_stock k → stock_of s ≡ k
stock-opened s k is =
    ap stock_of is ∙ ap (λ (l : List Supplied).
    record { table = k.table; sources = k.sources; offers = l }) (offers-fresh k.offers)

-- a supply before the first arrival is what its own stock opens
pub fresh_supply : (s : SupplyView) (k : Stock) → s ≡ opened_stock k → s ≡ opened_stock (stock_of s)
fresh_supply s k is = is ∙ ap opened_stock (sym (stock-opened s k is))

-- a journal that is refused over what the texts say is a refused text
untold : (x : Texts) (c : Contents) (rows : Table) → IsArchiveOf x c → AreRowsOf c x.state rows
    → IsTrackerIfGiven x.tracker → (e : FormFault) → IsJournalRefused rows x.journal e
    → IsRefused x e
untold x c rows archive are tracker (fault.Table e) h = absurd h
untold x c rows archive are tracker (fault.Archive e) h = absurd h
untold x c rows archive are tracker (fault.State e) h = absurd h
untold x c rows archive are tracker (fault.NoSuchRow number) h = absurd h
untold x c rows archive are tracker (fault.Tracker e) h = absurd h
untold x c rows archive are tracker (fault.Journal e) h = (c, archive, (rows, are, tracker, h))

-- the answers from these rows are answers over what the texts say
pub tells_from : (May : Telling) (x : Texts) (c : Contents) (report : Option (Table → List ℕ))
    (rows : Table) (text : List ℕ) (r : Result ToldText RunFault)
    → IfOk r (IsToldFrom May
    (record { stock = supply_of c; suites = x.suite ∷ []; report = report }) x.journal rows text)
    → IfErr r (IsUntold rows x.journal)
    → IsArchiveOf x c → AreRowsOf c x.state rows → AreReports c x.tracker report
    → IsTrackerIfGiven x.tracker → TellsOrRefuses May x text r
tells_from May x c report rows text (Ok told) is refused archive are reports tracker = (
  record { stock = supply_of c; suites = x.suite ∷ []; report = report },
  is.0,
  (
    c,
    archive,
    record {
      rows = rows;
      rows_are = are;
      begun = is.1;
      stock = refl;
      suites = refl;
      reports = reports;
    },
  ),
  is.2,
)
tells_from May x c report rows text (Err e) is refused archive are reports tracker =
    of_each (IsJournalRefused rows x.journal) (IsRefused x) (untold x c rows archive are tracker) e
    refused

pub tracker_given : (x : Texts) (t : Tracking) → IsTrackerOf x t → IsTrackerIfGiven x.tracker
tracker_given x t is = subst IsTrackerIfGiven (sym is.1) (t, is.2)

-- the reports of a tracker
pub tracker_reports : (x : Texts) (c a : Contents) (t u : Tracking) (level : List ℕ → Option Level)
    (depth : ℕ) (report : Table → List ℕ) → a ≡ c → u ≡ t → IsTrackerOf x t
    → AreLevels a u level depth → ((rows : Table) → report rows ≡ report_with a u level depth rows)
    → AreReports c x.tracker (Some report)
tracker_reports x c a t u level depth report same its is levels text =
    subst (λ (o : Option (List ℕ)). AreReports c o (Some report)) (sym is.1) (record {
      tracking = t;
      is_tracker = is.2;
      level = level;
      depth = depth;
      levels = subst (λ (y : Tracking). AreLevels c y level depth) its
          (subst (λ (y : Contents). AreLevels y u level depth) same levels);
      same = λ rows. text rows ∙ ap (λ (y : Contents). report_with y u level depth rows) same
          ∙ ap (λ (y : Tracking). report_with c y level depth rows) its;
    })
