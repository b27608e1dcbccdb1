-- How `track`, `waves` and `plan` end by what was read, and by what was found in it.
use Rattle.std.proofs.Common.{◌≡◌, ℕ, List, Option, None, Some, Result, Ok, Err}
use Rattle.std.proofs.Common.{IfOk, IfErr, IfSome, String, string_bytes}
use Rattle.std.proofs.Common.{inl, inr, refl, sym, ap, subst, ◌∙◌}
use Rattle.std.specs.Prelude.{option_copied}
use Rattle.std.specs.Borrow.{Bor}
use Rattle.std.specs.declared.alloc.Global.{Global}
use Rattle.td_text.specs.Lines.{text_of}
use Rattle.td_rows.specs.Table.{Table}
use Rattle.td_indices.specs.Archive.{Contents}
use Rattle.td_query.specs.Tracking.{IsTracker, Tracking, tracking}
use Rattle.td_query.specs.declared.tracker_fault.TrackerFault.TheVariants as tracker_fault
use Rattle.td_report.specs.OpeningRows.{StandForAll}
use Rattle.td_report.specs.Report.{lines_showing, waves_lines}
use Rattle.td_report.specs.TransitionView.{contents_of, tracking_of}
use Rattle.td_report.specs.declared.transition.Transition.{Transition}
use Rattle.td_inputs.specs.declared.role.Role.{Role}
use Rattle.td_inputs.specs.declared.role.Role.TheVariants.{Input, Archs, Packages, Sources, State}
use Rattle.td_inputs.specs.declared.role.Role.TheVariants.{Tracker, Outcomes, Journal}
use Rattle.td_inputs.specs.declared.form_fault.FormFault.TheVariants as form
use Rattle.td_inputs.specs.declared.open_fault.OpenFault.{OpenFault}
use Rattle.td_inputs.specs.declared.open_fault.OpenFault.TheVariants as opening
use Rattle.td_inputs.specs.declared.opened.GivenTracker.{GivenTracker}
use Rattle.td_inputs.specs.declared.opened.Opened.{Opened}
use Rattle.td_inputs.specs.Inputs as inputs
use Rattle.td_inputs.specs.Opened.{AreGivenRows, IsGivenTracker, IsOpened, IsPatternOf, IsUnopened}
use Rattle.td_inputs.specs.Opened.{MayFail}
use Rattle.td_inputs.specs.Opened as opened
use Rattle.td_inputs.proofs.OpeningLaws.{tracker_of_text}
use Rattle.td_bytes.specs.declared.text.TextFault.{TextFault}
use Rattle.td_tool.specs.declared.ending.Ending.{Ending}
use Rattle.td_tool.specs.declared.ending.Ending.TheVariants.{NoMemory}
use Rattle.td_tool.specs.Ending.{ending_of_opening}
use Rattle.td_tool.specs.Checks.{Files, HasFailed}
use Rattle.td_tool.specs.Tracks.{AreRefused, IsPatternRefused, RowsSay, Saying, Texts, as_script}
use Rattle.td_tool.specs.TrackInside.{AreLookedAt, GivenSays, OrMemory, Tells, listed_of}
use Rattle.td_tool.specs.declared.tracking.Listing.{Listing}
use Rattle.td_tool.specs.declared.tracking.Listing.TheVariants.{Report, Waves}

-- ---- a file that wasn't read

-- what has failed among the indices is one of them
pub index_fails : (files : Files) (Fails : Role → Type 0) (role : Role) (e : TextFault)
    → (HasFailed files Archs e → Fails Archs) → (HasFailed files Packages e → Fails Packages)
    → (HasFailed files Sources e → Fails Sources) → HasFailed files role e → Fails role
index_fails files Fails Input e archs packages sources failed = absurd failed.before
index_fails files Fails Archs e archs packages sources failed = archs failed
index_fails files Fails Packages e archs packages sources failed = packages failed
index_fails files Fails Sources e archs packages sources failed = sources failed
index_fails files Fails State e archs packages sources failed = absurd failed.before
index_fails files Fails Tracker e archs packages sources failed = absurd failed.before
index_fails files Fails Outcomes e archs packages sources failed = absurd failed.before
index_fails files Fails Journal e archs packages sources failed = absurd failed.before

-- ---- texts

-- what a text says of an archive and a tracker it says of equal ones
pub told_of : (Says : Saying) (c d : Contents) (t u : Tracking) (rows : Table) (text : List ℕ)
    → c ≡ d → t ≡ u → Says c t rows text → Says d u rows text
told_of Says c d t u rows text first second says =
    subst (λ x. Says d x rows text) second (subst (λ x. Says x t rows text) first says)

-- what a list says of rows that stand for all opening rows it says of all of them
all_are_said : (listing : Listing) (x : Transition) (rows : Table) (text : List ℕ)
    → StandForAll x rows → listed_of listing (contents_of x) (tracking_of x) rows text
    → GivenSays (listed_of listing) (contents_of x) None (tracking_of x) text
all_are_said (Report shown chunk) x rows text stand says = (
  stand.all,
  record { same = stand.opened; rising = stand.rising },
  record {
    level = says.level;
    depth = says.depth;
    levels = says.levels;
    written = says.written
        ∙ ap (λ rs. text_of (lines_showing shown (tracking_of x).title says.depth rs))
        (stand.same says.level);
  },
)
all_are_said Waves x rows text stand says = (
  stand.all,
  record { same = stand.opened; rising = stand.rising },
  record {
    level = says.level;
    depth = says.depth;
    levels = says.levels;
    written = says.written
        ∙ ap (λ rs. text_of (waves_lines says.depth rs)) (stand.same says.level);
  },
)

pub opening_is_said : {E : Type 0} (listing : Listing) (x : Transition) (c : Contents)
    (t : Tracking) (rows : Table) (r : Result (String Global) E) → contents_of x ≡ c
    → tracking_of x ≡ t → StandForAll x rows
    → IfOk r (λ text. listed_of listing (contents_of x) (tracking_of x) rows (string_bytes text))
    → IfOk r (λ text. GivenSays (listed_of listing) c None t (string_bytes text))
opening_is_said listing x c t rows (Ok text) first second stand says =
    subst (λ u. GivenSays (listed_of listing) c None u (string_bytes text)) second
    (subst (λ d. GivenSays (listed_of listing) d None (tracking_of x) (string_bytes text)) first
    (all_are_said listing x rows (string_bytes text) stand says))
opening_is_said listing x c t rows (Err e) first second stand says = tt

-- what is said of the rows that are looked at is said of what was opened
pub looked_at_says : (Says : Saying) (c : Contents) (given : Option Table) (rows : Table)
    (t : Tracking) (text : List ℕ) → AreLookedAt c given rows → Says c t rows text
    → GivenSays Says c given t text
looked_at_says Says c None rows t text are says = (rows, are, says)
looked_at_says Says c (Some given) rows t text are says =
    subst (λ r. Says c t r text) are says

-- ---- what was opened

-- what a text says over the rows of a state file, or over all with which a desk opens, it says
-- over the rows of the texts
rows_found : (Says : Saying) (c : Contents) (state : Option (List ℕ)) (rows : Option Table)
    (t : Tracking) (tracker text : List ℕ) → AreGivenRows c state rows → IsTracker tracker t
    → GivenSays Says c rows t text → RowsSay Says c state tracker text
rows_found Says c None None t tracker text given is says = (says.0, says.1, (t, is, says.2))
rows_found Says c None (Some rows) t tracker text given is says = absurd given
rows_found Says c (Some file) None t tracker text given is says = absurd given
rows_found Says c (Some file) (Some rows) t tracker text given is says =
    (rows, given.0, (t, is, says))

tracker_found : (Says : Saying) (c : Contents) (state : Option (List ℕ)) (rows : Option Table)
    (tracker text : List ℕ) (given : Option (Bor GivenTracker))
    → IsGivenTracker (Some tracker) (option_copied given) → AreGivenRows c state rows
    → IfSome given (λ g. GivenSays Says c rows (tracking g.now.tracker) text)
    → RowsSay Says c state tracker text
tracker_found Says c state rows tracker text None is given says = absurd is
tracker_found Says c state rows tracker text (Some g) is given says =
    rows_found Says c state rows (tracking g.now.tracker) tracker text given is.1 says

-- a tracker that is lent is that of its text
pub tracker_lent : (given : Option (List ℕ)) (t : Option (Bor GivenTracker))
    → IsGivenTracker given (option_copied t)
    → IfSome t (λ g. IsTracker g.now.text.now (tracking g.now.tracker))
tracker_lent given None is = tt
tracker_lent given (Some g) is = tracker_of_text given g.now is

lacks_memory : (text : List ℕ) → IsPatternRefused text NoMemory
lacks_memory text = (tracker_fault.NoMemory, tt, refl)

-- the text that is made of what was opened is what the texts say, unless memory runs out
pub said_of_opened : {E : Type 0} (Says : Saying) (x : Texts) (y : inputs.Texts)
    (made : Result (String Global) E) (said : Result (String Global) Ending) (o : Opened)
    → y ≡ as_script x → IsOpened y o
    → IfOk made (λ text. IfSome o.tracker (λ g.
    GivenSays Says o.archive.now o.rows (tracking g.now.tracker) (string_bytes text)))
    → IfOk made (λ text. said ≡ Ok text) → IfErr made (λ e. said ≡ Err NoMemory)
    → Tells Says x said
said_of_opened Says x y (Ok text) said o same is says ok err =
    let it : IsOpened (as_script x) o = subst (λ v. IsOpened v o) same is in
    subst (Tells Says x) (sym ok) (record {
      found = (
        o.archive.now,
        record { is_table = it.archive.is_table; is_archive = it.archive.is_archive },
        tracker_found Says o.archive.now x.state o.rows x.tracker (string_bytes text) o.tracker
            it.tracker it.rows says,
      );
      refused = tt;
      only = tt;
    })
said_of_opened Says x y (Err e) said o same is says ok err =
    subst (Tells Says x) (sym err) (record {
      found = tt;
      refused = inr refl;
      only = λ readable. lacks_memory x.tracker;
    })

-- ---- what wasn't opened

refused_so : (x : Texts) (e : OpenFault) → IsUnopened (as_script x) e
    → OrMemory (AreRefused x) (ending_of_opening e)
refused_so x (opening.Refused e) is = inl (e, is, refl)
refused_so x opening.NoMemory is = inr refl

pattern_so : (text : List ℕ) (e : OpenFault) → opened.OrMemory (IsPatternOf (Some text)) e
    → IsPatternRefused text (ending_of_opening e)
pattern_so text (opening.Refused (form.Table e)) is = absurd is
pattern_so text (opening.Refused (form.Archive e)) is = absurd is
pattern_so text (opening.Refused (form.State e)) is = absurd is
pattern_so text (opening.Refused (form.NoSuchRow n)) is = absurd is
pattern_so text (opening.Refused (form.Tracker (tracker_fault.Syntax place))) is =
    (tracker_fault.Syntax place, is, refl)
pattern_so text (opening.Refused (form.Tracker (tracker_fault.BadPattern place))) is =
    (tracker_fault.BadPattern place, is, refl)
pattern_so text (opening.Refused (form.Tracker (tracker_fault.MissingKey key))) is =
    (tracker_fault.MissingKey key, is, refl)
pattern_so text (opening.Refused (form.Tracker tracker_fault.NoMemory)) is = absurd is
pattern_so text (opening.Refused (form.Journal e)) is = absurd is
pattern_so text opening.NoMemory is = lacks_memory text

pub unopened_says : (Says : Saying) (x : Texts) (y : inputs.Texts) (e : OpenFault) (ending : Ending)
    → y ≡ as_script x → IsUnopened y e → (inputs.AreReadable y → MayFail y e)
    → ending ≡ ending_of_opening e → Tells Says x (Err ending)
unopened_says Says x y e ending same refused may is =
    subst (λ v. Tells Says x (Err v)) (sym is) (record {
      found = tt;
      refused = refused_so x e (subst (λ v. IsUnopened v e) same refused);
      only = λ readable.
          pattern_so x.tracker e
          (subst (λ v. inputs.AreReadable v → MayFail v e) same may readable);
    })
