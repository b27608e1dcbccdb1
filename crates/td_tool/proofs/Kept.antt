-- A desk that is kept in a file ends as its session does.
use Rattle.std.proofs.Common.{◌≡◌, ◌≢◌, ◌∙◌, ◌==◌, ℕ, List, Option, Bool, true, false, Result, Ok}
use Rattle.std.proofs.Common.{Err, IfOk, IfErr, ap, if◌then◌else◌, inl, inr, refl, subst, sym}
use Rattle.std.specs.Result.{ForOk}
use Rattle.std.specs.Io.KnownBytes.{Keeps}
use Rattle.td_bytes.specs.declared.text.TextFault.{TextFault}
use Rattle.td_bytes.specs.declared.text.TextFault.TheVariants as text
use Rattle.td_ledger.specs.Calls.{Known}
use Rattle.td_query.specs.declared.tracker_fault.TrackerFault.{TrackerFault}
use Rattle.td_query.specs.declared.tracker_fault.TrackerFault.TheVariants as tracker
use Rattle.td_inputs.specs.Inputs as script
use Rattle.td_inputs.specs.Opened.{IsPatternOf}
use Rattle.td_inputs.specs.declared.form_fault.FormFault.{FormFault}
use Rattle.td_inputs.specs.declared.form_fault.FormFault.TheVariants as form
use Rattle.td_inputs.specs.declared.role.Role.{Role}
use Rattle.td_lasting.specs.declared.file_fault.FileFault.TheVariants as file
use Rattle.td_lasting.specs.declared.serving.ServeEnd.{ServeEnd}
use Rattle.td_lasting.specs.declared.serving.ServeFault.TheVariants as serve
use Rattle.td_session.specs.Grounds.{texts_of}
use Rattle.td_session.specs.Sessions as sessions
use Rattle.td_session.specs.declared.desk_file.OpenRefusal.{OpenRefusal}
use Rattle.td_session.specs.declared.desk_file.OpenRefusal.TheVariants as refusal
use Rattle.td_session.specs.declared.fault.SessionFault.{SessionFault}
use Rattle.td_session.specs.declared.fault.SessionFault.TheVariants as session
use Rattle.td_session.specs.declared.texts.SessionTexts.{SessionTexts}
use Rattle.td_words.specs.DeskWords.{DeskWords}
use Rattle.td_tool.specs.declared.desk_texts.DeskTexts.{DeskTexts}
use Rattle.td_tool.specs.declared.ending.Ending.{Ending}
use Rattle.td_tool.specs.declared.ending.Ending.TheVariants.{Done, Refused, BadInput, NoMemory}
use Rattle.td_tool.specs.declared.ending.Ending.TheVariants.{CannotRead, CannotWrite}
use Rattle.td_tool.specs.declared.ending.Ending.TheVariants.{Locked, CannotKeep}
use Rattle.td_tool.specs.declared.file_texts.FileFault.{FileFault}
use Rattle.td_tool.specs.DeskInside.{AreDeskTexts, AreSessionTexts, AreTextsFor, IsWithinLimit}
use Rattle.td_tool.specs.DeskInside.{KeepsSo, desk_texts_of}
use Rattle.td_tool.specs.Desks.{DeskFiles, EndsDesk, MayEndDesk, SessionEnds, ending_of_session}
use Rattle.td_tool.specs.Ending.{ending_of_file, ending_of_form}
use Rattle.td_tool.specs.RunInside.{HasNoInputs, HasRunFailed}
use Rattle.td_tool.specs.Runs.{AreKnownTexts, MayEnd, RunFiles, Texts, script_texts}
use Rattle.td_tool.specs.Streams.{IsDue}
use Rattle.td_tool.specs.UnreadFiles.{tells_of_unread_file}
use Rattle.td_tool.proofs.FormEndings.{form_ends}
use Rattle.td_tool.proofs.SureRuns.{bad_pattern, same_texts, unread_ends}

-- ---- 1. what was read

pub within_limit : (files : RunFiles) (read : Result DeskTexts FileFault)
    → IfOk read (AreDeskTexts files) → ForOk read IsWithinLimit
within_limit files read texts = λ x is.
    let read-texts = subst (λ (r : Result DeskTexts FileFault). IfOk r (AreDeskTexts files)) is
    texts in
    let ((((indices, state), given), outcomes), journal) = read-texts in
    indices.archs_text.read.0

pub texts_are : (files : RunFiles) (suite : List ℕ) (read : Result DeskTexts FileFault)
    (made : Result SessionTexts Ending) → IfOk read (AreDeskTexts files)
    → IfOk read (λ x. IfOk made (AreSessionTexts (desk_texts_of x) suite))
    → IfErr read (λ f. made ≡ Err (ending_of_file f.role f.fault))
    → IfOk made (AreTextsFor files suite)
texts_are files suite (Ok x) (Ok made) texts are unread = (desk_texts_of x, texts, are)
texts_are files suite (Ok x) (Err e) texts are unread = tt
texts_are files suite (Err f) made texts are unread =
    subst (λ (m : Result SessionTexts Ending). IfOk m (AreTextsFor files suite)) (sym unread) tt

pub no_texts : (files : RunFiles) (read : Result DeskTexts FileFault)
    (made : Result SessionTexts Ending) → IfErr read (HasRunFailed files)
    → IfOk read (λ x. IfErr made (λ e. e ≡ NoMemory))
    → IfErr read (λ f. made ≡ Err (ending_of_file f.role f.fault))
    → IfErr made (HasNoInputs files)
no_texts files (Ok x) (Ok made) failed memory unread = tt
no_texts files (Ok x) (Err e) failed memory unread = inl memory
no_texts files (Err f) made failed memory unread =
    subst (λ (m : Result SessionTexts Ending). IfErr m (HasNoInputs files)) (sym unread)
    (inr (f.role, f.fault, failed, refl))

-- ---- 2. by how the session ends

-- what holds of done and of refused holds of lines that are all answered
answered : (Holds : Ending → Type 0) → Holds Done → Holds Refused → (none_refused : Bool)
    → Holds (if none_refused then Done else Refused)
answered Holds done refused true = done
answered Holds done refused false = refused

input_only : (t : Option (List ℕ)) (e : FormFault) → IsPatternOf t e
    → MayEndDesk t (ending_of_form e)
input_only t (form.Table e) bad = absurd bad
input_only t (form.Archive e) bad = absurd bad
input_only t (form.State e) bad = absurd bad
input_only t (form.NoSuchRow n) bad = absurd bad
input_only t (form.Tracker (tracker.Syntax place)) bad =
    inr (bad_pattern t (tracker.Syntax place) bad)
input_only t (form.Tracker (tracker.MissingKey key)) bad =
    inr (bad_pattern t (tracker.MissingKey key) bad)
input_only t (form.Tracker (tracker.BadPattern place)) bad =
    inr (bad_pattern t (tracker.BadPattern place) bad)
input_only t (form.Tracker tracker.NoMemory) bad = tt
input_only t (form.Journal e) bad = absurd bad

session_only : (x : script.Texts) (r : Result ServeEnd SessionFault)
    → IfErr r (sessions.MayRefuse x) → MayEndDesk x.tracker (ending_of_session r)
session_only x (Ok end) may = answered (MayEndDesk x.tracker) tt tt (end.refusals == 0)
session_only x (Err (session.Input e)) may = input_only x.tracker e may
session_only x (Err session.NoMemory) may = tt
session_only x (Err (session.Unopened refusal.Locked)) may = tt
session_only x (Err (session.Unopened refusal.CannotRead)) may = tt
session_only x (Err (session.Unopened refusal.NoMemory)) may = tt
session_only x (Err (session.File file.NotText)) may = inl refl
session_only x (Err (session.File file.BadHeader)) may = inl refl
session_only x (Err (session.File file.OtherRows)) may = inl refl
session_only x (Err (session.File (file.BadLine n))) may = inl refl
session_only x (Err (session.File (file.Unlawful n))) may = inl refl
session_only x (Err (session.File file.CannotRead)) may = tt
session_only x (Err (session.File file.CannotWrite)) may = tt
session_only x (Err (session.File file.NoMemory)) may = tt
session_only x (Err (session.Serve serve.CannotRead)) may = tt
session_only x (Err (session.Serve serve.CannotKeep)) may = tt
session_only x (Err (session.Serve serve.CannotTell)) may = tt
session_only x (Err (session.Serve serve.NoMemory)) may = tt

session_due : (refuses : OpenRefusal → Bool) (reads writes : Bool)
    (r : Result ServeEnd SessionFault) → sessions.IsDue refuses reads writes r
    → IsDue reads writes (ending_of_session r)
session_due refuses reads writes (Ok end) due =
    answered (IsDue reads writes) tt tt (end.refusals == 0)
session_due refuses reads writes (Err (session.Input e)) due =
    form_ends (IsDue reads writes) tt (λ role f. tt) e
session_due refuses reads writes (Err session.NoMemory) due = tt
session_due refuses reads writes (Err (session.Unopened refusal.Locked)) due = tt
session_due refuses reads writes (Err (session.Unopened refusal.CannotRead)) due = tt
session_due refuses reads writes (Err (session.Unopened refusal.NoMemory)) due = tt
session_due refuses reads writes (Err (session.File file.NotText)) due = tt
session_due refuses reads writes (Err (session.File file.BadHeader)) due = tt
session_due refuses reads writes (Err (session.File file.OtherRows)) due = tt
session_due refuses reads writes (Err (session.File (file.BadLine n))) due = tt
session_due refuses reads writes (Err (session.File (file.Unlawful n))) due = tt
session_due refuses reads writes (Err (session.File file.CannotRead)) due = tt
session_due refuses reads writes (Err (session.File file.CannotWrite)) due = tt
session_due refuses reads writes (Err (session.File file.NoMemory)) due = tt
session_due refuses reads writes (Err (session.Serve serve.CannotRead)) due = due
session_due refuses reads writes (Err (session.Serve serve.CannotKeep)) due = tt
session_due refuses reads writes (Err (session.Serve serve.CannotTell)) due = due
session_due refuses reads writes (Err (session.Serve serve.NoMemory)) due = tt

-- only a place that may refuse its file as locked has a desk end so
abbrev LockedIf : (OpenRefusal → Bool) → Ending → Type 0
LockedIf refuses ending = ending ≡ Locked → refuses refusal.Locked ≡ true

session_locked : (refuses : OpenRefusal → Bool) (reads writes : Bool)
    (r : Result ServeEnd SessionFault) → sessions.IsDue refuses reads writes r
    → LockedIf refuses (ending_of_session r)
session_locked refuses reads writes (Ok end) due =
    answered (LockedIf refuses) (λ is. absurd cc) (λ is. absurd cc) (end.refusals == 0)
session_locked refuses reads writes (Err (session.Input e)) due =
    form_ends (LockedIf refuses) (λ is. absurd cc) (λ role f is. absurd cc) e
session_locked refuses reads writes (Err session.NoMemory) due = λ is. absurd cc
session_locked refuses reads writes (Err (session.Unopened refusal.Locked)) due = λ is. due
session_locked refuses reads writes (Err (session.Unopened refusal.CannotRead)) due =
    λ is. absurd cc
session_locked refuses reads writes (Err (session.Unopened refusal.NoMemory)) due =
    λ is. absurd cc
session_locked refuses reads writes (Err (session.File file.NotText)) due = λ is. absurd cc
session_locked refuses reads writes (Err (session.File file.BadHeader)) due = λ is. absurd cc
session_locked refuses reads writes (Err (session.File file.OtherRows)) due = λ is. absurd cc
session_locked refuses reads writes (Err (session.File (file.BadLine n))) due = λ is. absurd cc
session_locked refuses reads writes (Err (session.File (file.Unlawful n))) due = λ is. absurd cc
session_locked refuses reads writes (Err (session.File file.CannotRead)) due = λ is. absurd cc
session_locked refuses reads writes (Err (session.File file.CannotWrite)) due = λ is. absurd cc
session_locked refuses reads writes (Err (session.File file.NoMemory)) due = λ is. absurd cc
session_locked refuses reads writes (Err (session.Serve serve.CannotRead)) due = λ is. absurd cc
session_locked refuses reads writes (Err (session.Serve serve.CannotKeep)) due = λ is. absurd cc
session_locked refuses reads writes (Err (session.Serve serve.CannotTell)) due = λ is. absurd cc
session_locked refuses reads writes (Err (session.Serve serve.NoMemory)) due = λ is. absurd cc

-- where a file isn't read, the lines aren't looked at
abbrev KeptIf : Option (List ℕ) → Option (List ℕ) → Ending → Type 0
KeptIf known left ending = tells_of_unread_file ending ≡ true → Keeps known left

session_kept : (x : script.Texts) (found : Known) (last : Option Known)
    (known left old new : Option (List ℕ)) (r : Result ServeEnd SessionFault)
    → sessions.Ends x found last known left old new r → KeptIf known left (ending_of_session r)
session_kept x found last known left old new (Ok end) ends =
    answered (KeptIf known left) (λ is. absurd cc) (λ is. absurd cc) (end.refusals == 0)
session_kept x found last known left old new (Err (session.Input e)) ends = λ is. ends.2.0
session_kept x found last known left old new (Err session.NoMemory) ends = λ is. ends.1.0
session_kept x found last known left old new (Err (session.Unopened e)) ends = λ is. ends.4.1.0
session_kept x found last known left old new (Err (session.File e)) ends = λ is. ends.4.1.0
session_kept x found last known left old new (Err (session.Serve serve.CannotRead)) ends =
    λ is. absurd cc
session_kept x found last known left old new (Err (session.Serve serve.CannotKeep)) ends =
    λ is. absurd cc
session_kept x found last known left old new (Err (session.Serve serve.CannotTell)) ends =
    λ is. absurd cc
session_kept x found last known left old new (Err (session.Serve serve.NoMemory)) ends =
    λ is. absurd cc

module _ (made : SessionTexts) (found : Known) (last : Option Known) (refuses : OpenRefusal → Bool)
    (reads writes : Bool) (known left old new : Option (List ℕ))
    (r : Result ServeEnd SessionFault) (ending : Ending) (is : ending ≡ ending_of_session r) where
  pub keeps_so : sessions.Ends (texts_of made) found last known left old new r
      → (script.AreReadable (texts_of made) → IfErr r (sessions.MayRefuse (texts_of made)))
      → sessions.IsDue refuses reads writes r
      → KeepsSo made found refuses known left old new ending
  keeps_so ends only due = record {
    says = λ x suite are. (
      last,
      r,
      subst (λ (y : script.Texts). sessions.Ends y found last known left old new r) are ends,
      is,
    );
    only = λ readable.
        subst (MayEndDesk (texts_of made).tracker) (sym is)
        (session_only (texts_of made) r (only readable));
    locked = subst (LockedIf refuses) (sym is) (session_locked refuses reads writes r due);
  }

  pub keeps_input : sessions.Ends (texts_of made) found last known left old new r
      → KeptIf known left ending
  keeps_input ends =
      subst (KeptIf known left) (sym is)
      (session_kept (texts_of made) found last known left old new r ends)

  pub keeps_due : sessions.IsDue refuses reads writes r → IsDue reads writes ending
  keeps_due due =
      subst (IsDue reads writes) (sym is) (session_due refuses reads writes r due)

-- ---- 3. the whole

may_desk : (t : Option (List ℕ)) (ending : Ending) → MayEnd t ending → MayEndDesk t ending
may_desk t Done may = tt
may_desk t Refused may = tt
may_desk t (BadInput role e) may = inr may
may_desk t NoMemory may = tt
may_desk t (CannotRead role) may = tt
may_desk t CannotWrite may = tt
may_desk t Locked may = tt
may_desk t CannotKeep may = tt

file_locked : (refuses : OpenRefusal → Bool) (role : Role) (e : TextFault)
    → LockedIf refuses (ending_of_file role e)
file_locked refuses role text.CannotRead = λ is. absurd cc
file_locked refuses role text.TooLong = λ is. absurd cc
file_locked refuses role text.NotText = λ is. absurd cc
file_locked refuses role text.NoMemory = λ is. absurd cc

module _ (files : RunFiles) (desks : DeskFiles) (w : DeskWords)
    (known left old new : Option (List ℕ)) (ending : Ending) where
  -- if a file isn't read, or memory runs out for the texts, nothing is written
  pub desk_without_texts : HasNoInputs files ending → Keeps known left → Keeps old new
      → EndsDesk files desks w known left old new ending
  desk_without_texts (inl lacks) same kept = record {
    says = inl (lacks, kept);
    only = λ x are readable. subst (MayEndDesk x.tracker) (sym lacks) tt;
    untouched = λ tells. same;
    locked = subst (LockedIf (desks.can_refuse w.journal w.waits)) (sym lacks) (λ is. absurd cc);
  }
  desk_without_texts (inr (role, fault, failed, is)) same kept = record {
    says = inr (inl ((role, fault, failed, is), kept));
    only = λ x are readable.
        subst (MayEndDesk x.tracker) (sym is)
        (may_desk x.tracker (ending_of_file role fault)
        (unread_ends files x role fault failed are));
    untouched = λ tells. same;
    locked = subst (LockedIf (desks.can_refuse w.journal w.waits)) (sym is)
        (file_locked (desks.can_refuse w.journal w.waits) role fault);
  }

  -- over its texts a session ends the desk
  pub desk_over_texts : (made : SessionTexts) → AreTextsFor files w.suite made
      → KeepsSo made (desks.found w.journal) (desks.can_refuse w.journal w.waits) known left old
      new ending
      → KeptIf known left ending → EndsDesk files desks w known left old new ending
  desk_over_texts made (x, texts, are) keeps kept = record {
    says = inr (inr (x, texts, keeps.says x w.suite are));
    only = λ y files-are readable.
        let same = same_texts files y x files-are texts in
        subst (λ (t : Option (List ℕ)). MayEndDesk t ending)
        (ap (λ (z : script.Texts). z.tracker) are
        ∙ ap (λ (z : Texts). z.tracker) (sym same))
        (keeps.only (subst script.AreReadable (sym are)
        (subst (λ (z : Texts). script.AreReadable (script_texts z w.suite)) same readable)));
    untouched = kept;
    locked = keeps.locked;
  }
