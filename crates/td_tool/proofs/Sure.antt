-- A run of `track` or `waves` ends as it says, and what readable texts say is written.
use Rattle.std.proofs.Common.{◌≡◌, ℕ, List, length, Option, Some, None, IfSome}
use Rattle.std.proofs.Common.{Result, Ok, Err, IfOk, IfErr, String}
use Rattle.std.proofs.Common.{string_bytes, inl, inr, refl, sym, ap, subst, ◌∙◌}
use Rattle.std.specs.declared.alloc.Global.{Global}
use Rattle.std.specs.Io.KnownBytes.{Keeps}
use Rattle.td_bytes.specs.declared.text.TextFault.{TextFault}
use Rattle.td_bytes.specs.declared.text.TextFault.TheVariants as text_fault
use Rattle.td_query.specs.TrackerFaults.{IsPatternFault, log_in}
use Rattle.td_query.specs.TrackerGrammar.{said_in}
use Rattle.td_query.specs.declared.tracker_fault.TrackerFault.{TrackerFault}
use Rattle.td_query.specs.declared.tracker_fault.TrackerFault.TheVariants as tracker_fault
use Rattle.td_inputs.specs.declared.form_fault.FormFault.TheVariants as form
use Rattle.td_tool.specs.declared.file_texts.FileFault.{FileFault}
use Rattle.td_tool.specs.declared.track_files.TrackTexts.{TrackTexts}
use Rattle.td_inputs.specs.declared.role.Role.{Role}
use Rattle.td_inputs.specs.declared.role.Role.TheVariants.{Input, Archs, Packages, Sources, State}
use Rattle.td_inputs.specs.declared.role.Role.TheVariants.{Tracker, Outcomes, Journal}
use Rattle.td_tool.specs.declared.ending.Ending.{Ending}
use Rattle.td_tool.specs.declared.ending.Ending.TheVariants.{Done, Refused, BadInput, NoMemory}
use Rattle.td_tool.specs.declared.ending.Ending.TheVariants.{CannotRead, CannotWrite}
use Rattle.td_tool.specs.declared.ending.Ending.TheVariants.{Locked, CannotKeep}
use Rattle.td_tool.specs.Ending.{ending_of_file, ending_of_form}
use Rattle.td_tool.specs.Checks.{IsNoText, IsTextOf}
use Rattle.td_tool.specs.CheckInside.{AreFlags, EndsUnwritten, FileUnread, WritesSo}
use Rattle.td_tool.specs.Tracks.{AreKnownTexts, AreReadable, AreRefused, AreTextsOf, EndsBy}
use Rattle.td_tool.specs.Tracks.{EndsTold, FailsAt, IsKnownIfGiven, IsKnownText, IsTextIfGiven}
use Rattle.td_tool.specs.Tracks.{OneFile, Saying, Texts, TextsSayIt, TrackFiles, details_of}
use Rattle.td_tool.specs.Tracks.{details_says}
use Rattle.td_tool.specs.declared.early_texts.CutOff.{CutOff}
use Rattle.td_tool.specs.TrackInside.{AreTextsRead, HasFailedAt, Tells, TellsTexts, texts_of}

-- ---- known files

-- a known text is the one that was read
pub known_same : (known : Option (List ℕ)) (all text : List ℕ) → IsKnownText known all
    → IsTextOf known text → all ≡ text
known_same known all text is of = subst (λ o. IfSome o (λ x. x ≡ text)) is.whole of.whole

pub given_same : (file : Option OneFile) (all text : Option (List ℕ)) → IsKnownIfGiven file all
    → IsTextIfGiven file text → all ≡ text
given_same None None None is of = refl
given_same None None (Some text) is of = absurd of
given_same None (Some all) text is of = absurd is
given_same (Some file) None text is of = absurd is
given_same (Some file) (Some all) None is of = absurd of
given_same (Some file) (Some all) (Some text) is of = ap Some (known_same file.known all text is of)

same_texts : (files : TrackFiles) (x y : Texts) → AreKnownTexts files x → AreTextsOf files y → x ≡ y
same_texts files x y known read =
    let made = λ (a p s : List ℕ) (st : Option (List ℕ)) (t : List ℕ).
    (let it : Texts = record { archs = a; packages = p; sources = s; state = st; tracker = t } in
    it) in
    ap (λ v. made v x.packages x.sources x.state x.tracker)
    (known_same _ x.archs y.archs known.archs read.indices.archs_text)
    ∙ ap (λ v. made y.archs v x.sources x.state x.tracker)
    (known_same _ x.packages y.packages known.packages read.indices.packages_text)
    ∙ ap (λ v. made y.archs y.packages v x.state x.tracker)
    (known_same _ x.sources y.sources known.sources read.indices.sources_text)
    ∙ ap (λ v. made y.archs y.packages y.sources v x.tracker)
    (given_same files.state x.state y.state known.state read.state)
    ∙ ap (λ v. made y.archs y.packages y.sources y.state v)
    (known_same _ x.tracker y.tracker known.tracker read.tracker)

-- a known file isn't refused as no text
pub one_text : (known : Option (List ℕ)) (text : List ℕ) → IsKnownText known text → IsNoText known
    → ⊥
one_text known text is other = (subst IsNoText is.whole other).1 is.read.1

pub given_text : (given : Option OneFile) (text : Option (List ℕ)) (file : OneFile)
    → IsKnownIfGiven given text → given ≡ Some file → IsNoText file.known → ⊥
given_text None text file known is none = cc
given_text (Some other) None file known is none = known
given_text (Some other) (Some text) file known is none =
    one_text file.known text (subst (λ o. IsKnownIfGiven o (Some text)) is known) none

no_such_text : (files : TrackFiles) (role : Role) (x : Texts)
    → FailsAt files role text_fault.NotText → AreKnownTexts files x → ⊥
no_such_text files Input x failed known = failed
no_such_text files Archs x failed known = one_text _ x.archs known.archs failed.fits
no_such_text files Packages x failed known = one_text _ x.packages known.packages failed.fits
no_such_text files Sources x failed known = one_text _ x.sources known.sources failed.fits
no_such_text files State x (a, p, s, texts, (file, is, may)) known =
    given_text files.state x.state file known.state is may.fits
no_such_text files Tracker x (a, p, s, texts, (state, given, may)) known =
    one_text _ x.tracker known.tracker may.fits
no_such_text files Outcomes x failed known = failed
no_such_text files Journal x failed known = failed

-- ---- the whole

unread_told : (Says : Saying) (files : TrackFiles) (x : Texts) (old new : Option (List ℕ))
    (role : Role) (e : TextFault) → FailsAt files role e → Keeps old new → AreKnownTexts files x
    → EndsTold Says x old new (ending_of_file role e)
unread_told Says files x old new role text_fault.CannotRead failed kept known = kept
unread_told Says files x old new role text_fault.TooLong failed kept known = kept
unread_told Says files x old new role text_fault.NotText failed kept known =
    absurd (no_such_text files role x failed known)
unread_told Says files x old new role text_fault.NoMemory failed kept known = kept

ends_unread : (Says : Texts → Saying) (files : TrackFiles) (f : FileFault)
    (old new : Option (List ℕ)) (ending : Ending) → HasFailedAt files f
    → ending ≡ ending_of_file f.role f.fault → Keeps old new → EndsBy Says files old new ending
ends_unread Says files f old new ending failed is kept = record {
  says = inr (inl ((f.role, f.fault, failed, is), kept));
  only = λ x known readable.
      subst (EndsTold (Says x) x old new) (sym is)
      (unread_told (Says x) files x old new f.role f.fault failed kept known);
}

-- a run that has a text to write ends as readable texts do
told_whole : (Says : Saying) (x : Texts) (text : List ℕ) (old new : Option (List ℕ))
    (ending : Ending) → TextsSayIt Says x text → WritesSo text old new ending
    → EndsTold Says x old new ending
told_whole Says x text old new Done says writes = (text, says, writes)
told_whole Says x text old new Refused says writes = absurd writes
told_whole Says x text old new (BadInput role e) says writes = absurd writes
told_whole Says x text old new NoMemory says writes = absurd writes
told_whole Says x text old new (CannotRead role) says writes = absurd writes
told_whole Says x text old new CannotWrite says writes = (text, says, writes)
told_whole Says x text old new Locked says writes = absurd writes
told_whole Says x text old new CannotKeep says writes = absurd writes

-- a run without a text ends as readable texts do, if a pattern or memory is the reason
told_none : (Says : Saying) (x : Texts) (e : TrackerFault) (old new : Option (List ℕ))
    → IsPatternFault (length x.tracker) (log_in (said_in x.tracker)) e → Keeps old new
    → EndsTold Says x old new (ending_of_form (form.Tracker e))
told_none Says x (tracker_fault.Syntax place) old new bad kept = absurd bad
told_none Says x (tracker_fault.BadPattern place) old new bad kept =
    ((tracker_fault.BadPattern place, bad, refl), kept)
told_none Says x (tracker_fault.MissingKey key) old new bad kept = absurd bad
told_none Says x tracker_fault.NoMemory old new bad kept = kept

-- ---- by what was read

pub tells_texts : (Says : Saying) (x : Texts) (r : Result (String Global) Ending)
    (old new : Option (List ℕ)) (ending : Ending) → Tells Says x r
    → IfOk r (λ text. WritesSo (string_bytes text) old new ending)
    → IfErr r (λ e. EndsUnwritten e old new ending) → TellsTexts Says x old new ending
tells_texts Says x (Ok text) old new ending tells writes unwritten = record {
  says = inr (inr (string_bytes text, tells.found, writes));
  only = λ readable. told_whole Says x (string_bytes text) old new ending tells.found writes;
}
tells_texts Says x (Err e) old new ending tells writes unwritten = record {
  says = elim tells.refused [
    | inl bad ↦ inr (inl (subst (AreRefused x) (sym unwritten.ends) bad, unwritten.kept))
    | inr memory ↦ inl (unwritten.ends ∙ memory, unwritten.kept)
  ];
  only = λ readable.
      let stopped = tells.only readable in
      subst (EndsTold Says x old new) (sym (unwritten.ends ∙ stopped.2))
      (told_none Says x stopped.0 old new stopped.1 unwritten.kept);
}

-- details of texts are told by which of the indices may be cut off
pub tells_details : (r : Result TrackTexts FileFault) (cut : CutOff) (old new : Option (List ℕ))
    (ending : Ending) → IfOk r (λ x. cut ≡ x.indices.cut) → IfOk r (λ x. AreFlags x.indices)
    → IfOk r (λ x. TellsTexts (details_says cut) (texts_of x) old new ending)
    → IfOk r (λ x. TellsTexts (details_of (texts_of x)) (texts_of x) old new ending)
tells_details (Ok read) cut old new ending same flags tells =
    subst (λ v. TellsTexts (details_says v) (texts_of read) old new ending) (same ∙ flags) tells
tells_details (Err f) cut old new ending same flags tells = tt

pub ends_so : (Says : Texts → Saying) (files : TrackFiles) (old new : Option (List ℕ))
    (r : Result TrackTexts FileFault) (ending : Ending) → IfOk r (AreTextsRead files)
    → IfErr r (HasFailedAt files)
    → IfOk r (λ x. TellsTexts (Says (texts_of x)) (texts_of x) old new ending)
    → IfErr r (λ f. FileUnread f old new ending) → EndsBy Says files old new ending
ends_so Says files old new (Ok read) ending texts failed tells unread = record {
  says = elim tells.says [
    | inl lacks ↦ inl lacks
    | inr ends ↦ inr (inr (texts_of read, texts, ends))
  ];
  only = λ y known readable.
      let same = same_texts files y (texts_of read) known texts in
      subst (λ z. EndsTold (Says z) z old new ending) (sym same)
      (tells.only (subst AreReadable same readable));
}
ends_so Says files old new (Err f) ending texts failed tells unread =
    ends_unread Says files f old new ending failed unread.ends unread.kept
