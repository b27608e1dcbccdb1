-- What is counted of three texts.
use Rattle.std.proofs.Common.{◌≡◌, ℕ, List, Option, None, Result, Ok, Err, IfOk, IfErr}
use Rattle.std.proofs.Common.{String, string_bytes, ap, refl, sym, subst, ◌∙◌}
use Rattle.std.specs.Io.KnownBytes.{Appends, Keeps}
use Rattle.std.specs.declared.alloc.AllocError.{AllocError}
use Rattle.std.specs.declared.alloc.Global.{Global}
use Rattle.td_bytes.specs.Pieces.{AppendsPrefix}
use Rattle.td_relation.specs.declared.archs.ArchsFault.TheVariants as table
use Rattle.td_indices.specs.Archive.{Contents}
use Rattle.td_indices.specs.declared.archive_fault.ArchiveFault.TheVariants as archive
use Rattle.td_inputs.specs.declared.form_fault.FormFault.TheVariants as form
use Rattle.td_inputs.specs.declared.open_fault.OpenFault.{OpenFault}
use Rattle.td_inputs.specs.declared.open_fault.OpenFault.TheVariants as opening
use Rattle.td_inputs.specs.declared.opened.Opened.{Opened}
use Rattle.td_inputs.specs.Inputs as inputs
use Rattle.td_inputs.specs.Inputs.{AreReadable, Texts}
use Rattle.td_inputs.specs.Opened.{IsOpened, IsPatternOf, IsUnopened, MayFail, OrMemory}
use Rattle.td_inputs.proofs.OpeningLaws.{rows_there}
use Rattle.td_tool.specs.declared.ending.Ending.{Ending}
use Rattle.td_tool.specs.declared.ending.Ending.TheVariants.{Done, Refused, BadInput, NoMemory}
use Rattle.td_tool.specs.declared.ending.Ending.TheVariants.{CannotRead, CannotWrite}
use Rattle.td_tool.specs.declared.ending.Ending.TheVariants.{Locked, CannotKeep}
use Rattle.td_tool.specs.Ending.{ending_of_opening}
use Rattle.td_tool.specs.Counted.{IsArchiveOf}
use Rattle.td_tool.specs.CheckInside.{ArchiveText, EndsUnwritten, IsCounted, IsNoArchive, Tells}
use Rattle.td_tool.specs.CheckInside.{TextsEnd, WritesSo, texts_checked}

to_opened : (a p s : List ℕ) (c : Contents) → IsArchiveOf a p s c
    → inputs.IsArchiveOf (texts_checked a p s) c
to_opened a p s c is = record { is_table = is.is_table; is_archive = is.is_archive }

told : (says : ArchiveText) (a p s : List ℕ) (text : String Global) (o : Opened)
    → IsOpened (texts_checked a p s) o → Tells says o.archive.now text
    → IsCounted says a p s (Ok text)
told says a p s text o is tells = record {
  found = (
    o.archive.now,
    record { is_table = is.archive.is_table; is_archive = is.archive.is_archive },
    tells,
  );
  only = λ c whole. subst (λ d. Tells says d text) (is.only c (to_opened a p s c whole)) tells;
  refused = tt;
}

-- the texts that are lent are those that were read
pub lent_texts : (y : Texts) (lent a p s : List ℕ) → y ≡ texts_checked lent p s → lent ≡ a
    → y ≡ texts_checked a p s
lent_texts y lent a p s is same = is ∙ ap (λ v. texts_checked v p s) same

-- what is made of what was opened, unless memory runs out for it
pub counted_of_opened : (says : ArchiveText) (y : Texts) (a p s : List ℕ)
    (made : Result (String Global) AllocError) (counted : Result (String Global) Ending)
    (o : Opened) → y ≡ texts_checked a p s → IsOpened y o
    → IfOk made (Tells says o.archive.now) → IfOk made (λ text. counted ≡ Ok text)
    → IfErr made (λ e. counted ≡ Err NoMemory) → IsCounted says a p s counted
counted_of_opened says y a p s (Ok text) counted o same is tells ok err =
    subst (IsCounted says a p s) (sym ok)
    (told says a p s text o (subst (λ v. IsOpened v o) same is) tells)
counted_of_opened says y a p s (Err e) counted o same is tells ok err =
    subst (IsCounted says a p s) (sym err)
    (record { found = tt; only = λ c whole. refl; refused = tt })

-- without a tracker no pattern is refused
no_pattern : (e : OpenFault) → OrMemory (IsPatternOf None) e → ending_of_opening e ≡ NoMemory
no_pattern (opening.Refused (form.Table e)) is = absurd is
no_pattern (opening.Refused (form.Archive e)) is = absurd is
no_pattern (opening.Refused (form.State e)) is = absurd is
no_pattern (opening.Refused (form.NoSuchRow n)) is = absurd is
no_pattern (opening.Refused (form.Tracker e)) is = absurd is
no_pattern (opening.Refused (form.Journal e)) is = absurd is
no_pattern opening.NoMemory is = refl

no_archive : (a p s : List ℕ) (e : OpenFault) → IsUnopened (texts_checked a p s) e
    → IsNoArchive a p s (ending_of_opening e)
no_archive a p s (opening.Refused (form.Table (table.BadLine n))) is = (refl, is)
no_archive a p s (opening.Refused (form.Table (table.Twice n))) is = (refl, is)
no_archive a p s (opening.Refused (form.Table table.TooMany)) is = (refl, is)
no_archive a p s (opening.Refused (form.Table table.NoMemory)) is = absurd is
no_archive a p s (opening.Refused (form.Archive (archive.Stanza f e))) is = (refl, is)
no_archive a p s (opening.Refused (form.Archive (archive.MissingField f n field))) is = (refl, is)
no_archive a p s (opening.Refused (form.Archive (archive.BadVersion f n field))) is = (refl, is)
no_archive a p s (opening.Refused (form.Archive (archive.BadRelation f n field))) is = (refl, is)
no_archive a p s (opening.Refused (form.Archive archive.TooManyRows)) is = (refl, is)
no_archive a p s (opening.Refused (form.Archive archive.NoMemory)) is = absurd is
no_archive a p s (opening.Refused (form.State e)) is = absurd is.2
no_archive a p s (opening.Refused (form.NoSuchRow n)) is = absurd is.2
no_archive a p s (opening.Refused (form.Tracker e)) is = absurd is.2.2
no_archive a p s (opening.Refused (form.Journal e)) is = absurd is.2.3
no_archive a p s opening.NoMemory is = tt

-- an archive is readable
readable : (a p s : List ℕ) (c : Contents) → IsArchiveOf a p s c → AreReadable (texts_checked a p s)
readable a p s c is =
    let whole = to_opened a p s c is in
    let rows = rows_there (texts_checked a p s) c whole in
    (c, whole, record { rows = rows.0; are_rows = rows.1; tracker = tt; journal = tt })

none_counted : (says : ArchiveText) (a p s : List ℕ) (e : OpenFault)
    → IsUnopened (texts_checked a p s) e
    → (AreReadable (texts_checked a p s) → MayFail (texts_checked a p s) e)
    → IsCounted says a p s (Err (ending_of_opening e))
none_counted says a p s e is may = record {
  found = tt;
  only = λ c whole. no_pattern e (may (readable a p s c whole));
  refused = no_archive a p s e is;
}

pub none_counted_of : (says : ArchiveText) (y : Texts) (a p s : List ℕ) (e : OpenFault)
    (ending : Ending)
    → y ≡ texts_checked a p s → IsUnopened y e → (AreReadable y → MayFail y e)
    → ending ≡ ending_of_opening e → IsCounted says a p s (Err ending)
none_counted_of says y a p s e ending same is may ends =
    subst (λ v. IsCounted says a p s (Err v)) (sym ends)
    (none_counted says a p s e (subst (λ v. IsUnopened v e) same is)
    (subst (λ v. AreReadable v → MayFail v e) same may))

-- ---- how it ends

-- a text that is written is said of each archive that the texts are
written : (says : ArchiveText) (a p s : List ℕ) (text : String Global) (old new : Option (List ℕ))
    (ending : Ending) → IsCounted says a p s (Ok text)
    → WritesSo (string_bytes text) old new ending → TextsEnd says a p s old new ending
written says a p s text old new Done is writes = record {
  says = (is.found.0, is.found.1, subst (Appends old new) is.found.2 writes);
  only = λ c whole. subst (Appends old new) (is.only c whole) writes;
}
written says a p s text old new Refused is writes = absurd writes
written says a p s text old new (BadInput role e) is writes = absurd writes
written says a p s text old new NoMemory is writes = absurd writes
written says a p s text old new (CannotRead role) is writes = absurd writes
written says a p s text old new CannotWrite is writes = record {
  says = (is.found.0, is.found.1, subst (AppendsPrefix old new) is.found.2 writes);
  only = λ c whole. subst (AppendsPrefix old new) (is.only c whole) writes;
}
written says a p s text old new Locked is writes = absurd writes
written says a p s text old new CannotKeep is writes = absurd writes

-- an ending without a text
unwritten : (says : ArchiveText) (a p s : List ℕ) (old new : Option (List ℕ)) (ending : Ending)
    → IsCounted says a p s (Err ending) → Keeps old new
    → TextsEnd says a p s old new ending
unwritten says a p s old new Done is kept = absurd is.refused
unwritten says a p s old new Refused is kept = absurd is.refused
unwritten says a p s old new (BadInput role e) is kept = record {
  says = (is.refused, kept);
  only = λ c whole. (let other : BadInput role e ≡ NoMemory = is.only c whole in absurd cc);
}
unwritten says a p s old new NoMemory is kept =
    record { says = kept; only = λ c whole. kept }
unwritten says a p s old new (CannotRead role) is kept = absurd is.refused
unwritten says a p s old new CannotWrite is kept = absurd is.refused
unwritten says a p s old new Locked is kept = absurd is.refused
unwritten says a p s old new CannotKeep is kept = absurd is.refused

-- what is counted ends the check so
pub ends_counted : (says : ArchiveText) (a p s : List ℕ) (counted : Result (String Global) Ending)
    (old new : Option (List ℕ)) (ending : Ending) → IsCounted says a p s counted
    → IfOk counted (λ text. WritesSo (string_bytes text) old new ending)
    → IfErr counted (λ expected. EndsUnwritten expected old new ending)
    → TextsEnd says a p s old new ending
ends_counted says a p s (Ok text) old new ending is writes none =
    written says a p s text old new ending is writes
ends_counted says a p s (Err expected) old new ending is writes none =
    subst (TextsEnd says a p s old new) (sym none.ends)
    (unwritten says a p s old new expected is none.kept)
