-- A plan can be made of what was opened, and its lines can have the words that were asked for.
use Rattle.std.proofs.Common.{◌≡◌, ℕ, true, false, List, Option, Some, None, Result, Err}
use Rattle.std.proofs.Common.{Bool, map, string_bytes, ap, subst, sym, ◌∙◌}
use Rattle.std.specs.Prelude.{◌↔◌, IsErrOf}
use Rattle.td_text.specs.Lines.{lines_of}
use Rattle.td_rows.specs.Table.{Table}
use Rattle.td_indices.specs.Archive.{Contents}
use Rattle.td_indices.specs.Choosing.{AreOpenedOf, flagged}
use Rattle.td_query.specs.Statuses.{is_affected}
use Rattle.td_query.specs.Tracking.{Tracking}
use Rattle.td_inputs.specs.Inputs.{AreOpened, IsArchiveOf, Texts}
use Rattle.td_inputs.specs.Opened.{AreGivenRows}
use Rattle.td_inputs.specs.declared.opened.Opened.{Opened}
use Rattle.td_plan.specs.Lines.{Words as PlanWords}
use Rattle.td_plan.specs.Message.{can_be_quoted, is_suite}
use Rattle.td_plan.specs.SoundLaws.{AreOpening, CanBePlanned, WasRead}
use Rattle.td_plan.specs.declared.words.WordFault.{WordFault}
use Rattle.td_plan.specs.declared.words.WordFault.TheVariants.{BadMessage, BadSuite}
use Rattle.td_plan.specs.declared.words.Words.{Words}
use Rattle.td_plan.proofs.AffectedRows.{affected-opening-rows-are-enough}
use Rattle.td_plan.proofs.SoundArchives.{opening-rows, replaced-rows}
use Rattle.td_words.specs.declared.line_words.LineWords.{LineWords}
use Rattle.td_tool.specs.TrackInside.{AreLookedAt, GivenSays, WasOpened}
use Rattle.td_tool.specs.Tracks.{IsPlanWith, premises_of}

-- an archive was read of the texts that it is of
was_read : (x : Texts) (c : Contents) → IsArchiveOf x c → WasRead c
was_read x c is = record {
  package_lines = lines_of x.packages;
  source_lines = lines_of x.sources;
  is_archive = is.is_archive;
  apart = is.is_table.fresh;
}

opening : (c : Contents) (rows : Table) → AreOpened c rows → AreOpening c rows
opening c rows are = record { same = are.same; rising = are.rising }

-- the rows of a state file
given_planned : (c : Contents) (t : Tracking) (state : Option (List ℕ)) (rows : Table) → WasRead c
    → AreGivenRows c state (Some rows) → CanBePlanned (premises_of c t rows)
given_planned c t None rows read are = absurd are
given_planned c t (Some text) rows read are =
    let put = are.0 in
    replaced-rows (premises_of c t rows) put.opened put.given (lines_of text) read
    (opening c put.opened put.are_opened) put.are_given put.replaced

-- or all
looked_at_planned : (c : Contents) (t : Tracking) (state : Option (List ℕ)) (given : Option Table)
    (rows : Table) → WasRead c → AreGivenRows c state given → AreLookedAt c given rows
    → CanBePlanned (premises_of c t rows)
looked_at_planned c t state None rows read are looked =
    opening-rows (premises_of c t rows) read (opening c rows looked)
looked_at_planned c t state (Some given) rows read are looked =
    subst (λ r. CanBePlanned (premises_of c t r)) (sym looked)
    (given_planned c t state given read are)

pub opened_planned : (o : Opened) (t : Tracking) (rows : Table) → WasOpened o
    → AreLookedAt o.archive.now o.rows rows → CanBePlanned (premises_of o.archive.now t rows)
opened_planned o t rows (x, is) looked =
    looked_at_planned o.archive.now t x.state o.rows rows (was_read x o.archive.now is.archive)
    is.rows looked

-- what was opened is of an archive that was read
pub opened_read : (o : Opened) → WasOpened o → WasRead o.archive.now
opened_read o (x, is) = was_read x o.archive.now is.archive

-- a plan of the rows with which the affected sources open is one of all with which a desk opens
pub opening_says : (w : PlanWords) (c : Contents) (t : Tracking) (flags : List Bool) (rows : Table)
    (text : List ℕ) → flags ≡ map (is_affected c t) c.sources
    → AreOpenedOf c (flagged flags c.sources) rows → IsPlanWith w c t rows text
    → GivenSays (IsPlanWith w) c None t text
opening_says w c t flags rows text are opened is =
    let all = affected-opening-rows-are-enough w (premises_of c t rows) flags text are opened is in
    (all.0, record { same = all.1.same; rising = all.1.rising }, all.2)

-- ---- the words

-- lines can have both, so neither is refused
pub never_refused : (w : LineWords) (message suite : List ℕ) (fault : WordFault)
    (r : Result Words WordFault) → r ≡ Err fault → message ≡ string_bytes w.message
    → suite ≡ string_bytes w.suite → (IsErrOf r BadMessage ↔ (can_be_quoted message ≡ false))
    → (IsErrOf r BadSuite ↔ ((can_be_quoted message ≡ true) × (is_suite suite ≡ false))) → ⊥
never_refused w message suite BadMessage r is first second bad_message bad_suite =
    let both : true ≡ false = sym (ap can_be_quoted first ∙ w.quotable) ∙ bad_message.0 is in cc
never_refused w message suite BadSuite r is first second bad_message bad_suite =
    let both : true ≡ false = sym (ap is_suite second ∙ w.named) ∙ (bad_suite.0 is).1 in cc
