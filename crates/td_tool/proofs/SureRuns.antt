-- A run ends as it says, and a script over readable texts is answered.
use Rattle.std.proofs.Common.{◌≡◌, ℕ, ◌==◌, List, Option, Bool, true, false, Result, Ok, Err}
use Rattle.std.proofs.Common.{if◌then◌else◌, inl, inr, refl, sym, ap, subst, ◌∙◌}
use Rattle.std.specs.Io.KnownBytes.{Keeps}
use Rattle.td_bytes.specs.declared.text.TextFault.{TextFault}
use Rattle.td_bytes.specs.declared.text.TextFault.TheVariants as text_fault
use Rattle.td_query.specs.declared.tracker_fault.TrackerFault.{TrackerFault}
use Rattle.td_query.specs.declared.tracker_fault.TrackerFault.TheVariants as tracker_fault
use Rattle.std.specs.Prelude.{MatchBool}
use Rattle.td_script.specs.Ends.{Only, Says}
use Rattle.td_script.specs.declared.inputs.Inputs.{Inputs}
use Rattle.td_crew.specs.CrewEnds.{CrewOnly, CrewSays, outcomes_of}
use Rattle.td_crew.specs.CrewText.{crew_tells}
use Rattle.td_crew.specs.declared.running.CrewFault.{CrewFault}
use Rattle.td_crew.specs.declared.running.CrewFault.TheVariants as crew
use Rattle.td_script.specs.Openings.{texts_of as texts_of_inputs}
use Rattle.td_inputs.specs.Inputs as script
use Rattle.td_script.specs.declared.running.RunFault.{RunFault}
use Rattle.td_script.specs.declared.running.RunFault.TheVariants as stopped
use Rattle.td_script.specs.declared.running.ScriptEnd.{ScriptEnd}
use Rattle.td_inputs.specs.declared.form_fault.FormFault.TheVariants as form
use Rattle.td_inputs.specs.declared.role.Role.{Role}
use Rattle.td_inputs.specs.declared.role.Role.TheVariants.{Input, Archs, Packages, Sources, State}
use Rattle.td_inputs.specs.declared.role.Role.TheVariants.{Tracker, Outcomes, Journal}
use Rattle.td_tool.specs.declared.ending.Ending.{Ending}
use Rattle.td_tool.specs.declared.ending.Ending.TheVariants.{Done, Refused, NoMemory}
use Rattle.td_tool.specs.Ending.{ending_of_file, ending_of_form, ending_of_stop}
use Rattle.td_tool.specs.Runs.{AreKnownTexts, AreTextsOf, EndsRun, FailsAt, MayEnd, OnlyCrewEnds}
use Rattle.td_tool.specs.Runs.{OnlyEnds, OnlyPlayEnds, RunFiles, Texts, ending_of_crew}
use Rattle.td_tool.specs.Runs.{crew_size, ending_of_script, outcome_lines, script_texts}
use Rattle.td_tool.specs.RunInside.{AreInputsFor, AreInputsOf, HasNoInputs, Plays, PlaysInputs}
use Rattle.td_tool.specs.UnreadFiles.{tells_of_unread_file}
use Rattle.td_tool.proofs.Sure.{given_same, given_text, known_same, one_text}

-- ---- a script over readable texts

answered : (t : Option (List ℕ)) (none_refused : Bool)
    → MayEnd t (if none_refused then Done else Refused)
answered t true = tt
answered t false = tt

pub bad_pattern : (t : Option (List ℕ)) (e : TrackerFault) → script.IsPatternRefused t e
    → MayEnd t (ending_of_form (form.Tracker e))
bad_pattern t (tracker_fault.Syntax place) bad = (tracker_fault.Syntax place, bad, refl)
bad_pattern t (tracker_fault.MissingKey key) bad = (tracker_fault.MissingKey key, bad, refl)
bad_pattern t (tracker_fault.BadPattern place) bad = (tracker_fault.BadPattern place, bad, refl)
bad_pattern t tracker_fault.NoMemory bad = tt

stop_ends : (x : script.Texts) (known : Option (List ℕ)) (e : RunFault) → Only x known (Err e)
    → OnlyEnds x known (ending_of_stop e)
stop_ends x known (stopped.Input (form.Table e)) only =
    λ text is fits readable. absurd (only text is fits readable)
stop_ends x known (stopped.Input (form.Archive e)) only =
    λ text is fits readable. absurd (only text is fits readable)
stop_ends x known (stopped.Input (form.State e)) only =
    λ text is fits readable. absurd (only text is fits readable)
stop_ends x known (stopped.Input (form.NoSuchRow n)) only =
    λ text is fits readable. absurd (only text is fits readable)
stop_ends x known (stopped.Input (form.Tracker e)) only =
    λ text is fits readable. bad_pattern x.tracker e (only text is fits readable)
stop_ends x known (stopped.Input (form.Journal e)) only =
    λ text is fits readable. absurd (only text is fits readable)
stop_ends x known stopped.Read only = λ text is fits readable. tt
stop_ends x known stopped.TooLong only =
    λ text is fits readable. absurd (only text is fits readable)
stop_ends x known stopped.NotText only =
    λ text is fits readable. absurd (only text is fits readable)
stop_ends x known stopped.Write only = λ text is fits readable. tt
stop_ends x known stopped.NoMemory only = λ text is fits readable. tt

script_ends : (x : script.Texts) (known : Option (List ℕ)) (r : Result ScriptEnd RunFault)
    → Only x known r → OnlyEnds x known (ending_of_script r)
script_ends x known (Ok end) only = λ text is fits readable. answered x.tracker (end.refusals == 0)
script_ends x known (Err e) only = stop_ends x known e only

-- the texts that the script was given are these
script_only : (x y : script.Texts) (known : Option (List ℕ)) (r : Result ScriptEnd RunFault)
    (ending : Ending) → y ≡ x → Only y known r → ending ≡ ending_of_script r
    → OnlyEnds x known ending
script_only x y known r ending same only is =
    subst (OnlyEnds x known) (sym is)
    (script_ends x known r (subst (λ z. Only z known r) same only))

-- ---- a crew over readable texts

crew_ends : (x : script.Texts) (lines : List (List ℕ)) (known : Option (List ℕ))
    (r : Result ScriptEnd CrewFault) → CrewOnly x lines known r
    → OnlyCrewEnds x lines known (ending_of_crew r)
crew_ends x lines known (Ok end) only =
    λ text is fits read readable. answered x.tracker (end.refusals == 0)
crew_ends x lines known (Err (crew.Run e)) only =
    λ text is fits read readable.
    stop_ends x known e (λ t i f r. only.read t i f read r) text is fits readable
crew_ends x lines known (Err (crew.BadOutcome n)) only =
    λ text is fits read readable. absurd (only.read text is fits read readable)

crew_only : (x y : script.Texts) (lines given : List (List ℕ)) (known : Option (List ℕ))
    (r : Result ScriptEnd CrewFault) (ending : Ending) → y ≡ x → given ≡ lines
    → CrewOnly y given known r → ending ≡ ending_of_crew r → OnlyCrewEnds x lines known ending
crew_only x y lines given known r ending same its only is =
    subst (OnlyCrewEnds x lines known) (sym is)
    (crew_ends x lines known r
    (subst (λ l. CrewOnly x l known r) its (subst (λ z. CrewOnly z given known r) same only)))

crew_says : (n m : ℕ) (x y : script.Texts) (lines given : List (List ℕ))
    (known old new : Option (List ℕ)) (r : Result ScriptEnd CrewFault) → m ≡ n → y ≡ x
    → given ≡ lines → CrewSays (crew_tells m) y given known old new r
    → CrewSays (crew_tells n) x lines known old new r
crew_says n m x y lines given known old new r crew same its says =
    subst (λ k. CrewSays (crew_tells k) x lines known old new r) crew
    (subst (λ l. CrewSays (crew_tells m) x l known old new r) its
    (subst (λ z. CrewSays (crew_tells m) z given known old new r) same says))

-- ---- by the inputs

pub plays_alone : (n : ℕ) (x : Texts) (suite : List ℕ) (inputs : Inputs)
    (known old new : Option (List ℕ)) (r : Result ScriptEnd RunFault) (ending : Ending) → n ≡ 0
    → AreInputsOf x suite n inputs → Says (texts_of_inputs inputs) known old new r
    → Only (texts_of_inputs inputs) known r → ending ≡ ending_of_script r
    → Plays n x suite known old new ending
plays_alone n x suite inputs known old new r ending zero are says only is =
    subst (λ m. Plays m x suite known old new ending) (sym zero)
    (record {
      says = (r, subst (λ y. Says y known old new r) are.texts says, is);
      only = script_only (script_texts x suite) (texts_of_inputs inputs) known r ending are.texts
          only is;
    })

pub plays_crew : (n : ℕ) (x : Texts) (suite : List ℕ) (inputs : Inputs)
    (known old new : Option (List ℕ)) (r : Result ScriptEnd CrewFault) (ending : Ending)
    → (n == 0) ≡ false → AreInputsOf x suite n inputs
    → CrewSays (crew_tells inputs.builders) (texts_of_inputs inputs) (outcomes_of inputs) known old
    new r
    → CrewOnly (texts_of_inputs inputs) (outcomes_of inputs) known r → ending ≡ ending_of_crew r
    → Plays n x suite known old new ending
plays_crew n x suite inputs known old new r ending some are says only is =
    record {
      says =
          rw some (
            r,
            crew_says (crew_size n) inputs.builders (script_texts x suite) (texts_of_inputs inputs)
                (outcome_lines x) (outcomes_of inputs) known old new r are.crew are.texts
                are.outcomes says,
            is,
          );
      only =
          rw some
          (crew_only (script_texts x suite) (texts_of_inputs inputs) (outcome_lines x)
          (outcomes_of inputs) known r ending are.texts are.outcomes only is);
    }

-- an ending that may be is one that readable texts have, whoever answers the script
pub play_only : (n : ℕ) (x : Texts) (suite : List ℕ) (known : Option (List ℕ)) (ending : Ending)
    → MayEnd x.tracker ending → OnlyPlayEnds n x suite known ending
play_only n x suite known ending may =
    elim (n == 0) as (λ b.
    MatchBool b (OnlyEnds (script_texts x suite) known ending)
    (OnlyCrewEnds (script_texts x suite) (outcome_lines x) known ending)) [
      | true ↦ λ text is fits readable. may
      | false ↦ λ text is fits read readable. may
    ]

-- ---- known files

pub same_texts : (files : RunFiles) (x y : Texts) → AreKnownTexts files x → AreTextsOf files y
    → x ≡ y
same_texts files x y known read =
    let made = λ (a p s : List ℕ) (st t o j : Option (List ℕ)).
    (let it : Texts = record {
      archs = a;
      packages = p;
      sources = s;
      state = st;
      tracker = t;
      outcomes = o;
      journal = j;
    } in it) in
    let ((((indices, state), tracker), outcomes), journal) = read in
    ap (λ v. made v x.packages x.sources x.state x.tracker x.outcomes x.journal)
    (known_same _ x.archs y.archs known.archs indices.archs_text)
    ∙ ap (λ v. made y.archs v x.sources x.state x.tracker x.outcomes x.journal)
    (known_same _ x.packages y.packages known.packages indices.packages_text)
    ∙ ap (λ v. made y.archs y.packages v x.state x.tracker x.outcomes x.journal)
    (known_same _ x.sources y.sources known.sources indices.sources_text)
    ∙ ap (λ v. made y.archs y.packages y.sources v x.tracker x.outcomes x.journal)
    (given_same files.state x.state y.state known.state state)
    ∙ ap (λ v. made y.archs y.packages y.sources y.state v x.outcomes x.journal)
    (given_same files.tracker x.tracker y.tracker known.tracker tracker)
    ∙ ap (λ v. made y.archs y.packages y.sources y.state y.tracker v x.journal)
    (given_same files.outcomes x.outcomes y.outcomes known.outcomes outcomes)
    ∙ ap (λ v. made y.archs y.packages y.sources y.state y.tracker y.outcomes v)
    (given_same files.journal x.journal y.journal known.journal journal)

-- a known file isn't refused as no text
no_such_text : (files : RunFiles) (role : Role) (x : Texts) → FailsAt files role text_fault.NotText
    → AreKnownTexts files x → ⊥
no_such_text files Input x failed known = failed
no_such_text files Archs x failed known = one_text _ x.archs known.archs failed.fits
no_such_text files Packages x failed known = one_text _ x.packages known.packages failed.fits
no_such_text files Sources x failed known = one_text _ x.sources known.sources failed.fits
no_such_text files State x (before, (file, is, may)) known =
    given_text files.state x.state file known.state is may.fits
no_such_text files Tracker x (before, (file, is, may)) known =
    given_text files.tracker x.tracker file known.tracker is may.fits
no_such_text files Outcomes x (before, (file, is, may)) known =
    given_text files.outcomes x.outcomes file known.outcomes is may.fits
no_such_text files Journal x (before, (file, is, may)) known =
    given_text files.journal x.journal file known.journal is may.fits

-- ---- the whole

pub unread_ends : (files : RunFiles) (x : Texts) (role : Role) (e : TextFault)
    → FailsAt files role e
    → AreKnownTexts files x → MayEnd x.tracker (ending_of_file role e)
unread_ends files x role text_fault.CannotRead failed known = tt
unread_ends files x role text_fault.TooLong failed known = tt
unread_ends files x role text_fault.NotText failed known =
    absurd (no_such_text files role x failed known)
unread_ends files x role text_fault.NoMemory failed known = tt

-- if a file isn't read, or memory runs out for the inputs, nothing is written
pub run_without_inputs : (files : RunFiles) (suite : List ℕ) (known left old new : Option (List ℕ))
    (ending : Ending) → HasNoInputs files ending → Keeps known left → Keeps old new
    → EndsRun files suite known left old new ending
run_without_inputs files suite known left old new ending (inl lacks) same kept = record {
  says = inl (lacks, kept);
  only = λ x files-are. play_only files.builders x suite known ending
      (subst (MayEnd x.tracker) (sym lacks) tt);
  untouched = λ tells. same;
}
run_without_inputs files suite known left old new ending (inr (role, fault, failed, is)) same
    kept = record {
      says = inr (inl ((role, fault, failed, is), kept));
      only = λ x files-are. play_only files.builders x suite known ending
          (subst (MayEnd x.tracker) (sym is) (unread_ends files x role fault failed files-are));
      untouched = λ tells. same;
    }

-- over its inputs the script ends the run
pub run_over_inputs : (files : RunFiles) (suite : List ℕ) (inputs : Inputs)
    (known left old new : Option (List ℕ)) (ending : Ending) → AreInputsFor files suite inputs
    → PlaysInputs files.builders inputs known old new ending
    → tells_of_unread_file ending ≡ false → EndsRun files suite known left old new ending
run_over_inputs files suite inputs known left old new ending (x, texts, are) plays told =
    let played = plays x suite are in
    record {
      says = inr (inr (x, texts, played.says));
      only = λ y files-are. subst (λ z. OnlyPlayEnds files.builders z suite known ending)
          (sym (same_texts files y x files-are texts)) played.only;
      untouched = λ tells. (let other : true ≡ false = sym tells ∙ told in absurd cc);
    }
