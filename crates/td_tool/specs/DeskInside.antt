-- What the inner functions of `desk` answer. This project's own.
use Rattle.std.specs.Prelude.{◌≡◌, ◌≤◌, ℕ, Bool, true, List, Option, None, length, option_map}
use Rattle.std.specs.Prelude.{string_bytes}
use Rattle.td_bytes.specs.declared.text.TextFault.{TextFault}
use Rattle.td_ledger.specs.Calls.{Known}
use Rattle.td_inputs.specs.Inputs as script
use Rattle.td_session.specs.Grounds.{texts_of}
use Rattle.td_session.specs.declared.desk_file.OpenRefusal.{OpenRefusal}
use Rattle.td_session.specs.declared.desk_file.OpenRefusal.TheVariants as refusal
use Rattle.td_session.specs.declared.texts.SessionTexts.{SessionTexts}
use Rattle.td_words.specs.Asked.{desk_words}
use Rattle.td_words.specs.declared.request.DeskRequest.{DeskRequest}
use Rattle.td_tool.specs.declared.desk_texts.DeskTexts.{DeskTexts}
use Rattle.td_tool.specs.declared.ending.Ending.{Ending}
use Rattle.td_tool.specs.declared.ending.Ending.TheVariants.{Locked}
use Rattle.td_tool.specs.Desks.{MayEndDesk, SessionEnds, desk_files_asked}
use Rattle.td_tool.specs.Limits.{file_limit}
use Rattle.td_tool.specs.Runs.{AreTextsOf, RunFiles, Texts, script_texts}

-- the files that are asked for
abbrev pub desk_files_at : (List ℕ → Option (List ℕ)) → (List ℕ → TextFault → Bool)
    → DeskRequest → RunFiles
desk_files_at bytes can_fail r = desk_files_asked bytes can_fail (desk_words r)

-- the texts that were read
abbrev pub desk_texts_of : DeskTexts → Texts
desk_texts_of x = record {
  archs = string_bytes x.indices.archs;
  packages = string_bytes x.indices.packages;
  sources = string_bytes x.indices.sources;
  state = option_map string_bytes x.state;
  tracker = option_map string_bytes x.tracker;
  outcomes = None;
  journal = None;
}

-- the files hold the texts that were read
abbrev pub AreDeskTexts : RunFiles → DeskTexts → Type 0
AreDeskTexts files x = AreTextsOf files (desk_texts_of x)

-- the table's text is within the limit
abbrev pub IsWithinLimit : DeskTexts → Type 0
IsWithinLimit x = length (string_bytes x.indices.archs) ≤ file_limit

-- the texts of a session are these, with this suite
abbrev pub AreSessionTexts : Texts → List ℕ → SessionTexts → Type 0
AreSessionTexts x suite made = texts_of made ≡ script_texts x suite

-- the files hold texts, and those of a session are made of them
abbrev pub AreTextsFor : RunFiles → List ℕ → SessionTexts → Type 0
AreTextsFor files suite made =
    (x : Texts) × AreTextsOf files x × AreSessionTexts x suite made

-- over whatever these texts are of, a desk is kept so
pub record KeepsSo (made : SessionTexts) (found : Known) (refuses : OpenRefusal → Bool)
    (known left old new : Option (List ℕ)) (ending : Ending) : Type 0 where
  pub says : (x : Texts) (suite : List ℕ) → AreSessionTexts x suite made
      → SessionEnds x suite found known left old new ending
  pub only : script.AreReadable (texts_of made) → MayEndDesk (texts_of made).tracker ending
  pub locked : ending ≡ Locked → refuses refusal.Locked ≡ true
