-- The inputs of a run, by what was read of its files.
use Rattle.std.proofs.Common.{◌≡◌, List, ℕ, Result, Ok, Err, IfOk, IfErr, inl, inr, refl, subst}
use Rattle.std.proofs.Common.{sym}
use Rattle.std.specs.Result.{ForOk}
use Rattle.td_script.specs.declared.inputs.Inputs.{Inputs}
use Rattle.td_tool.specs.declared.ending.Ending.{Ending}
use Rattle.td_tool.specs.declared.ending.Ending.TheVariants.{NoMemory}
use Rattle.td_tool.specs.declared.file_texts.FileFault.{FileFault}
use Rattle.td_tool.specs.declared.run_files.RunTexts.{RunTexts}
use Rattle.td_tool.specs.Ending.{ending_of_file}
use Rattle.td_tool.specs.RunInside.{AreInputsFor, AreInputsOf, AreRunTexts, HasNoInputs}
use Rattle.td_tool.specs.RunInside.{HasRunFailed, IsWithinLimit, run_texts_of}
use Rattle.td_tool.specs.Runs.{RunFiles}

pub within_limit : (files : RunFiles) (read : Result RunTexts FileFault)
    → IfOk read (AreRunTexts files) → ForOk read IsWithinLimit
within_limit files read texts = λ x is.
    let read-texts = subst (λ (r : Result RunTexts FileFault). IfOk r (AreRunTexts files)) is texts
    in
    let ((((indices, state), tracker), outcomes), journal) = read-texts in
    indices.archs_text.read.0

pub inputs_are : (files : RunFiles) (suite : List ℕ) (read : Result RunTexts FileFault)
    (made : Result Inputs Ending) → IfOk read (AreRunTexts files)
    → IfOk read (λ x. IfOk made (AreInputsOf (run_texts_of x) suite files.builders))
    → IfErr read (λ f. made ≡ Err (ending_of_file f.role f.fault))
    → IfOk made (AreInputsFor files suite)
inputs_are files suite (Ok x) (Ok inputs) texts are unread = (run_texts_of x, texts, are)
inputs_are files suite (Ok x) (Err e) texts are unread = tt
inputs_are files suite (Err f) made texts are unread =
    subst (λ (m : Result Inputs Ending). IfOk m (AreInputsFor files suite)) (sym unread) tt

pub no_inputs : (files : RunFiles) (read : Result RunTexts FileFault) (made : Result Inputs Ending)
    → IfErr read (HasRunFailed files) → IfOk read (λ x. IfErr made (λ e. e ≡ NoMemory))
    → IfErr read (λ f. made ≡ Err (ending_of_file f.role f.fault))
    → IfErr made (HasNoInputs files)
no_inputs files (Ok x) (Ok inputs) failed memory unread = tt
no_inputs files (Ok x) (Err e) failed memory unread = inl memory
no_inputs files (Err f) made failed memory unread =
    subst (λ (m : Result Inputs Ending). IfErr m (HasNoInputs files)) (sym unread)
    (inr (f.role, f.fault, failed, refl))
