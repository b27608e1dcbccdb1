-- What affected sources by steps or by levels say, and over which rows.
use Rattle.std.proofs.Common.{◌≡◌, ℕ, Bool, true, false, List, Option, None, Some, Result, Ok, Err}
use Rattle.std.proofs.Common.{IfOk, String, string_bytes, refl}
use Rattle.std.specs.declared.alloc.Global.{Global}
use Rattle.td_rows.specs.Table.{Table}
use Rattle.td_indices.specs.Archive.{Contents}
use Rattle.td_query.specs.Tracking.{Tracking}
use Rattle.td_inputs.specs.Inputs.{AreOpened}
use Rattle.td_plan.specs.Steps.{IsSteps, IsStepsWhy}
use Rattle.td_words.specs.declared.request.WavesForm.{WavesForm}
use Rattle.td_tool.specs.TrackInside.{AreLookedAt, asked_of, asked_with, saying_of}
use Rattle.td_tool.specs.Tracks.{Saying, waves_by, waves_says}

-- the rows that are given are looked at, or all with which a desk opens
pub looked_at : (c : Contents) (given : Option Table) (all : Table) → AreOpened c all
    → (rows : Table) × AreLookedAt c given rows
looked_at c None all opened = (all, opened)
looked_at c (Some rows) all opened = (rows, refl)

-- steps say what they are asked for: each part, or each source with its reasons
pub steps_say : (c : Contents) (t : Tracking) (rows : Table) (text : List ℕ) (why : Bool)
    → (why ≡ false → IsSteps c t text) → (why ≡ true → IsStepsWhy c t text)
    → waves_by true why c t rows text
steps_say c t rows text false parts reasons = parts refl
steps_say c t rows text true parts reasons = reasons refl

pub steps_told : {E : Type 0} (r : Result (String Global) E) (c : Contents) (t : Tracking)
    (why : Bool) → IfOk r (λ said. why ≡ false → IsSteps c t (string_bytes said))
    → IfOk r (λ said. why ≡ true → IsStepsWhy c t (string_bytes said))
    → IfOk r (λ said. (rows : Table) → waves_by true why c t rows (string_bytes said))
steps_told (Ok said) c t why parts reasons =
    λ rows. steps_say c t rows (string_bytes said) why parts reasons
steps_told (Err e) c t why parts reasons = tt

-- ---- what the words of waves ask for

asked_by_flags : (Holds : Saying → Type 0) (steps why : Bool)
    → Holds (saying_of (asked_with steps why)) → Holds (waves_by steps why)
asked_by_flags Holds true true holds = holds
asked_by_flags Holds true false holds = holds
asked_by_flags Holds false true holds = holds
asked_by_flags Holds false false holds = holds

-- what holds of what is asked for holds of what the words say
pub asked_says : (Holds : Saying → Type 0) (form : WavesForm)
    → Holds (saying_of (asked_of form)) → Holds (waves_says form)
asked_says Holds form holds = asked_by_flags Holds form.steps form.why holds
