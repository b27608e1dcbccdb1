-- What an error of `regex` says of the text.
use Rattle.std.proofs.Common.{◌≢◌, ℕ, List, refl}
use Rattle.regex.specs.Failures.{IsRightKind}
use Rattle.regex.specs.Patterns.{default_config}
use Rattle.regex.specs.Sources.{IsRefusal}
use Rattle.regex.specs.declared.error.Error.{Error}
use Rattle.regex.specs.declared.error.Error.TheVariants.{CompiledTooBig, Internal, OutOfMemory}
use Rattle.regex.specs.declared.error.Error.TheVariants.{Syntax}
use Rattle.td_query.specs.Sources.{IsRefusedForCause}

pub refused_for : (text : List ℕ) (e : Error) → e ≢ OutOfMemory → e ≢ Internal
    → IsRefusal default_config text e → IsRightKind default_config text e → IsRefusedForCause text
refused_for text (Syntax fault) known checked grammar kind =
    (Syntax fault, (grammar fault refl, kind))
refused_for text CompiledTooBig known checked grammar kind = (CompiledTooBig, kind)
refused_for text Internal known checked grammar kind = absurd (checked refl)
refused_for text OutOfMemory known checked grammar kind = absurd (known refl)
