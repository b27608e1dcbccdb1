-- A run stops for a stream only if that may fail.
use Rattle.std.proofs.Common.{◌≡◌, Bool, true, Result, Ok, Err, IfOk, IfErr, String}
use Rattle.std.proofs.Common.{ap, refl, string_bytes, subst}
use Rattle.std.specs.Prelude.{IsErrOf}
use Rattle.std.specs.declared.alloc.Global.{Global}
use Rattle.td_bytes.specs.declared.text.TextFault.{TextFault}
use Rattle.td_bytes.specs.declared.text.TextFault.TheVariants as text
use Rattle.td_script.specs.declared.running.RunFault.{RunFault}
use Rattle.td_script.specs.declared.running.RunFault.TheVariants.{Read, Write}
use Rattle.td_script.specs.declared.told.Told.{Told as ToldText}
use Rattle.td_script.specs.OpeningInside.{IsUnread, TellsOrRefuses, of_reading}
use Rattle.td_inputs.specs.Inputs.{Texts}
use Rattle.td_script.specs.Telling.{Telling}

failed_read : (f : TextFault) → Read ≡ of_reading f → f ≡ text.CannotRead
failed_read text.CannotRead is = refl
failed_read text.TooLong is = cc
failed_read text.NotText is = cc
failed_read text.NoMemory is = cc

no_failed_write : (f : TextFault) → Write ≡ of_reading f → ⊥
no_failed_write text.CannotRead is = cc
no_failed_write text.TooLong is = cc
no_failed_write text.NotText is = cc
no_failed_write text.NoMemory is = cc

-- if there is no answer because the script can't be read, a read has failed
pub unread_due : (May : Telling) (x : Texts) (read : Result (String Global) TextFault)
    (r : Result ToldText RunFault) (may : Bool)
    → IfOk read (λ t. TellsOrRefuses May x (string_bytes t) r) → IfErr read (λ f. IsUnread x f r)
    → (IsErrOf read text.CannotRead → may ≡ true) → r ≡ Err Read → may ≡ true
unread_due May x (Ok t) r may says unread due is =
    absurd (subst (λ (q : Result ToldText RunFault). TellsOrRefuses May x (string_bytes t) q) is
    says)
unread_due May x (Err f) r may says unread due is =
    let h = subst (IsUnread x f) is unread in
    due (ap (λ (g : TextFault). Err g) (failed_read f h.1))

-- before the answers are written, no write has failed
pub never_unwritten : (May : Telling) (x : Texts) (read : Result (String Global) TextFault)
    (r : Result ToldText RunFault) → IfOk read (λ t. TellsOrRefuses May x (string_bytes t) r)
    → IfErr read (λ f. IsUnread x f r) → r ≡ Err Write → ⊥
never_unwritten May x (Ok t) r says unread is =
    subst (λ (q : Result ToldText RunFault). TellsOrRefuses May x (string_bytes t) q) is says
never_unwritten May x (Err f) r says unread is =
    let h = subst (IsUnread x f) is unread in no_failed_write f h.1
