-- How a run ends by what was read and answered.
use Rattle.std.proofs.Common.{◌≡◌, ◌≤◌, ℕ, List, length, Option, Some, None, Result, Ok, Err, IfOk}
use Rattle.std.proofs.Common.{IfErr, String, ap, refl, string_bytes, sym, subst}
use Rattle.std.specs.Io.KnownBytes.{Keeps}
use Rattle.std.specs.Prelude.{IfSome, IsErrOf, MatchResult}
use Rattle.std.specs.declared.alloc.Global.{Global}
use Rattle.std.proofs.lemmas.Result.{MatchResult-at_ok}
use Rattle.std.proofs.lemmas.Str.{IsUtf8-string_bytes}
use Rattle.td_bytes.specs.declared.text.TextFault.{TextFault}
use Rattle.td_bytes.specs.declared.text.TextFault.TheVariants as text
use Rattle.td_script.specs.declared.running.RunFault.{RunFault}
use Rattle.td_script.specs.declared.running.RunFault.TheVariants.{Input, Read, TooLong, NotText}
use Rattle.td_script.specs.declared.running.RunFault.TheVariants.{Write, NoMemory}
use Rattle.td_script.specs.Limits.{script_limit}
use Rattle.td_script.specs.declared.told.Told.{Told as ToldText}
use Rattle.td_script.specs.Ends.{AreFine, Plays, SaysBy}
use Rattle.td_script.specs.OpeningInside.{IsRefusedBy, IsUnread, Tells, TellsOrRefuses, of_reading}
use Rattle.td_inputs.specs.Inputs.{Texts}
use Rattle.td_script.specs.Telling.{Telling}
use Rattle.td_script.proofs.OnlyLaws.{IsLong, IsNoText}

-- the known bytes are those that were read
pub all_read : (known : Option (List ℕ)) (t : List ℕ) → IfSome known (λ all. t ≡ all)
    → IfSome known (λ all. all ≡ t)
all_read None t h = tt
all_read (Some all) t h = sym h

-- a script that was read was answered
pub plays : (May : Telling) (x : Texts) (known : Option (List ℕ))
    (read : Result (String Global) TextFault) (r : Result ToldText RunFault) (told : ToldText)
    (So : List ℕ → ℕ → Type 0) → r ≡ Ok told
    → IfOk read (λ t. IfSome known (λ all. string_bytes t ≡ all))
    → IfOk read (λ t. length (string_bytes t) ≤ script_limit)
    → IfOk read (λ t. MatchResult r (Tells May x (string_bytes t)) (IsRefusedBy x))
    → IfErr read (λ f. IsUnread x f r)
    → So (string_bytes told.text) told.refused → Plays May x known So
plays May x known (Ok t) r told So is whole within says unread so =
    let h = MatchResult-at_ok (Tells May x (string_bytes t)) (IsRefusedBy x) told is says in (
      h.0,
      h.1,
      h.2,
      (
        string_bytes t,
        record {
          whole = all_read known (string_bytes t) whole;
          fits = (within, IsUtf8-string_bytes t);
        },
        (string_bytes told.text, told.refused, h.3, so),
      ),
    )
plays May x known (Err f) r told So is whole within says unread so =
    absurd (subst (IsUnread x f) is unread)

-- ---- a run that stops

kept : (old : Option (List ℕ)) → Keeps old old
kept None = tt
kept (Some bytes) = refl

-- a text is refused, or memory runs out
says_refused : (May : Telling) (x : Texts) (known old : Option (List ℕ)) (e : RunFault)
    → IsRefusedBy x e → SaysBy May x known old old (Err e)
says_refused May x known old (Input e) h = (h, kept old)
says_refused May x known old Read h = absurd h
says_refused May x known old TooLong h = absurd h
says_refused May x known old NotText h = absurd h
says_refused May x known old Write h = absurd h
says_refused May x known old NoMemory h = kept old

-- no text is refused, and no script was read, for this
says_fine : (May : Telling) (x : Texts) (known old : Option (List ℕ)) (f : TextFault)
    → AreFine x → (f ≡ text.TooLong → IsLong known) → (f ≡ text.NotText → IsNoText known)
    → SaysBy May x known old old (Err (of_reading f))
says_fine May x known old text.CannotRead fine long other = (fine, kept old)
says_fine May x known old text.TooLong fine long other = (fine, long refl, kept old)
says_fine May x known old text.NotText fine long other = (fine, other refl, kept old)
says_fine May x known old text.NoMemory fine long other = kept old

-- no script was read
says_unread : (May : Telling) (x : Texts) (known old : Option (List ℕ)) (f : TextFault)
    (e : RunFault) → IsUnread x f (Err e) → (f ≡ text.TooLong → IsLong known)
    → (f ≡ text.NotText → IsNoText known) → SaysBy May x known old old (Err e)
says_unread May x known old f (Input e) h long other = (h, kept old)
says_unread May x known old f NoMemory h long other = kept old
says_unread May x known old f Read h long other =
    subst (λ (e : RunFault). SaysBy May x known old old (Err e)) (sym h.1)
    (says_fine May x known old f h.0 long other)
says_unread May x known old f TooLong h long other =
    subst (λ (e : RunFault). SaysBy May x known old old (Err e)) (sym h.1)
    (says_fine May x known old f h.0 long other)
says_unread May x known old f NotText h long other =
    subst (λ (e : RunFault). SaysBy May x known old old (Err e)) (sym h.1)
    (says_fine May x known old f h.0 long other)
says_unread May x known old f Write h long other =
    subst (λ (e : RunFault). SaysBy May x known old old (Err e)) (sym h.1)
    (says_fine May x known old f h.0 long other)

pub stopped : (May : Telling) (x : Texts) (known old : Option (List ℕ))
    (read : Result (String Global) TextFault) (r : Result ToldText RunFault) (e : RunFault)
    → r ≡ Err e → IfOk read (λ t. TellsOrRefuses May x (string_bytes t) r)
    → IfErr read (λ f. IsUnread x f r) → (IsErrOf read text.TooLong → IsLong known)
    → (IsErrOf read text.NotText → IsNoText known) → SaysBy May x known old old (Err e)
stopped May x known old (Ok t) r e is says unread long other =
    says_refused May x known old e
    (subst (λ (q : Result ToldText RunFault). TellsOrRefuses May x (string_bytes t) q) is says)
stopped May x known old (Err f) r e is says unread long other =
    says_unread May x known old f e (subst (IsUnread x f) is unread)
    (λ same. long (ap (λ (y : TextFault). Err y) same))
    (λ same. other (ap (λ (y : TextFault). Err y) same))
