-- A part of a line, if that is text.
use Rattle.std.proofs.Common.{◌≡◌, Bool, true, false, ℕ, List, if◌then◌else◌, refl, subst, ◌∙◌}
use Rattle.std.specs.Prelude.{IsUtf8}
use Rattle.std.specs.Str.{is_utf8}
use Rattle.std.proofs.lemmas.Str.{IsUtf8-from_is_utf8, is_utf8-from_IsUtf8}

pub part_is : (part line bytes text : List ℕ) → bytes ≡ part → text ≡ bytes → IsUtf8 bytes
    → text ≡ (if is_utf8 part then part else line)
part_is part line bytes text same read is =
    let holds : is_utf8 part ≡ true = is_utf8-from_IsUtf8 part (subst IsUtf8 same is) in
    rw holds (read ∙ same)

false_of : (bs : List ℕ) (b : Bool) → is_utf8 bs ≡ b → ¬ IsUtf8 bs → b ≡ false
false_of bs true is bad = absurd (bad (IsUtf8-from_is_utf8 bs is))
false_of bs false is bad = refl

pub whole_is : (part line bytes : List ℕ) → bytes ≡ part → ¬ IsUtf8 bytes
    → line ≡ (if is_utf8 part then part else line)
whole_is part line bytes same bad =
    let fails : is_utf8 part ≡ false =
    false_of part _ refl (subst (λ l. ¬ IsUtf8 l) same bad) in
    rw fails refl
