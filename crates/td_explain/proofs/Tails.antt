-- A line from a place on, if that is text.
use Rattle.std.proofs.Common.{◌≡◌, ℕ, Bool, true, false, List, drop, if◌then◌else◌, refl, ap, subst}
use Rattle.std.proofs.Common.{◌∙◌}
use Rattle.std.specs.Prelude.{IsUtf8}
use Rattle.std.specs.Str.{is_utf8}
use Rattle.std.proofs.lemmas.Str.{IsUtf8-from_is_utf8, is_utf8-from_IsUtf8}

pub tail_is : (offset : ℕ) (line bytes tail text : List ℕ) → bytes ≡ line → tail ≡ drop offset bytes
    → text ≡ tail → IsUtf8 tail
    → text ≡ (if is_utf8 (drop offset line) then drop offset line else line)
tail_is offset line bytes tail text first second third is =
    let same : tail ≡ drop offset line = second ∙ ap (drop offset) first in
    let holds : is_utf8 (drop offset line) ≡ true =
    is_utf8-from_IsUtf8 (drop offset line) (subst IsUtf8 same is) in
    rw holds (third ∙ same)

false_of : (bs : List ℕ) (b : Bool) → is_utf8 bs ≡ b → ¬ IsUtf8 bs → b ≡ false
false_of bs true is bad = absurd (bad (IsUtf8-from_is_utf8 bs is))
false_of bs false is bad = refl

pub line_is : (offset : ℕ) (line bytes tail : List ℕ) → bytes ≡ line → tail ≡ drop offset bytes
    → ¬ IsUtf8 tail
    → line ≡ (if is_utf8 (drop offset line) then drop offset line else line)
line_is offset line bytes tail first second bad =
    let same : tail ≡ drop offset line = second ∙ ap (drop offset) first in
    let fails : is_utf8 (drop offset line) ≡ false =
    false_of (drop offset line) _ refl (subst (λ l. ¬ IsUtf8 l) same bad) in
    rw fails refl
